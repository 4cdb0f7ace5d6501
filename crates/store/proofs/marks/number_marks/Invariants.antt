use Rattle.store.proofs.Looking.{Numbering}
use Rattle.store.proofs.marks.number_marks.Given as goal

abbrev pub invariant-loop-k : goal.invariant-loop-k
invariant-loop-k l = Numbering l.marks l.initial.held l.held l.k
