use Rattle.fields.proofs.Copying.{Copying}
use Rattle.fields.proofs.copy.copy_by.Given as goal

abbrev pub invariant-loop-j : goal.invariant-loop-j
invariant-loop-j g l = Copying (goal.F-post g l.change) l.source l.from l.count l.initial.out l.to l.out l.j
