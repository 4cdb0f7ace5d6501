use Rattle.store.specs.Bytes.{LookedBytes}
use Rattle.store.proofs.bytes.live_marks.Given as goal

abbrev pub invariant-loop-p : goal.invariant-loop-p
invariant-loop-p l = LookedBytes l.held l.p l.n l.order l.handles l.places
