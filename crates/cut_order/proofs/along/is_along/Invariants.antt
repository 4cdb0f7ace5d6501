use Rattle.cut.specs.Cuts.{held}
use Rattle.cut_order.proofs.Following.{Following}
use Rattle.cut_order.proofs.along.is_along.Given as goal

abbrev pub invariant-loop-i : goal.invariant-loop-i
invariant-loop-i l = Following (held l.cuts) l.cut_at l.last l.i
