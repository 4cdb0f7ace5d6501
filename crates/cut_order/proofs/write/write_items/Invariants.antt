use Rattle.cut.specs.Cuts.{held}
use Rattle.cut_order.proofs.Writing.{Writing}
use Rattle.cut_order.proofs.write.write_items.Given as goal

abbrev pub invariant-loop-i : goal.invariant-loop-i
invariant-loop-i l = Writing (held l.call) l.initial.cut_at l.initial.cut l.cut_at l.cut l.i
