use Rattle.stitch_layout.specs.PuttingLaws.{Putting}
use Rattle.stitch_layout.proofs.layout.link_slices.Given as goal

abbrev pub invariant-loop-i : goal.invariant-loop-i
invariant-loop-i l = Putting l.points l.w l.initial.link l.link l.i
