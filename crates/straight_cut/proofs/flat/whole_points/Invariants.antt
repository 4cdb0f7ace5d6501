use Rattle.std.proofs.Common.{◌≡◌, take}
use Rattle.straight_cut.specs.Straight.{whole_points}
use Rattle.straight_cut.proofs.flat.whole_points.Given as goal

abbrev pub invariant-loop-x : goal.invariant-loop-x
invariant-loop-x l = l.ok ≡ whole_points (take l.x-index l.points)
