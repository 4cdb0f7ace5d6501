use Rattle.whole.specs.Two.{value}
use Rattle.straight.specs.Plane.{cross}
use Rattle.straight.specs.PartLaws.{Part}
use Rattle.straight.proofs.sum.area_of.Given as goal

abbrev pub invariant-loop-i : goal.invariant-loop-i
invariant-loop-i l = Part cross 320000000000000000 l.l l.i (value l.up) (value l.down)
