use Rattle.straight.specs.PartLaws.{Part}
use Rattle.straight.specs.SumLaws.{winds}
use Rattle.straight.proofs.sum.winding_of.Given as goal

abbrev pub invariant-loop-i : goal.invariant-loop-i
invariant-loop-i l = Part (winds (record { x = l.x; y = l.y })) 1 l.l l.i l.up l.down
