use Rattle.straight_cut.specs.MicrodegreesLaws.{Wholes}
use Rattle.straight_cut.proofs.microdegrees.write_wholes.Given as goal

abbrev pub invariant-loop-i : goal.invariant-loop-i
invariant-loop-i l = Wholes l.outline l.vc l.initial.room l.room l.i
