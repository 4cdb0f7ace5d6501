use Rattle.fields.proofs.Putting.{Putting}
use Rattle.fields.proofs.field.put.Given as goal

abbrev pub invariant-loop-i : goal.invariant-loop-i
invariant-loop-i l = Putting l.initial.bytes l.at l.width l.value l.bytes l.i l.x
