use Rattle.fields.proofs.Getting.{Getting}
use Rattle.fields.proofs.field.get.Given as goal

abbrev pub invariant-loop-i : goal.invariant-loop-i
invariant-loop-i l = Getting l.bytes l.at l.width l.v l.i
