use Rattle.fields.proofs.Shaping.{Reading}
use Rattle.fields.proofs.shape.read_shape.Given as goal

abbrev pub invariant-loop-i : goal.invariant-loop-i
invariant-loop-i l = Reading l.bytes l.at l.widths l.initial.values l.to l.values l.p l.i
