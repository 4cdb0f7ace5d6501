use Rattle.fields.proofs.Shaping.{Writing}
use Rattle.fields.proofs.shape.write_shape.Given as goal

abbrev pub invariant-loop-i : goal.invariant-loop-i
invariant-loop-i l = Writing l.values l.from l.widths l.initial.bytes l.at l.bytes l.p l.i
