use Rattle.fields.proofs.Rowing.{WritingRows}
use Rattle.fields.proofs.shape.write_rows.Given as goal

abbrev pub invariant-loop-row : goal.invariant-loop-row
invariant-loop-row l = WritingRows l.values l.from l.widths l.stride l.count l.initial.bytes l.at l.bytes l.row
