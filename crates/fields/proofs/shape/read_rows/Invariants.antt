use Rattle.fields.proofs.Rowing.{ReadingRows}
use Rattle.fields.proofs.shape.read_rows.Given as goal

abbrev pub invariant-loop-row : goal.invariant-loop-row
invariant-loop-row l = ReadingRows l.bytes l.at l.widths l.stride l.count l.initial.values l.to l.values l.row
