use Rattle.stitch_cell.specs.CellLaws.{steady}
use Rattle.stitch_cell.proofs.cell.moved.Goals as goal

pub returns-then-far-2 : goal.returns-then-far-2
returns-then-far-2 c = steady _ c.if-near.true c.if-far.true c.if-far-2.true
