use Rattle.std.proofs.Common.{rules}
use Rattle.fields.proofs.Rowing.{reading-rows-more, reading-rows-end}
use Rattle.fields.proofs.shape.read_rows.Goals as goal

pub loop-row-preserved : goal.loop-row-preserved
loop-row-preserved c = search (rules, reading-rows-more)

pub returns : goal.returns
returns c = search (rules, reading-rows-end)
