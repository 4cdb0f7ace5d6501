use Rattle.std.proofs.Common.{rules}
use Rattle.fields.proofs.Rowing.{writing-rows-more, writing-rows-end}
use Rattle.fields.proofs.shape.write_rows.Goals as goal

pub loop-row-preserved : goal.loop-row-preserved
loop-row-preserved c = search (rules, writing-rows-more)

pub returns : goal.returns
returns c = search (rules, writing-rows-end)
