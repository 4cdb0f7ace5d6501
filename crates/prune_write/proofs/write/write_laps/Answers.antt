use Rattle.std.proofs.Common.{rules}
use Rattle.prune_write.specs.WriteLaws.{lapping}
use Rattle.prune_write.proofs.write.write_laps.Goals as goal

pub loop-j-init : goal.loop-j-init
loop-j-init c = search (rules, lapping)

pub loop-j-preserved : goal.loop-j-preserved
loop-j-preserved c = search (rules, lapping)
