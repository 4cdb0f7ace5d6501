use Rattle.std.proofs.Common.{rules}
use Rattle.store_gather.proofs.Gathering.{gather-none, gather-more}
use Rattle.store_gather.proofs.gather.Goals as goal

pub loop-k-init : goal.loop-k-init
loop-k-init g c = gather-none _ _ _ _

pub loop-k-preserved : goal.loop-k-preserved
loop-k-preserved g c = search (rules, gather-more)
