use Rattle.std.proofs.Common.{rules}
use Rattle.store_gather.proofs.Gathering.{handing-more, handing-end}
use Rattle.store_gather.proofs.show_handles.Goals as goal

pub loop-k-preserved : goal.loop-k-preserved
loop-k-preserved c = search (rules, handing-more)

pub returns : goal.returns
returns c = search (rules, handing-end)
