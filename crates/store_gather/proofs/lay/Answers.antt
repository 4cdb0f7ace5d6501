use Rattle.std.proofs.Common.{rules}
use Rattle.store_gather.proofs.Gathering.{lay-done}
use Rattle.store_gather.proofs.lay.Goals as goal

pub returns : goal.returns
returns g c = search (rules, lay-done)
