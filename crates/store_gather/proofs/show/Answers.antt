use Rattle.std.proofs.Common.{rules}
use Rattle.store_gather.proofs.Gathering.{show-done}
use Rattle.store_gather.proofs.show.Goals as goal

pub returns : goal.returns
returns g c = search (rules, show-done)
