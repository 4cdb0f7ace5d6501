use Rattle.std.proofs.Common.{rules}
use Rattle.store_gather.proofs.Gathering.{clear-all}
use Rattle.store_gather.proofs.clear.Goals as goal

pub returns : goal.returns
returns g c = search (rules, clear-all)
