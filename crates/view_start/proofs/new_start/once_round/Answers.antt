use Rattle.std.proofs.Common.{rules}
use Rattle.view_start.proofs.NewStarts.{news}
use Rattle.view_start.proofs.new_start.once_round.Goals as goal

pub create-requires : goal.create-requires
create-requires c = search (rules, news)
