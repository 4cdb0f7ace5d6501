use Rattle.straight_entries.proofs.RunningLaws.{both-reported, join-next}
use borrow.Author.Rules.{rules}
use Rattle.straight_entries.proofs.running.next.Goals as goal

pub join-requires : goal.join-requires
join-requires c = search (rules, both-reported)

pub returns : goal.returns
returns c = search (rules, join-next)
