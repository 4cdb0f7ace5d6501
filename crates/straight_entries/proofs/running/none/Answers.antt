use Rattle.straight_entries.proofs.RunningLaws.{joins}
use borrow.Author.Rules.{rules}
use Rattle.straight_entries.proofs.running.none.Goals as goal

pub returns : goal.returns
returns c = search (rules, joins)
