use Rattle.candidate.proofs.Seeking.{finding}
use borrow.Author.Rules.{rules}
use Rattle.candidate.proofs.next.next_cut.Goals as goal

pub returns : goal.returns
returns c = search (rules, finding)
