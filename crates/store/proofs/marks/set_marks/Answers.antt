use Rattle.store.proofs.Copying.{marks-set}
use borrow.Author.Rules.{rules}
use Rattle.store.proofs.marks.set_marks.Goals as goal

pub returns : goal.returns
returns c = search (rules, marks-set)
