use Rattle.basis.specs.Refuse.{length_fault}
use borrow.Author.Rules.{rules}
use Rattle.basis.proofs.refuse.bad_length.Goals as goal

pub returns-then-count-le-MOST_FACTOR : goal.returns-then-count-le-MOST_FACTOR
unfolding length_fault
returns-then-count-le-MOST_FACTOR c = search rules
