use Rattle.straight_entries.proofs.RunningLaws.{joins, counts-fit}
use borrow.Author.Rules.{rules}
use Rattle.straight_entries.proofs.running.join.Goals as goal

pub returns-then-number-ne0 : goal.returns-then-number-ne0
returns-then-number-ne0 c = search (rules, joins)

pub overflow_add-a : goal.overflow_add-a
overflow_add-a c = record { fits = counts-fit c.args.a c.args.b c.requires }

pub returns-then-a-b-gt-MOST_LOOPS : goal.returns-then-a-b-gt-MOST_LOOPS
returns-then-a-b-gt-MOST_LOOPS c = search (rules, joins)

pub returns : goal.returns
returns c = search (rules, joins)
