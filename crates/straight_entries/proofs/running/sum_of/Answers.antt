use Rattle.straight_entries.proofs.RunningLaws.{joins, counts-fit, zeros-fit}
use borrow.Author.Rules.{rules}
use Rattle.straight_entries.proofs.running.sum_of.Goals as goal

pub add-t-requires : goal.add-t-requires
add-t-requires c = search (rules, joins)

pub overflow_add-result : goal.overflow_add-result
overflow_add-result c = record { fits = counts-fit c.args.a c.args.b c.requires.both }

pub overflow_add-result-2 : goal.overflow_add-result-2
overflow_add-result-2 c = record { fits = zeros-fit c.args.a c.args.b c.requires.both }

pub returns : goal.returns
returns c = search (rules, joins)
