use borrow.Author.Rules.{rules}
use Rattle.record_values.proofs.Mixing.{values_listed}
use Rattle.record_values.proofs.values.list_values.Goals as goal

pub returns : goal.returns
returns c = search (rules, values_listed)
