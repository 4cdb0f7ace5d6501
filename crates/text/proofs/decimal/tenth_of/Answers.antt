use mathlib.Core.Path.{refl}
use Rattle.text.proofs.DecimalLaws.{upper_fits, tenth-is}
use borrow.Author.Rules.{rules}
use Rattle.text.proofs.decimal.tenth_of.Goals as goal

pub overflow_add-upper : goal.overflow_add-upper
overflow_add-upper c = let t = c.args.t in record { fits = upper_fits t.high t.low (search rules) }

pub returns : goal.returns
returns c = tenth-is c.args.t _ _ (search rules) refl refl
