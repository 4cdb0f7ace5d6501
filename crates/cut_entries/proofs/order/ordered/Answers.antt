use Rattle.std.proofs.Common.{rules}
use mathlib.Core.Path.{sym, ap, ◌∙◌}
use Rattle.basis.specs.Answers.{count_refused}
use Rattle.basis.specs.RefusalLaws.{looks, found-some, found-number}
use Rattle.cut_entries.proofs.Ordering.{ways, order-refused}
use Rattle.cut_entries.proofs.order.ordered.Goals as goal

pub order_cuts-requires : goal.order_cuts-requires
order_cuts-requires c = search (rules, ways, looks)

pub returns-in-Err : goal.returns-in-Err
returns-in-Err c =
    order-refused _ _ _ _ c.refusal.ensures _ (found-some _ _ c.in-Err.is) (c.count_refused.ensures ∙ ap count_refused (c.number.ensures ∙ sym (found-number _ _ c.in-Err.is)))

pub returns-in-Ok : goal.returns-in-Ok
returns-in-Ok c = search (rules, ways, looks)
