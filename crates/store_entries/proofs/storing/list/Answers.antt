use Rattle.std.proofs.Common.{rules, ◌∙◌, ap, sym}
use Rattle.basis.specs.RefusalLaws.{looks, found-some, found-number}
use Rattle.basis.specs.Answers.{count_refused}
use Rattle.store_entries.proofs.StoreEntryLaws.{list-refused, list-fits, list-given}
use Rattle.store_entries.proofs.storing.list.Goals as goal

pub list-requires : goal.list-requires
list-requires c = search (rules, looks, list-fits)

pub returns-in-Err : goal.returns-in-Err
returns-in-Err c =
    list-refused _ _ _ _ _ _ _ _ _ _ c.list_refusal.ensures _ (found-some _ _ c.in-Err.is) (c.count_refused.ensures ∙ ap count_refused (c.number.ensures ∙ sym (found-number _ _ c.in-Err.is)))

pub returns-in-Ok : goal.returns-in-Ok
returns-in-Ok c = search (rules, looks, list-given)
