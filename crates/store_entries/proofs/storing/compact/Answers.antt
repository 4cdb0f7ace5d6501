use Rattle.std.proofs.Common.{rules, ◌∙◌, ap, sym}
use Rattle.basis.specs.RefusalLaws.{looks, found-some, found-number}
use Rattle.store_entries.specs.Answers.{done_refused}
use Rattle.store_entries.proofs.StoreEntryLaws.{compact-refused, compact-fits, compact-given}
use Rattle.store_entries.proofs.storing.compact.Goals as goal

pub compact-requires : goal.compact-requires
compact-requires c = search (rules, looks, compact-fits)

pub returns-in-Err : goal.returns-in-Err
returns-in-Err c =
    compact-refused _ _ _ _ _ _ c.part_refusal.ensures _ (found-some _ _ c.in-Err.is) (c.done_refused.ensures ∙ ap done_refused (c.number.ensures ∙ sym (found-number _ _ c.in-Err.is)))

pub returns-in-Ok : goal.returns-in-Ok
returns-in-Ok c = search (rules, looks, compact-given)
