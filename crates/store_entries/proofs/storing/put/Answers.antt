use Rattle.std.proofs.Common.{rules, ◌∙◌, ap, sym}
use Rattle.basis.specs.RefusalLaws.{looks, found-some, found-number}
use Rattle.store_entries.specs.Answers.{handle_refused}
use Rattle.store_entries.proofs.StoreEntryLaws.{put_refused, put-fits, put-given}
use Rattle.store_entries.proofs.storing.put.Goals as goal

pub put-requires : goal.put-requires
put-requires c = search (rules, looks, put-fits)

pub returns-in-Err : goal.returns-in-Err
returns-in-Err c =
    put_refused _ _ _ _ _ _ _ _ _ c.put_refusal.ensures _ (found-some _ _ c.in-Err.is) (c.handle_refused.ensures ∙ ap handle_refused (c.number.ensures ∙ sym (found-number _ _ c.in-Err.is)))

pub returns-in-Ok : goal.returns-in-Ok
returns-in-Ok c = search (rules, looks, put-given)
