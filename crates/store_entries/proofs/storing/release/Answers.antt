use Rattle.std.proofs.Common.{rules, ◌∙◌, ap, sym}
use Rattle.basis.specs.RefusalLaws.{looks, found-some, found-number}
use Rattle.store_entries.specs.Answers.{done_refused}
use Rattle.store_entries.proofs.StoreEntryLaws.{release-refused, release-fits, release-given}
use Rattle.store_entries.proofs.storing.release.Goals as goal

pub release-requires : goal.release-requires
release-requires c = search (rules, looks, release-fits)

pub returns-in-Err : goal.returns-in-Err
returns-in-Err c =
    release-refused _ _ _ _ _ _ c.part_refusal.ensures _ _ (found-some _ _ c.in-Err.is) (c.done_refused.ensures ∙ ap done_refused (c.number.ensures ∙ sym (found-number _ _ c.in-Err.is)))

pub returns-in-Ok : goal.returns-in-Ok
returns-in-Ok c = search (rules, looks, release-given)
