use mathlib.Core.Path.{◌∙◌, ap, sym}
use borrow.Author.Rules.{rules}
use Rattle.basis.specs.RefusalLaws.{looks, found-some, found-number}
use Rattle.stitch_entries.specs.Answers.{stitch_refused}
use Rattle.stitch_entries.proofs.Ways.{stitch-refused, ways}
use Rattle.stitch_entries.proofs.stitching.stitched.Goals as goal

pub write_stitch-requires : goal.write_stitch-requires
write_stitch-requires c = search (rules, ways, looks)

pub returns-in-Err-clause-left : goal.returns-in-Err-clause-left
returns-in-Err-clause-left c =
    stitch-refused _ _ _ _ _ c.refusal.ensures (found-some _ _ c.in-Err.is)
    (c.stitch_refused.ensures ∙ ap stitch_refused (c.number.ensures ∙ sym (found-number _ _ c.in-Err.is)))

pub returns-in-Ok-clause-left : goal.returns-in-Ok-clause-left
returns-in-Ok-clause-left c = search (rules, ways, looks)
