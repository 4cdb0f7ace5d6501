use Rattle.std.proofs.Common.{rules, ◌∙◌}
use Rattle.basis.specs.RefusalLaws.{found-some, found-none, found-same}
use Rattle.stitch_run.specs.Stitch.{given_of}
use Rattle.record_write.specs.Writer.{editions_of}
use Rattle.record_write.proofs.Keeping.{handed-found, edition-found, each-there}
use Rattle.record_write.proofs.write.held_refusal.Goals as goal

pub returns-in_err-handed_refusal : goal.returns-in_err-handed_refusal
returns-in_err-handed_refusal c =
    found-same c.handed_refusal.result _ _ c.in_err-handed_refusal.was (search rules)
    ∙ handed-found _ _ _ _ _ c.handed_refusal.ensures (found-some _ _ c.in_err-handed_refusal.was)

pub edition_refusal-requires : goal.edition_refusal-requires
edition_refusal-requires c = each-there _ _ (given_of c.args.k.now.slices) (editions_of c.args.k.now) _ c.handed_refusal.ensures (found-none _ _ c.in_ok-handed_refusal.was)

pub returns : goal.returns
returns c = edition-found _ _ _ _ _ c.handed_refusal.ensures _ (found-none _ _ c.in_ok-handed_refusal.was) c.edition_refusal.ensures
