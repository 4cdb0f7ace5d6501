use Rattle.std.proofs.Common.{arith, refl, ap, ◌∙◌, sym}
use Rattle.basis.specs.Refusals.{found}
use Rattle.basis.specs.RefusalLaws.{found-some}
use Rattle.record_replay.specs.Replayed.{replay_refused}
use Rattle.record_replay.proofs.ReplayLaws.{seen-form, version-fits, held_fits, replay-refused, replay-stitched}
use Rattle.record_replay.proofs.replay.replay.Goals as goal

pub overflow_cast-version : goal.overflow_cast-version
overflow_cast-version c = omega (arith, version-fits _ _ _ _ c.read.ensures.left refl c.in-Ok.seen c.in-Ok.is)

pub stitch_held-a-requires : goal.stitch_held-a-requires
stitch_held-a-requires c = held_fits _ _ _ _ c.read.ensures.left refl c.in-Ok.seen c.in-Ok.is

pub returns-in-Err-clause-left : goal.returns-in-Err-clause-left
returns-in-Err-clause-left c =
    replay-refused _ _ _ _ (seen-form _ _ _ _ c.read.ensures.left refl) (found-some _ _ c.in-Err.is)
    (c.replay_refused.ensures ∙ ap replay_refused (c.number.ensures ∙ sym (ap found c.in-Err.is)))

pub returns-in-Ok-clause-left : goal.returns-in-Ok-clause-left
returns-in-Ok-clause-left c =
    replay-stitched _ _ _ _ c.read.ensures.left refl c.in-Ok.seen c.in-Ok.is _ _ _ _ c.stitch_held-a.ensures.left c.replay_of.ensures
