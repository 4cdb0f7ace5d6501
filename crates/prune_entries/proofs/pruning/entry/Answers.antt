use Rattle.std.proofs.Common.{rules, ◌≡◌, sym, ap, ◌∙◌}
use Rattle.basis.specs.RefusalLaws.{found-none, found-some, found-number}
use Rattle.prune_write.specs.WriteLaws.{fit-both, fit-finish, written_of}
use Rattle.slice.specs.Ready.{Rooms}
use Rattle.prune.specs.Prune.{Given}
use Rattle.prune_entries.specs.declared.answer.PruneAnswer.{PruneAnswer}
use Rattle.prune_entries.specs.PruneEntry.{PruneLeft}
use Rattle.prune_entries.specs.Answers.{prune_refused}
use Rattle.prune_entries.specs.PruneEntryLaws.{prune-accepted, left-refused, left-given}
use Rattle.prune_entries.proofs.pruning.entry.Goals as goal

-- what was left in the lists that the struct lends
left-by : (g : Given) (l : Rooms) (r : PruneAnswer) (a b : Rooms) → PruneLeft g l r a → a.at ≡ b.at → a.shape ≡ b.shape → a.edition ≡ b.edition → PruneLeft g l r b
left-by g l r a b h p q s = record { answers = h.answers; at = sym p ∙ h.at; shape = sym q ∙ h.shape; edition = sym s ∙ h.edition }

pub write_both-kept-requires : goal.write_both-kept-requires
write_both-kept-requires c = fit-both _ _ _ _ _ (prune-accepted _ _ _ c.refusal.ensures (found-none _ _ c.in-Ok.is))

pub finish-requires : goal.finish-requires
finish-requires c =
    fit-finish _ _ _ _ _ _ _ (prune-accepted _ _ _ c.refusal.ensures (found-none _ _ c.in-Ok.is)) c.write_both-kept.ensures.wrote

pub returns-in-Err : goal.returns-in-Err
returns-in-Err c =
    left-refused _ _ _ _ c.refusal.ensures (found-some _ _ c.in-Err.is)
    (c.prune_refused.ensures ∙ ap prune_refused (c.number.ensures ∙ sym (found-number _ _ c.in-Err.is)))

pub returns-in-Ok : goal.returns-in-Ok
returns-in-Ok c =
    left-by _ _ _ _ _
    (left-given _ _ _ _ _ _ c.refusal.ensures (found-none _ _ c.in-Ok.is)
    (written_of _ _ _ _ _ _ _ _ _ c.write_both-kept.ensures.wrote c.finish.ensures.finished) c.prune_given.ensures)
    (search rules) (search rules) (search rules)
