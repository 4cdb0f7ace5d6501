use Rattle.std.proofs.Common.{rules, ◌≡◌, sym, ap, ◌∙◌}
use Rattle.basis.specs.RefusalLaws.{found-none, found-some, found-number}
use Rattle.slice.specs.Ready.{Rooms}
use Rattle.prune_entries.specs.declared.answer.PruneAnswer.{PruneAnswer}
use Rattle.prune_entries.specs.Answers.{prune_refused}
use Rattle.straight_slices.specs.Slices.{Given}
use Rattle.straight_slices.specs.Rows.{SlicesLeft}
use Rattle.straight_slices.specs.RowsLaws.{accepted-few, slices-accepted, slices-refused, slices-given}
use Rattle.straight_slices.proofs.entry.entry.Goals as goal

-- what was left in the lists that the struct lends
left-by : (g : Given) (l : Rooms) (r : PruneAnswer) (a b : Rooms) → SlicesLeft g l r a → a.at ≡ b.at → a.shape ≡ b.shape → a.edition ≡ b.edition → SlicesLeft g l r b
left-by g l r a b h p q s = record { answers = h.answers; at = sym p ∙ h.at; shape = sym q ∙ h.shape; edition = sym s ∙ h.edition }

pub returns-in-Err : goal.returns-in-Err
returns-in-Err c =
    slices-refused _ _ _ c.refusal.ensures _ (found-some _ _ c.in-Err.is)
    (c.prune_refused.ensures ∙ ap prune_refused (c.number.ensures ∙ sym (found-number _ _ c.in-Err.is)))

pub most_call-requires : goal.most_call-requires
most_call-requires c = accepted-few _ _ _ c.refusal.ensures (found-none _ _ c.in-Ok.is)

pub sliced-requires : goal.sliced-requires
sliced-requires c = slices-accepted _ _ _ c.refusal.ensures _ c.most_call.ensures (found-none _ _ c.in-Ok.is)

pub returns-in-Ok : goal.returns-in-Ok
returns-in-Ok c =
    left-by _ _ _ _ _ (slices-given _ _ _ c.refusal.ensures _ _ _ (found-none _ _ c.in-Ok.is) c.sliced.ensures.written c.prune_given.ensures)
    (search rules) (search rules) (search rules)
