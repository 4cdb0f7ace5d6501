use Rattle.std.proofs.Common.{rules, sym, ap, subst, ◌∙◌}
use Rattle.basis.specs.RefusalLaws.{looks, found-none}
use Rattle.prune.specs.Prune.{need_of}
use Rattle.prune.specs.Ready.{Few}
use Rattle.straight_slices.specs.RowsLaws.{input-few, call-few, need-countable, input-found, lent_found}
use Rattle.straight_slices.proofs.entry.refusal.Goals as goal

pub returns-in_err-input_refusal : goal.returns-in_err-input_refusal
returns-in_err-input_refusal c = search (rules, input-found, looks)

pub most_call-requires : goal.most_call-requires
most_call-requires c = input-few _ _ c.input_refusal.ensures (found-none _ _ c.in_ok-input_refusal.was)

pub need_of-need-requires : goal.need_of-need-requires
need_of-need-requires c = subst Few (sym c.most_call.ensures) (call-few _ _ c.input_refusal.ensures (found-none _ _ c.in_ok-input_refusal.was))

pub room_refusal-requires : goal.room_refusal-requires
room_refusal-requires c =
    need-countable _ _ c.input_refusal.ensures _ (found-none _ _ c.in_ok-input_refusal.was) (c.need_of-need.ensures ∙ ap need_of c.most_call.ensures)

pub returns : goal.returns
returns c =
    let n = c.need_of-need.ensures ∙ ap need_of c.most_call.ensures in
    lent_found _ _ c.input_refusal.ensures _ _ _ _ (found-none _ _ c.in_ok-input_refusal.was) (rw n at c.room_refusal.ensures)
