use Rattle.std.proofs.Common.{rules}
use Rattle.basis.specs.RefusalLaws.{looks, found-none}
use Rattle.prune_entries.specs.PruneEntryLaws.{input-few, input-countable, input-found, lent_found}
use Rattle.prune_entries.proofs.pruning.refusal.Goals as goal

pub returns-in_err-input_refusal : goal.returns-in_err-input_refusal
returns-in_err-input_refusal c = search (rules, input-found, looks)

pub need_of-requires : goal.need_of-requires
need_of-requires c = input-few _ _ c.input_refusal.ensures (found-none _ _ c.in_ok-input_refusal.was)

pub room_refusal-requires : goal.room_refusal-requires
room_refusal-requires c = input-countable _ _ c.input_refusal.ensures _ (found-none _ _ c.in_ok-input_refusal.was) c.need_of.ensures

pub returns : goal.returns
returns c = lent_found _ _ c.input_refusal.ensures _ _ _ _ (found-none _ _ c.in_ok-input_refusal.was) (rw c.need_of.ensures at c.room_refusal.ensures)
