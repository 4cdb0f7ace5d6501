use Rattle.std.proofs.Common.{rules}
use Rattle.basis.specs.Refuse.{first_from, or_else}
use Rattle.basis.specs.RefusalLaws.{looks, found-none}
use Rattle.cut_entries.specs.CutRows.{list_rows}
use Rattle.straight_slices.specs.Slices.{handed}
use Rattle.straight_slices.specs.RowsLaws.{listed-stops, listed-passes}
use Rattle.straight_slices.proofs.faults.list_refusal.Goals as goal

pub returns-in_err-list_refusal : goal.returns-in_err-list_refusal
unfolding first_from or_else list_rows
returns-in_err-list_refusal c = search (rules, listed-stops, looks)

pub returns : goal.returns
returns c =
    listed-passes (handed c.args.h.now) _ c.first_cuts-cuts.ensures _ c.list_refusal.ensures _ (found-none _ _ c.in_ok-list_refusal.was) c.more_list_refusal.ensures
