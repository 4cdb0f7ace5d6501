use Rattle.std.proofs.Common.{rules, ◌++◌}
use Rattle.basis.specs.RefusalLaws.{looks, found-some, found-none}
use Rattle.view_start_entries.specs.StartRows.{split_rows}
use Rattle.view_start_entries.specs.NewStartEntry.{new_point_rows, new_index_rows, new_start_refusal}
use Rattle.view_start_entries.proofs.Rows.{part-found, part-later, one-row}
use Rattle.view_start_entries.proofs.new_start.refusal.Goals as goal

pub returns-in_err-split_refusal : goal.returns-in_err-split_refusal
unfolding new_start_refusal
returns-in_err-split_refusal c =
    part-later _ (new_point_rows c.args.p ++ (split_rows c.args.start c.args.end ++ new_index_rows c.args.vc c.args.i)) _ _ tt c.shape_refusal.ensures
    (found-none _ _ c.in_ok-shape_refusal.was)
    (part-later (new_point_rows c.args.p) (split_rows c.args.start c.args.end ++ new_index_rows c.args.vc c.args.i) _ _ tt
    (one-row _ _ _ _ c.when.ensures c.bad_point.ensures)
    (found-none _ _ c.in_ok-when.was)
    (part-found _ (new_index_rows c.args.vc c.args.i) _ _ c.split_refusal.ensures (found-some _ _ c.in_err-split_refusal.was) (search (rules, looks))))
