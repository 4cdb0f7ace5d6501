use Rattle.std.proofs.Common.{rules, ◌++◌}
use Rattle.basis.specs.RefusalLaws.{looks, found-some, found-none}
use Rattle.view_start_entries.specs.StartRows.{split_rows, index_rows}
use Rattle.view_start_entries.specs.SpanEntry.{point_rows}
use Rattle.view_start_entries.specs.SliceEntry.{slice_refusal}
use Rattle.view_start_entries.proofs.Rows.{part-found, part-later, one-row}
use Rattle.view_start_entries.proofs.slice_points.refusal.Goals as goal

pub returns-in_err-shape_refusal : goal.returns-in_err-shape_refusal
unfolding slice_refusal
returns-in_err-shape_refusal c =
    part-found _ (point_rows c.args.e ++ (split_rows c.args.start c.args.end ++ index_rows c.args.vc c.args.e)) _ _ c.shape_refusal.ensures
    (found-some _ _ c.in_err-shape_refusal.was)
    (search (rules, looks))

pub returns-in_err-split_refusal : goal.returns-in_err-split_refusal
unfolding slice_refusal
returns-in_err-split_refusal c =
    part-later _ (point_rows c.args.e ++ (split_rows c.args.start c.args.end ++ index_rows c.args.vc c.args.e)) _ _ tt c.shape_refusal.ensures
    (found-none _ _ c.in_ok-shape_refusal.was)
    (part-later (point_rows c.args.e) (split_rows c.args.start c.args.end ++ index_rows c.args.vc c.args.e) _ _ tt
    (one-row _ _ _ _ c.when.ensures c.bad_points.ensures)
    (found-none _ _ c.in_ok-when.was)
    (part-found _ (index_rows c.args.vc c.args.e) _ _ c.split_refusal.ensures (found-some _ _ c.in_err-split_refusal.was) (search (rules, looks))))

pub returns : goal.returns
unfolding slice_refusal
returns c =
    part-later _ (point_rows c.args.e ++ (split_rows c.args.start c.args.end ++ index_rows c.args.vc c.args.e)) _ _ tt c.shape_refusal.ensures
    (found-none _ _ c.in_ok-shape_refusal.was)
    (part-later (point_rows c.args.e) (split_rows c.args.start c.args.end ++ index_rows c.args.vc c.args.e) _ _ tt
    (one-row _ _ _ _ c.when.ensures c.bad_points.ensures)
    (found-none _ _ c.in_ok-when.was)
    (part-later _ (index_rows c.args.vc c.args.e) _ _ tt c.split_refusal.ensures (found-none _ _ c.in_ok-split_refusal.was) c.index_refusal.ensures))
