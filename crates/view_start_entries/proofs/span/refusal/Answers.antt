use Rattle.std.proofs.Common.{rules, ◌++◌}
use Rattle.basis.specs.RefusalLaws.{looks, found-some}
use Rattle.view_start_entries.specs.StartRows.{index_rows}
use Rattle.view_start_entries.specs.SpanEntry.{point_rows, span_refusal}
use Rattle.view_start_entries.proofs.Rows.{part-found}
use Rattle.view_start_entries.proofs.span.refusal.Goals as goal

pub returns-in_err-shape_refusal : goal.returns-in_err-shape_refusal
unfolding span_refusal
returns-in_err-shape_refusal c =
    part-found _ (point_rows c.args.e ++ index_rows c.args.vc c.args.e) _ _ c.shape_refusal.ensures (found-some _ _ c.in_err-shape_refusal.was) (search (rules, looks))
