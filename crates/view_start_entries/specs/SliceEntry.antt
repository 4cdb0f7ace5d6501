-- The entry `mask_from_slice_points`: its refusals, its answer, and what acceptance gives.
use Rattle.std.specs.Prelude.{ℕ, ◌≡◌, List, ◌++◌, length, Float, Option}
use Rattle.std.proofs.Common.{sym, ap, ◌∙◌}
use borrow.Author.Tests.{leb-false}
use Rattle.basis.specs.declared.number.Tolerance.{Tolerance}
use Rattle.basis.specs.Refuse.{Row, first_of, answer}
use Rattle.basis.specs.RefuseLaws.{clear, length-ok, size_ok}
use Rattle.view.specs.declared.data.ViewData.{ViewData}
use Rattle.view_entries.specs.declared.input.Split.{Split}
use Rattle.view_entries.specs.declared.answer.ViewAnswer.{ViewAnswer}
use Rattle.view_entries.specs.Answers.{view_refused, segment_made}
use Rattle.view_span.specs.declared.span.Ends.{Ends}
use Rattle.view_start.specs.declared.slice_points.Splits.{Splits}
use Rattle.view_span.specs.Span.{EndsFit}
use Rattle.view_start.specs.SlicePoints.{slice_view}
use Rattle.view_start_entries.specs.StartRows.{splits_of, shape_rows, split_rows, index_rows}
use Rattle.view_start_entries.specs.SpanEntry.{point_rows}

abbrev pub slice_rows : List Float → ℕ → ℕ → Ends → Tolerance → Split → Split → List Row
slice_rows o vc closed e t start end = shape_rows o vc closed t ++ (point_rows e ++ (split_rows start end ++ index_rows vc e))

unfoldable pub slice_refusal : List Float → ℕ → ℕ → Ends → Tolerance → Split → Split → ℕ
slice_refusal o vc closed e t start end = first_of (slice_rows o vc closed e t start end)

abbrev pub slice_answer : List Float → ℕ → ℕ → Ends → Tolerance → Split → Split → ViewAnswer
slice_answer o vc closed e t start end =
    answer view_refused (slice_refusal o vc closed e t start end) (segment_made (slice_view o vc e t (splits_of start end)))

module _ (o : List Float) (vc closed : ℕ) (e : Ends) (t : Tolerance) (start end : Split) where
  pub slice-accepted : (number : ℕ) → number ≡ slice_refusal o vc closed e t start end → number ≡ 0 → EndsFit o vc e
  unfolding slice_refusal
  slice-accepted number f z =
      let ok = clear (slice_rows o vc closed e t start end) tt (sym f ∙ z) in
      let size = size_ok vc (search ok) in
      record {
        whole = record { triples = length-ok 3 (length o) vc (search ok); least = size.0; most = size.1 };
        starts = leb-false vc e.start_index (search ok);
        ends = leb-false vc e.end_index (search ok);
      }

  pub slice-given : (p : Splits) (s : Option ViewData) (r : ViewAnswer) → p ≡ splits_of start end → s ≡ slice_view o vc e t p → r ≡ segment_made s
      → r ≡ segment_made (slice_view o vc e t (splits_of start end))
  slice-given p s r f g q = q ∙ ap segment_made (g ∙ ap (slice_view o vc e t) f)

pub ruleset slice_laws = (slice-accepted, slice-given)
