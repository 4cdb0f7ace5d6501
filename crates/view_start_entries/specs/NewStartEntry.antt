-- The entry `mask_from_new_start`: its refusals, its answer, and what acceptance gives.
use Rattle.std.specs.Prelude.{ℕ, not, ◌≡◌, List, [], ◌∷◌, ◌++◌, length, leb, eqb, Float, Option}
use Rattle.std.proofs.Common.{sym, ap, ◌∙◌}
use borrow.Author.Tests.{leb-false}
use Rattle.basis.specs.Number.{all_within}
use Rattle.basis.specs.declared.number.Tolerance.{Tolerance}
use Rattle.basis.specs.Refuse.{Row, row, first_of, answer}
use Rattle.basis.specs.RefuseLaws.{clear, length-ok, size_ok}
use Rattle.outline.specs.declared.point.Point.{Point}
use Rattle.outline.specs.Points.{point_numbers}
use Rattle.outline.specs.Outline.{Segment}
use Rattle.view.specs.declared.data.ViewData.{ViewData}
use Rattle.view_entries.specs.declared.input.Split.{Split}
use Rattle.view_entries.specs.declared.answer.ViewAnswer.{ViewAnswer}
use Rattle.view_entries.specs.Answers.{view_refused, segment_made}
use Rattle.view_start.specs.declared.slice_points.Splits.{Splits}
use Rattle.view_start.specs.NewStart.{new_start_view}
use Rattle.view_start_entries.specs.StartRows.{splits_of, shape_rows, split_rows}

-- 5: the point; 6: its segment
abbrev pub new_point_rows : Point → List Row
new_point_rows p = row (not (all_within (point_numbers p))) 5 ∷ []

abbrev pub new_index_rows : ℕ → ℕ → List Row
new_index_rows vc i = row (leb vc i) 6 ∷ []

abbrev pub new_start_rows : List Float → ℕ → ℕ → ℕ → Point → Tolerance → Split → Split → List Row
new_start_rows o vc closed i p t start end = shape_rows o vc closed t ++ (new_point_rows p ++ (split_rows start end ++ new_index_rows vc i))

unfoldable pub new_start_refusal : List Float → ℕ → ℕ → ℕ → Point → Tolerance → Split → Split → ℕ
new_start_refusal o vc closed i p t start end = first_of (new_start_rows o vc closed i p t start end)

abbrev pub new_start_answer : List Float → ℕ → ℕ → ℕ → Point → Tolerance → Split → Split → ViewAnswer
new_start_answer o vc closed i p t start end =
    answer view_refused (new_start_refusal o vc closed i p t start end) (segment_made (new_start_view o vc (eqb closed 1) i p t (splits_of start end)))

module _ (o : List Float) (vc closed i : ℕ) (p : Point) (t : Tolerance) (start end : Split) where
  pub new-start-accepted : (number : ℕ) → number ≡ new_start_refusal o vc closed i p t start end → number ≡ 0 → Segment o vc i
  unfolding new_start_refusal
  new-start-accepted number f z =
      let ok = clear (new_start_rows o vc closed i p t start end) tt (sym f ∙ z) in
      let size = size_ok vc (search ok) in
      record {
        whole = record { triples = length-ok 3 (length o) vc (search ok); least = size.0; most = size.1 };
        inside = leb-false vc i (search ok);
      }

  pub new-start-given : (s : Splits) (m : Option ViewData) (r : ViewAnswer) → s ≡ splits_of start end → m ≡ new_start_view o vc (eqb closed 1) i p t s → r ≡ segment_made m
      → r ≡ segment_made (new_start_view o vc (eqb closed 1) i p t (splits_of start end))
  new-start-given s m r f g q = q ∙ ap segment_made (g ∙ ap (new_start_view o vc (eqb closed 1) i p t) f)

pub ruleset new_start_laws = (new-start-accepted, new-start-given)
