-- The entry `mask_slice_span`: its refusals, its answer, and what acceptance gives.
use Rattle.std.specs.Prelude.{ℕ, not, ◌≡◌, List, [], ◌∷◌, ◌++◌, length, Float}
use Rattle.std.proofs.Common.{sym, ap, ◌∙◌}
use borrow.Author.Tests.{leb-false}
use Rattle.basis.specs.Number.{all_within}
use Rattle.basis.specs.declared.number.Tolerance.{Tolerance}
use Rattle.basis.specs.Refuse.{Row, row, first_of, answer}
use Rattle.basis.specs.RefuseLaws.{clear, length-ok, size_ok}
use Rattle.view_span.specs.declared.span.Ends.{Ends}
use Rattle.view_span.specs.declared.span.Span.{Span}
use Rattle.view_span.specs.Span.{EndsFit, span_of}
use Rattle.view_start_entries.specs.declared.answer.SpanAnswer.{SpanAnswer}
use Rattle.view_start_entries.specs.Answers.{span_refused, span_told}
use Rattle.view_start_entries.specs.StartRows.{ends_numbers, shape_rows, index_rows}

-- 5: both points
abbrev pub point_rows : Ends → List Row
point_rows e = row (not (all_within (ends_numbers e))) 5 ∷ []

abbrev pub span_rows : List Float → ℕ → ℕ → Ends → Tolerance → List Row
span_rows o vc closed e t = shape_rows o vc closed t ++ (point_rows e ++ index_rows vc e)

unfoldable pub span_refusal : List Float → ℕ → ℕ → Ends → Tolerance → ℕ
span_refusal o vc closed e t = first_of (span_rows o vc closed e t)

abbrev pub span_answer : List Float → ℕ → ℕ → Ends → Tolerance → SpanAnswer
span_answer o vc closed e t = answer span_refused (span_refusal o vc closed e t) (span_told (span_of o vc e t))

module _ (o : List Float) (vc closed : ℕ) (e : Ends) (t : Tolerance) where
  pub span-accepted : (number : ℕ) → number ≡ span_refusal o vc closed e t → number ≡ 0 → EndsFit o vc e
  unfolding span_refusal
  span-accepted number f z =
      let ok = clear (span_rows o vc closed e t) tt (sym f ∙ z) in
      let size = size_ok vc (search ok) in
      record {
        whole = record { triples = length-ok 3 (length o) vc (search ok); least = size.0; most = size.1 };
        starts = leb-false vc e.start_index (search ok);
        ends = leb-false vc e.end_index (search ok);
      }

  pub span-given : (s : Span) (r : SpanAnswer) → s ≡ span_of o vc e t → r ≡ span_told s → r ≡ span_told (span_of o vc e t)
  span-given s r f q = q ∙ ap span_told f

pub ruleset span_laws = (span-accepted, span-given)
