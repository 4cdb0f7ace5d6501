-- The entry `mask_from_entire_pline`: its refusals, its answer, and what acceptance gives.
use Rattle.std.specs.Prelude.{ℕ, not, ◌≡◌, List, [], ◌∷◌, length, eqb, Float}
use Rattle.std.proofs.Common.{sym, ap, ◌∙◌}
use Rattle.basis.specs.Number.{all_within}
use Rattle.basis.specs.Refuse.{Row, row, first_of, answer, length_fault, size_fault, choice_fault}
use Rattle.basis.specs.RefuseLaws.{clear, length-ok, size_ok}
use Rattle.outline.specs.Outline.{Whole}
use Rattle.view.specs.declared.data.ViewData.{ViewData}
use Rattle.view.specs.Create.{entire_view}
use Rattle.view_entries.specs.declared.answer.ViewAnswer.{ViewAnswer}
use Rattle.view_entries.specs.Answers.{view_refused, view_made}

abbrev pub entire_rows : List Float → ℕ → ℕ → List Row
entire_rows o vc closed =
    row (length_fault 3 (length o) vc) 1
    ∷ row (size_fault vc) 2
    ∷ row (choice_fault closed) 3
    ∷ row (not (all_within o)) 5
    ∷ []

unfoldable pub entire_refusal : List Float → ℕ → ℕ → ℕ
entire_refusal o vc closed = first_of (entire_rows o vc closed)

abbrev pub entire_answer : List Float → ℕ → ℕ → ViewAnswer
entire_answer o vc closed = answer view_refused (entire_refusal o vc closed) (view_made (entire_view o vc (eqb closed 1)))

module _ (o : List Float) (vc closed : ℕ) where
  pub entire-accepted : (number : ℕ) → number ≡ entire_refusal o vc closed → number ≡ 0 → Whole o vc
  unfolding entire_refusal
  entire-accepted number e z =
      let ok = clear (entire_rows o vc closed) tt (sym e ∙ z) in
      let size = size_ok vc (search ok) in
      record { triples = length-ok 3 (length o) vc (search ok); least = size.0; most = size.1 }

  pub entire-of : (v : ViewData) (r : ViewAnswer) → v ≡ entire_view o vc (eqb closed 1) → r ≡ view_made v → r ≡ view_made (entire_view o vc (eqb closed 1))
  entire-of v r e q = q ∙ ap view_made e

pub ruleset entire_laws = (entire-accepted, entire-of)
