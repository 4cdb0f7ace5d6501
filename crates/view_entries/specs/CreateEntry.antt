-- The entry `mask_create`: its refusals, its answer, and what acceptance gives.
use Rattle.std.specs.Prelude.{ℕ, ◌<◌, Bool, false, not, ◌||◌, ◌≡◌, List, [], ◌∷◌, length, ltb, leb, eqb, Float}
use Rattle.std.proofs.Common.{sym, ap, ◌∙◌, arith}
use borrow.Author.Tests.{leb-false, eqb-false}
use Rattle.basis.specs.Choice.{or_left}
use Rattle.basis.specs.Number.{all_within, tolerable}
use Rattle.basis.specs.declared.number.Tolerance.{Tolerance}
use Rattle.basis.specs.Refuse.{Row, row, first_of, answer, length_fault, size_fault}
use Rattle.basis.specs.RefuseLaws.{clear, length-ok, size_ok}
use Rattle.view.specs.declared.data.ViewData.{ViewData}
use Rattle.view.specs.declared.create.Walk.{Walk}
use Rattle.view.specs.Create.{WalkFit, create_view}
use Rattle.view_entries.specs.declared.input.Split.{Split}
use Rattle.view_entries.specs.declared.answer.ViewAnswer.{ViewAnswer}
use Rattle.view_entries.specs.Inputs.{walk_numbers}
use Rattle.view_entries.specs.Answers.{view_refused, view_made}

-- 7: "`create` with traverse count 0 or above the vertex count"
unfoldable pub traverse_fault : ℕ → ℕ → Bool
traverse_fault vc count = eqb count 0 || ltb vc count

abbrev pub create_rows : List Float → ℕ → Walk → Tolerance → Split → List Row
create_rows o vc w t split =
    row (length_fault 3 (length o) vc) 1
    ∷ row (size_fault vc) 2
    ∷ row (not (tolerable t)) 4
    ∷ row (not (all_within o)) 5
    ∷ row (not (all_within (walk_numbers w split))) 5
    ∷ row (leb vc w.start_index) 6
    ∷ row (leb vc w.intersect_index) 6
    ∷ row (traverse_fault vc w.traverse_count) 7
    ∷ []

unfoldable pub create_refusal : List Float → ℕ → Walk → Tolerance → Split → ℕ
create_refusal o vc w t split = first_of (create_rows o vc w t split)

abbrev pub create_answer : List Float → ℕ → Walk → Tolerance → Split → ViewAnswer
create_answer o vc w t split = answer view_refused (create_refusal o vc w t split) (view_made (create_view o vc w t))

traverse-ok : (vc count : ℕ) → traverse_fault vc count ≡ false → 0 < count
unfolding traverse_fault
traverse-ok vc count e = let n = eqb-false count 0 (or_left (eqb count 0) _ e) in omega (arith, n)

module _ (o : List Float) (vc : ℕ) (w : Walk) (t : Tolerance) (split : Split) where
  pub create-accepted : (number : ℕ) → number ≡ create_refusal o vc w t split → number ≡ 0 → WalkFit o vc w
  unfolding create_refusal
  create-accepted number e z =
      let ok = clear (create_rows o vc w t split) tt (sym e ∙ z) in
      let size = size_ok vc (search ok) in
      record {
        whole = record { triples = length-ok 3 (length o) vc (search ok); least = size.0; most = size.1 };
        inside = leb-false vc w.intersect_index (search ok);
        walks = traverse-ok vc w.traverse_count (search ok);
      }

  pub create-of : (v : ViewData) (r : ViewAnswer) → v ≡ create_view o vc w t → r ≡ view_made v → r ≡ view_made (create_view o vc w t)
  create-of v r e q = q ∙ ap view_made e

pub ruleset create_laws = (create-accepted, create-of)
