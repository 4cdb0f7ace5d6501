-- The entry `mask_straight_area`: its refusals, its answer, and what acceptance gives. Number 18 stands where 5 stands in document 01.
use Rattle.std.specs.Prelude.{ℕ, ◌≡◌, not, List, [], ◌∷◌, length, ℤ}
use Rattle.std.proofs.Common.{sym, ap, ◌∙◌}
use Rattle.std.proofs.lemmas.Bool.{not-false}
use Rattle.basis.specs.Refuse.{Row, row, first_of, answer, length_fault, size_fault}
use Rattle.basis.specs.RefuseLaws.{Clear, clear, length-ok, size_ok}
use Rattle.straight.specs.Plane.{spots, area}
use Rattle.straight.specs.Words.{area_words}
use Rattle.straight.specs.Ready.{Outline}
use Rattle.straight.specs.declared.sum.Area.{Area}
use Rattle.straight_entries.specs.declared.answer.AreaAnswer.{AreaAnswer}
use Rattle.straight_entries.specs.Answers.{area_refused, area_found}
use Rattle.straight_entries.specs.Range.{all_in_reach}
use Rattle.straight_entries.specs.RangeLaws.{all-close}

abbrev pub area_rows : List ℤ → ℕ → List Row
area_rows l vc =
    row (length_fault 2 (length l) vc) 1
    ∷ row (size_fault vc) 2
    ∷ row (not (all_in_reach l)) 18
    ∷ []

unfoldable pub area_refusal : List ℤ → ℕ → ℕ
area_refusal l vc = first_of (area_rows l vc)

abbrev pub area_answer : List ℤ → ℕ → AreaAnswer
area_answer l vc = answer area_refused (area_refusal l vc) (area_found (area_words (area (spots l))))

module _ (l : List ℤ) (vc : ℕ) where
  pub rows-outline : Clear (area_rows l vc) → Outline l vc
  rows-outline ok =
      let size = size_ok vc (search ok) in
      record { long = length-ok 2 (length l) vc (search ok); least = size.0; most = size.1; close = all-close l (not-false (all_in_reach l) (search ok)) }

  pub area-accepted : (number : ℕ) → number ≡ area_refusal l vc → number ≡ 0 → Outline l vc
  unfolding area_refusal
  area-accepted number e z = rows-outline (clear (area_rows l vc) tt (sym e ∙ z))

  pub area-is : (a : Area) (r : AreaAnswer) → a ≡ area_words (area (spots l)) → r ≡ area_found a → r ≡ area_found (area_words (area (spots l)))
  area-is a r e q = q ∙ ap area_found e

pub ruleset area_laws = (area-accepted, area-is)
