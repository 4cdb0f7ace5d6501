-- The entry `mask_straight_winding`: its refusals, its answer, and what acceptance gives. Number 18 also looks at the probe.
use Rattle.std.specs.Prelude.{ℕ, ◌≡◌, not, List, [], ◌∷◌, length, ℤ}
use Rattle.std.proofs.Common.{sym, ◌∙◌}
use Rattle.std.proofs.lemmas.Bool.{not-false}
use Rattle.basis.specs.Refuse.{Row, row, first_of, answer, length_fault, size_fault}
use Rattle.basis.specs.RefuseLaws.{clear, length-ok, size_ok}
use Rattle.straight.specs.Plane.{spots, winding}
use Rattle.straight.specs.Ready.{Probed}
use Rattle.straight_entries.specs.declared.answer.WindingAnswer.{WindingAnswer}
use Rattle.straight_entries.specs.Answers.{winding_refused, winding_found}
use Rattle.straight_entries.specs.Range.{in_reach, all_in_reach}
use Rattle.straight_entries.specs.RangeLaws.{reach_near, all-close}

abbrev pub winding_rows : List ℤ → ℕ → ℤ → ℤ → List Row
winding_rows l vc x y =
    row (length_fault 2 (length l) vc) 1
    ∷ row (size_fault vc) 2
    ∷ row (not (all_in_reach l)) 18
    ∷ row (not (in_reach 800000000 x)) 18
    ∷ row (not (in_reach 800000000 y)) 18
    ∷ []

unfoldable pub winding_refusal : List ℤ → ℕ → ℤ → ℤ → ℕ
winding_refusal l vc x y = first_of (winding_rows l vc x y)

abbrev pub winding_answer : List ℤ → ℕ → ℤ → ℤ → WindingAnswer
winding_answer l vc x y = answer winding_refused (winding_refusal l vc x y) (winding_found (winding (spots l) (record { x = x; y = y })))

pub winding-accepted : (l : List ℤ) (vc : ℕ) (x y : ℤ) (number : ℕ) → number ≡ winding_refusal l vc x y → number ≡ 0 → Probed l vc x y
unfolding winding_refusal
winding-accepted l vc x y number e z =
    let ok = clear (winding_rows l vc x y) tt (sym e ∙ z) in
    let size = size_ok vc (search ok) in
    record {
      outline = record { long = length-ok 2 (length l) vc (search ok); least = size.0; most = size.1; close = all-close l (not-false (all_in_reach l) (search ok)) };
      x-ok = reach_near 800000000 x (not-false (in_reach 800000000 x) (search ok));
      y-ok = reach_near 800000000 y (not-false (in_reach 800000000 y) (search ok));
    }
