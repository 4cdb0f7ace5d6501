-- What the entry is proved by: acceptance, and the two ways out.
use Prim.Native.Nat.{ℕ, ◌*◌, ◌≤◌}
use mathlib.Core.Path.{◌≡◌, refl, sym, ap, ◌∙◌}
use mathlib.Core.List.{List}
use native.Mathlib.Omega.{arith}
use lib.ListN.{length}
use lib.Ieee.{Float}
use borrow.Author.Tests.{ltb-false, not-false}
use Rattle.basis.specs.Refuse.{first_from}
use Rattle.basis.specs.Sizes.{most_slices}
use Rattle.basis.specs.RefuseLaws.{clear, first-from, length-ok, answer-no, answer-yes}
use Rattle.basis.specs.declared.answer.CountAnswer.{CountAnswer}
use Rattle.basis.specs.Answers.{count_refused, counted}
use Rattle.area.specs.Area.{Roomy, Kept}
use Rattle.area_entries.specs.AreaEntry.{area_rows, area_refusal, AreaLeft}

-- the rows, each with its own way out, give the number
pub area-number : (areas : List Float) (loops : ℕ) (limit : Float) (room r : ℕ) → r ≡ first_from 0 (area_rows areas loops limit room) → r ≡ area_refusal areas loops limit room
unfolding area_refusal
area-number areas loops limit room r e = first-from (area_rows areas loops limit room) r tt e

module _ (areas : List Float) (loops : ℕ) (limit : Float) (kept : List ℕ) where
  pub area-accepted : (number : ℕ) → number ≡ area_refusal areas loops limit (length kept) → number ≡ 0 → Roomy areas limit kept
  unfolding area_refusal
  area-accepted number e z =
      let ok = clear (area_rows areas loops limit (length kept)) tt (sym e ∙ z) in
      let n : length areas ≡ 1 * loops = length-ok 1 (length areas) loops (search ok) in
      let few : loops ≤ most_slices = ltb-false most_slices loops (search ok) in
      let room : loops ≤ length kept = ltb-false (length kept) loops (search ok) in
      record { fits = omega arith; few = omega arith; all-finite = not-false _ (search ok); good = not-false _ (search ok) }

  pub area-refused : (number : ℕ) (r : CountAnswer) → number ≡ area_refusal areas loops limit (length kept) → (number ≡ 0 → ⊥) → r ≡ count_refused number → AreaLeft areas loops limit kept r kept
  area-refused number r e h q =
      record { answers = answer-no count_refused number _ _ r e h q; list = answer-no (λ _. kept) number _ _ kept e h refl }

  pub area-given : (number m : ℕ) (r : CountAnswer) (left : List ℕ) → number ≡ area_refusal areas loops limit (length kept) → number ≡ 0 → Kept areas limit kept m left → r ≡ counted m
      → AreaLeft areas loops limit kept r left
  area-given number m r left e z w q =
      record {
        answers = answer-yes count_refused number _ _ r e z (q ∙ ap (λ (n : ℕ). counted n) w.counted);
        list = answer-yes (λ _. kept) number _ _ left e z w.list;
      }

pub ruleset ways = (area-accepted, area-refused, area-given)
