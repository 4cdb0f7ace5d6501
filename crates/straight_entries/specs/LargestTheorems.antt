-- The largest area that an accepted outline can have, and an outline that has it.
use Rattle.std.specs.Prelude.{ℕ, zero, suc, ◌≤◌, ◌≡◌, refl, List, [], ◌∷◌, ◌++◌, ℤ, pos, negsuc, nat_abs}
use Rattle.basis.specs.All.{all_of}
use Rattle.basis.specs.Refuse.{first_of, length_fault, size_fault}
use Rattle.straight.specs.Plane.{spots, sums, around, cross, area}
use Rattle.straight_report.specs.MostTheorems.{area-most}
use Rattle.straight_entries.specs.Range.{in_reach}
use Rattle.straight_entries.specs.AreaEntry.{area_refusal, area-accepted}

-- no accepted outline has a doubled area above 1,024 · 2 · 400,000,000², whichever its sign
pub largest-area : (l : List ℤ) (vc : ℕ) → area_refusal l vc ≡ 0 → nat_abs (area (spots l)) ≤ 327680000000000000000
largest-area l vc e = area-most (area-accepted l vc (area_refusal l vc) refl e)

-- the largest square, so many times round
abbrev largest : List ℤ
largest = negsuc 399999999 ∷ negsuc 399999999 ∷ pos 400000000 ∷ negsuc 399999999 ∷ pos 400000000 ∷ pos 400000000 ∷ negsuc 399999999 ∷ pos 400000000 ∷ []

abbrev pub turns : ℕ → List ℤ
turns zero = []
turns (suc n) = largest ++ turns n

-- 256 times round it are 1,024 vertices: accepted, and as large as can be
pub largest-accepted : area_refusal (turns 256) 1024 ≡ 0
unfolding area_refusal first_of length_fault size_fault all_of in_reach
largest-accepted = refl

pub largest-reached : area (spots (turns 256)) ≡ pos 327680000000000000000
unfolding area spots around sums cross
largest-reached = refl
