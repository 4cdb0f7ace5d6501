-- Worked examples, each computed. The squares of document 01 in microdegrees: A is (0,0) (4,0) (4,4) (0,4), B is (2,2) (6,2) (6,6) (2,6), in degrees.
use Rattle.std.specs.Prelude.{ℕ, zero, suc, ◌+◌, ◌≡◌, refl, List, [], ◌∷◌, ◌++◌, reverse, ℤ, pos, negsuc}
use Rattle.basis.specs.All.{all_of}
use Rattle.basis.specs.Refuse.{first_of, length_fault, size_fault, answer}
use Rattle.straight.specs.Plane.{Spot, spots, sums, around, side, left, right, spans, crossing, twice, winding, cross, area}
use Rattle.straight_report.specs.Report.{outlines, zeros, sizes, last_of, sizes_fault}
use Rattle.straight_entries.specs.Range.{in_reach}
use Rattle.straight_entries.specs.AreaEntry.{area_refusal, area_answer}
use Rattle.straight_entries.specs.WindingEntry.{winding_refusal, winding_answer}
use Rattle.straight_entries.specs.ReportEntry.{report_refusal, report_answer}
use Rattle.straight_entries.specs.LargestTheorems.{turns}

abbrev list_a : List ℤ
list_a = pos 0 ∷ pos 0 ∷ pos 4000000 ∷ pos 0 ∷ pos 4000000 ∷ pos 4000000 ∷ pos 0 ∷ pos 4000000 ∷ []

abbrev list_b : List ℤ
list_b = pos 2000000 ∷ pos 2000000 ∷ pos 6000000 ∷ pos 2000000 ∷ pos 6000000 ∷ pos 6000000 ∷ pos 2000000 ∷ pos 6000000 ∷ []

abbrev at : ℕ → ℕ → Spot
at a b = record { x = pos a; y = pos b }

-- T1's candidates of A: the midpoint of the first walk, (4, 3), is inside B; that of the second, (1, 4), is outside
first_walk : winding (spots list_b) (at 8000000 6000000) ≡ pos 1
unfolding winding spots around sums crossing spans left right side twice
first_walk = refl

second_walk : winding (spots list_b) (at 2000000 8000000) ≡ pos 0
unfolding winding spots around sums crossing spans left right side twice
second_walk = refl

-- 4 by 4 degrees, doubled, and the other way round
square : area (spots list_a) ≡ pos 32000000000000
unfolding area spots around sums cross
square = refl

square-back : area (reverse (spots list_a)) ≡ negsuc 31999999999999
unfolding area spots around sums cross
square-back = refl

-- Probes on A's edges. Left, bottom: inside; right, top: outside. Backwards they are negated. (The Rust answers 0 on the left edge, and -1 on the right one backwards.)
on-left : winding (spots list_a) (at 0 4000000) ≡ pos 1
unfolding winding spots around sums crossing spans left right side twice
on-left = refl

on-right : winding (spots list_a) (at 8000000 4000000) ≡ pos 0
unfolding winding spots around sums crossing spans left right side twice
on-right = refl

on-bottom : winding (spots list_a) (at 4000000 0) ≡ pos 1
unfolding winding spots around sums crossing spans left right side twice
on-bottom = refl

on-top : winding (spots list_a) (at 4000000 8000000) ≡ pos 0
unfolding winding spots around sums crossing spans left right side twice
on-top = refl

on-left-back : winding (reverse (spots list_a)) (at 0 4000000) ≡ negsuc 0
unfolding winding spots around sums crossing spans left right side twice
on-left-back = refl

on-right-back : winding (reverse (spots list_a)) (at 8000000 4000000) ≡ pos 0
unfolding winding spots around sums crossing spans left right side twice
on-right-back = refl

-- a bow-tie: area zero, one wing wound each way
abbrev bow : List ℤ
bow = pos 0 ∷ pos 0 ∷ pos 2 ∷ pos 2 ∷ pos 2 ∷ pos 0 ∷ pos 0 ∷ pos 2 ∷ []

bow-area : area (spots bow) ≡ pos 0
unfolding area spots around sums cross
bow-area = refl

bow-right : winding (spots bow) (at 3 2) ≡ negsuc 0
unfolding winding spots around sums crossing spans left right side twice
bow-right = refl

bow-left : winding (spots bow) (at 1 2) ≡ pos 1
unfolding winding spots around sums crossing spans left right side twice
bow-left = refl

-- a triangle with its second vertex repeated
abbrev triangle : List ℤ
triangle = pos 0 ∷ pos 0 ∷ pos 6 ∷ pos 0 ∷ pos 6 ∷ pos 0 ∷ pos 0 ∷ pos 6 ∷ []

triangle-area : area (spots triangle) ≡ pos 36
unfolding area spots around sums cross
triangle-area = refl

triangle-in : winding (spots triangle) (at 4 4) ≡ pos 1
unfolding winding spots around sums crossing spans left right side twice
triangle-in = refl

-- ---- the entries
square-answer : area_answer list_a 4 ≡ record { refusal = 0; negative = 0; high = 0; low = 32000000000000 }
unfolding area_refusal answer first_of length_fault size_fault all_of in_reach area spots around sums cross
square-answer = refl

-- 15 turns pass 64 bits
two-words : area_answer (turns 15) 60 ≡ record { refusal = 0; negative = 0; high = 1; low = 753255926290448384 }
unfolding area_refusal answer first_of length_fault size_fault all_of in_reach area spots around sums cross
two-words = refl

walk-answer : winding_answer list_b 4 (pos 8000000) (pos 6000000) ≡ record { refusal = 0; winding = pos 1 }
unfolding winding_refusal answer first_of length_fault size_fault all_of in_reach winding spots around sums crossing spans left right side twice
walk-answer = refl

-- the lowest number: 1 before 18, 2 before 18, a coordinate and a probe that are too far
counted-wrong : area_refusal (pos 400000001 ∷ []) 4 ≡ 1
unfolding area_refusal first_of length_fault size_fault all_of in_reach
counted-wrong = refl

too_short : area_refusal (pos 400000001 ∷ pos 0 ∷ []) 1 ≡ 2
unfolding area_refusal first_of length_fault size_fault all_of in_reach
too_short = refl

too_far : area_refusal (pos 400000001 ∷ pos 0 ∷ pos 0 ∷ pos 0 ∷ []) 2 ≡ 18
unfolding area_refusal first_of length_fault size_fault all_of in_reach
too_far = refl

just-in : area_refusal (pos 400000000 ∷ negsuc 399999999 ∷ pos 0 ∷ pos 0 ∷ []) 2 ≡ 0
unfolding area_refusal first_of length_fault size_fault all_of in_reach
just-in = refl

probe-too-far : winding_refusal list_a 4 (pos 0) (negsuc 800000000) ≡ 18
unfolding winding_refusal first_of length_fault size_fault all_of in_reach
probe-too-far = refl

-- A, the bow-tie and A again
report-three : report_answer (list_a ++ bow ++ list_a) (4 ∷ 8 ∷ 12 ∷ []) 3 ≡ record { refusal = 0; count = 3; zero = 1; high = 0; low = 64000000000000 }
unfolding report_refusal answer first_of length_fault size_fault sizes_fault last_of all_of in_reach outlines zeros sizes area spots around sums cross
report-three = refl

report-none : report_answer [] [] 0 ≡ record { refusal = 0; count = 0; zero = 0; high = 0; low = 0 }
unfolding report_refusal answer first_of length_fault size_fault sizes_fault last_of all_of in_reach outlines zeros sizes area spots around sums cross
report-none = refl

-- an end below the one before it gives an outline that is too short
report-back : report_refusal list_a (4 ∷ 2 ∷ 4 ∷ []) 3 ≡ 2
unfolding report_refusal first_of length_fault size_fault sizes_fault last_of all_of in_reach
report-back = refl

-- 4,097 loops: 19 and not 1; with a coordinate that is too far, 18
abbrev pairs : ℕ → List ℤ
pairs zero = []
pairs (suc n) = pos 1 ∷ pos 1 ∷ pos 1 ∷ pos 2 ∷ pairs n

abbrev twos : ℕ → ℕ → List ℕ
twos d zero = []
twos d (suc n) = (d + 2) ∷ twos (d + 2) n

report-many : report_refusal (pairs 4097) (twos 0 4097) 4097 ≡ 19
unfolding report_refusal first_of length_fault size_fault sizes_fault last_of all_of in_reach
report-many = refl

report-many-far : report_refusal (pos 400000001 ∷ pos 1 ∷ pos 1 ∷ pos 2 ∷ pairs 4096) (twos 0 4097) 4097 ≡ 18
unfolding report_refusal first_of length_fault size_fault sizes_fault last_of all_of in_reach
report-many-far = refl
