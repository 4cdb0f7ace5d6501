-- The two squares of document 01, pruned, computed: T3, T4 and T5. And one opposing overlap.
use Rattle.std.specs.Prelude.{ℕ, false, ◌≡◌, refl, Float, pos}
use mathlib.Core.List.{List, [], ◌∷◌, flat_map}
use Rattle.std.specs.Float.{fin}
use Rattle.basis.specs.Number.{+0}
use Rattle.slice.specs.Slice.{shape_at}
use Rattle.prune.specs.declared.counts.Pruned.{Pruned}
use Rattle.prune.specs.Prune.{Cands, Given, given, call_of, cands, overlaps, cand_codes, lap_codes, lap_inverted, kept_to, laps_to, wanted_of, turned_of, first_part, second_part, parts_of, slices_of, pruned_at, pruned_of, slice_codes, slice_shapes, slice_editions}

abbrev whole : ℕ → Float
whole n = fin false n (pos 0)

-- the numbers of a candidate from (x, y) to (u, v), all bulges 0
abbrev from_to : ℕ → ℕ → ℕ → ℕ → List Float → List Float
from_to x y u v l = whole x ∷ whole y ∷ +0 ∷ +0 ∷ whole u ∷ whole v ∷ l

-- A's candidates (T1), the first inside B; B's (T2), the second inside A
abbrev a : Cands
a = cands (1 ∷ 1 ∷ 2 ∷ 3 ∷ []) (from_to 4 2 2 4 (from_to 2 4 4 2 [])) (7 ∷ 7 ∷ []) (1 ∷ 0 ∷ [])

abbrev b : Cands
b = cands (0 ∷ 3 ∷ 3 ∷ 1 ∷ []) (from_to 4 2 2 4 (from_to 2 4 4 2 [])) (8 ∷ 8 ∷ []) (0 ∷ 1 ∷ [])

-- the outlines run in the same direction, and do not overlap
abbrev squares : ℕ → Given
squares mode = given (call_of mode 0 4 4 2 2 0) a b (overlaps [] [] [])

abbrev answer : ℕ → ℕ → ℕ → ℕ → Pruned
answer n i j k = record { slices = n; starts = record { pline2 = i; pline1_overlapping = j; pline2_overlapping = k } }

-- T3, Union: "starts 1, 2, 2"; A from (2,4), B from (4,2)
pub t3-answer : pruned_of (squares 0) ≡ answer 2 1 2 2
unfolding pruned_of pruned_at kept_to laps_to parts_of first_part second_part wanted_of turned_of cand_codes
t3-answer = refl

pub t3-codes : slice_codes (squares 0) ≡ 1 ∷ 0 ∷ 2 ∷ 3 ∷ 2 ∷ 0 ∷ 0 ∷ 3 ∷ []
unfolding slices_of kept_to laps_to parts_of first_part second_part wanted_of turned_of cand_codes flat_map
t3-codes = refl

pub t3-shapes : slice_shapes (squares 0) ≡ from_to 2 4 4 2 (from_to 4 2 2 4 [])
unfolding shape_at slices_of kept_to laps_to parts_of first_part second_part wanted_of turned_of cand_codes flat_map
t3-shapes = refl

-- A was cut in edition 7, B in edition 8
pub t3-editions : slice_editions (squares 0) ≡ 7 ∷ 8 ∷ []
unfolding slices_of kept_to laps_to parts_of first_part second_part wanted_of turned_of
t3-editions = refl

-- T4, Intersection: what is inside the other
pub t4-codes : slice_codes (squares 1) ≡ 1 ∷ 0 ∷ 1 ∷ 1 ∷ 2 ∷ 0 ∷ 3 ∷ 1 ∷ []
unfolding slices_of kept_to laps_to parts_of first_part second_part wanted_of turned_of cand_codes flat_map
t4-codes = refl

-- T5, FirstMinusSecond: opposing is wanted and they do not oppose, so the kept of 1 is inverted
pub t5-answer : pruned_of (squares 2) ≡ answer 2 1 2 2
unfolding pruned_of pruned_at kept_to laps_to parts_of first_part second_part wanted_of turned_of cand_codes
t5-answer = refl

pub t5-codes : slice_codes (squares 2) ≡ 1 ∷ 1 ∷ 2 ∷ 3 ∷ 2 ∷ 0 ∷ 3 ∷ 1 ∷ []
unfolding slices_of kept_to laps_to parts_of first_part second_part wanted_of turned_of cand_codes flat_map
t5-codes = refl

-- SecondMinusFirst, the other way round
pub second-minus-first : slice_codes (squares 3) ≡ 1 ∷ 1 ∷ 1 ∷ 1 ∷ 2 ∷ 0 ∷ 0 ∷ 3 ∷ []
unfolding slices_of kept_to laps_to parts_of first_part second_part wanted_of turned_of cand_codes flat_map
second-minus-first = refl

-- no candidates and one opposing overlap, view from index 5 with offset 6: for 1 it is inverted, for 2 it is not, and both are of outline 2
abbrev lapped : Given
lapped = given (call_of 0 1 8 8 0 0 1) (cands [] [] [] []) (cands [] [] [] []) (overlaps (0 ∷ 1 ∷ 2 ∷ 3 ∷ 1 ∷ 5 ∷ 6 ∷ []) (from_to 4 2 2 4 []) (8 ∷ []))

pub lap-answer : pruned_of lapped ≡ answer 2 0 0 1
unfolding pruned_of pruned_at kept_to laps_to parts_of first_part second_part wanted_of turned_of lap_codes
lap-answer = refl

pub lap-codes : slice_codes lapped ≡ 2 ∷ 1 ∷ 5 ∷ 6 ∷ 2 ∷ 0 ∷ 5 ∷ 6 ∷ []
unfolding slices_of kept_to laps_to parts_of first_part second_part wanted_of turned_of lap_codes lap_inverted flat_map
lap-codes = refl

-- both have the overlap's edition
pub lap-editions : slice_editions lapped ≡ 8 ∷ 8 ∷ []
unfolding slices_of kept_to laps_to parts_of first_part second_part wanted_of turned_of
lap-editions = refl
