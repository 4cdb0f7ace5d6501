-- The refusals of `mask_prune`: a table in parts.
use Rattle.std.specs.Prelude.{ℕ, Bool, not, List, [], ◌∷◌, ◌++◌, ltb, Float}
use Rattle.basis.specs.Sizes.{most_candidates, most_laps}
use Rattle.basis.specs.Number.{all_within}
use Rattle.basis.specs.Each.{places_below, places_at_most, choices_known}
use Rattle.basis.specs.Refuse.{Row, row, length_fault, size_fault, choice_fault}
use Rattle.slice.specs.Slice.{shape_width}
use Rattle.slice.specs.Faults as slices
use Rattle.slice.specs.Editions.{edition_room_rows}
use Rattle.prune.specs.declared.call.Call.{Call}

-- 1: "a list's length disagrees with its count, or a count other than an outline's vertices is above its most". Of the candidates of one outline
abbrev pub cand_list_rows : ℕ → ℕ → ℕ → ℕ → ℕ → List Row
cand_list_rows at shape edition inside count =
    row (length_fault 2 at count) 1
    ∷ row (length_fault shape_width shape count) 1
    ∷ row (length_fault 1 edition count) 1
    ∷ row (length_fault 1 inside count) 1
    ∷ row (ltb most_candidates count) 1
    ∷ []

-- of the overlaps
abbrev pub lap_list_rows : ℕ → ℕ → ℕ → ℕ → List Row
lap_list_rows at shape edition laps =
    row (length_fault 7 at laps) 1 ∷ row (length_fault shape_width shape laps) 1 ∷ row (length_fault 1 edition laps) 1 ∷ row (ltb most_laps laps) 1 ∷ []

-- a mode is 0 to 3
abbrev pub mode_fault : ℕ → Bool
mode_fault mode = ltb 3 mode

-- 2 and 3: "mode, selector, source or yes/no code is unknown". An overlap's fifth code is the yes/no of opposing
abbrev pub call_rows : Call → List Row
call_rows c = row (size_fault c.vc1) 2 ∷ row (size_fault c.vc2) 2 ∷ row (mode_fault c.mode) 3 ∷ row (choice_fault c.opposing) 3 ∷ []

abbrev pub answer_rows : List ℕ → List ℕ → List ℕ → List Row
answer_rows inside1 inside2 lap_at = row (not (choices_known 1 0 inside1)) 3 ∷ row (not (choices_known 1 0 inside2)) 3 ∷ row (not (choices_known 7 4 lap_at)) 3 ∷ []

abbrev pub code_rows : Call → List ℕ → List ℕ → List ℕ → List Row
code_rows c inside1 inside2 lap_at = call_rows c ++ answer_rows inside1 inside2 lap_at

-- 5: "a number is not finite or is too large"
abbrev pub number_rows : List Float → List Float → List Float → List Row
number_rows cand1 cand2 lap = row (not (all_within cand1)) 5 ∷ row (not (all_within cand2)) 5 ∷ row (not (all_within lap)) 5 ∷ []

-- 6: "a segment or start index is not below its outline's vertex count": a candidate's start; an overlap's start and end index on each outline, and the start of
-- its view, which is of outline 2
abbrev pub lap_start_rows : Call → List ℕ → List Row
lap_start_rows c lap_at =
    row (not (places_below 7 0 c.vc1 lap_at)) 6
    ∷ row (not (places_below 7 1 c.vc2 lap_at)) 6
    ∷ row (not (places_below 7 2 c.vc1 lap_at)) 6
    ∷ row (not (places_below 7 3 c.vc2 lap_at)) 6
    ∷ row (not (places_below 7 5 c.vc2 lap_at)) 6
    ∷ []

abbrev pub start_rows : Call → List ℕ → List ℕ → List ℕ → List Row
start_rows c cand_at1 cand_at2 lap_at = row (not (places_below 2 0 c.vc1 cand_at1)) 6 ∷ row (not (places_below 2 0 c.vc2 cand_at2)) 6 ∷ lap_start_rows c lap_at

-- 7: "offset above the vertex count"
abbrev pub reach_rows : Call → List ℕ → List ℕ → List ℕ → List Row
reach_rows c cand_at1 cand_at2 lap_at =
    row (not (places_at_most 2 1 c.vc1 cand_at1)) 7 ∷ row (not (places_at_most 2 1 c.vc2 cand_at2)) 7 ∷ row (not (places_at_most 7 6 c.vc2 lap_at)) 7 ∷ []

-- 6 and 7
abbrev pub index_rows : Call → List ℕ → List ℕ → List ℕ → List Row
index_rows c cand_at1 cand_at2 lap_at = start_rows c cand_at1 cand_at2 lap_at ++ reach_rows c cand_at1 cand_at2 lap_at

-- 5 to 7
abbrev pub number_index_rows : Call → List ℕ → List Float → List ℕ → List Float → List ℕ → List Float → List Row
number_index_rows c cand_at1 cand1 cand_at2 cand2 lap_at lap = number_rows cand1 cand2 lap ++ index_rows c cand_at1 cand_at2 lap_at

-- 9: a lent list has no room for so many slices
abbrev pub room_rows : ℕ → ℕ → ℕ → ℕ → List Row
room_rows need at slice edition = slices.room_rows need at slice ++ edition_room_rows need edition
