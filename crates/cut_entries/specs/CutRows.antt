-- The refusals that `mask_cut_order` and `mask_candidates` share: a table in parts, over what the call has.
use Rattle.std.specs.Prelude.{ℕ, ◌+◌, ◌≤◌, Bool, not, ◌&&◌, List, [], ◌∷◌, ◌++◌, length, ltb, eqb, Float}
use Rattle.basis.specs.Sizes.{most_hits, most_laps, most_candidates}
use Rattle.basis.specs.declared.number.Tolerance.{Tolerance}
use Rattle.basis.specs.Number.{all_within, tolerable}
use Rattle.basis.specs.Each.{places_below, places_at_most, choices_known}
use Rattle.basis.specs.Refuse.{Row, row, length_fault, size_fault, source_fault}
use Rattle.cut.specs.Cuts.{Given, which_of}

-- 1: "a list's length disagrees with its count, or a count other than an outline's vertices is above its most"
unfoldable pub list_rows : Given → List Row
list_rows g =
    row (length_fault 3 (length g.outline) g.vc) 1
    ∷ row (length_fault 2 (length g.hit_at) g.hits) 1
    ∷ row (length_fault 2 (length g.hit) g.hits) 1
    ∷ row (length_fault 7 (length g.lap_at) g.laps) 1
    ∷ row (length_fault 6 (length g.lap) g.laps) 1
    ∷ row (ltb most_hits g.hits) 1
    ∷ row (ltb most_laps g.laps) 1
    ∷ []

-- 2 to 4. An overlap's fifth code is the yes/no of opposing
abbrev pub code_rows : ℕ → ℕ → Tolerance → List ℕ → List Row
code_rows vc source t lap_at =
    row (size_fault vc) 2 ∷ row (source_fault source) 3 ∷ row (not (choices_known 7 4 lap_at)) 3 ∷ row (not (tolerable t)) 4 ∷ []

-- 5
abbrev pub range_rows : List Float → List Float → List Float → List Row
range_rows outline hit lap = row (not (all_within outline)) 5 ∷ row (not (all_within hit)) 5 ∷ row (not (all_within lap)) 5 ∷ []

unfoldable pub value_rows : Given → List Row
value_rows g = code_rows g.vc g.source g.tolerance g.lap_at ++ range_rows g.outline g.hit g.lap

-- an overlap's own view is of outline 2, so it is looked at where the source is 2: its start stands at place 5, its offset at 6
unfoldable pub view_start_fault : ℕ → ℕ → List ℕ → Bool
view_start_fault source vc lap_at = eqb source 2 && not (places_below 7 5 vc lap_at)

unfoldable pub view_offset_fault : ℕ → ℕ → List ℕ → Bool
view_offset_fault source vc lap_at = eqb source 2 && not (places_at_most 7 6 vc lap_at)

-- 6: "a segment or start index is not below its outline's vertex count": of an intersection, of an overlap's start and of its end, each on the outline that the
-- source names, and of an overlap's view. 7: "offset above the vertex count", of an overlap's view
abbrev pub lap_index_rows : ℕ → ℕ → List ℕ → List Row
lap_index_rows source vc lap_at =
    row (not (places_below 7 (which_of source) vc lap_at)) 6
    ∷ row (not (places_below 7 (2 + which_of source) vc lap_at)) 6
    ∷ row (view_start_fault source vc lap_at) 6
    ∷ row (view_offset_fault source vc lap_at) 7
    ∷ []

unfoldable pub index_rows : Given → List Row
index_rows g = row (not (places_below 2 (which_of g.source) g.vc g.hit_at)) 6 ∷ lap_index_rows g.source g.vc g.lap_at

-- ---- what a caller has shown

-- so few cuts that they can be counted and multiplied: "candidates of one outline" are at most as many
pub record FewCuts (count : ℕ) : Type 0 where
  pub few : count ≤ most_candidates
