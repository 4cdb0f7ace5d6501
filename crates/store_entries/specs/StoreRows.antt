-- Documents 01 and 02: what the store's entries refuse, before the store itself is asked.
use Rattle.std.specs.Prelude.{ℕ, ◌*◌, not, List, [], ◌∷◌, ◌++◌, length, ltb, Float}
use Rattle.basis.specs.Number.{all_within}
use Rattle.basis.specs.Refuse.{Row, row, length_fault}
use Rattle.basis.specs.Sizes.{most_slices}
use Rattle.slice.specs.Faults.{list_rows, code_rows}

-- "a store of 1,792 slices", half of it for each party
abbrev pub places : ℕ
places = most_slices

-- 1: the lengths of the four lists: a mark, four codes, six numbers and an edition of each place
abbrev pub store_rows : ℕ → ℕ → ℕ → ℕ → List Row
store_rows held at shape edition =
    row (length_fault 1 held places) 1 ∷ row (length_fault 4 at places) 1 ∷ row (length_fault 6 shape places) 1 ∷ row (length_fault 1 edition places) 1 ∷ []

-- 5: the six numbers of the slice that is put
abbrev pub number_rows : List Float → List Row
number_rows shape = row (not (all_within shape)) 5 ∷ []

-- 1, 3 and 5 of the slice that is put: lists of one slice
abbrev pub slice_rows : List ℕ → List Float → List Row
slice_rows at shape = list_rows (length at) (length shape) 1 ++ (code_rows at ++ number_rows shape)

-- 9: room for a slice of every place that a party has, so that the need does not tell how many are live: a handle, four codes, six numbers and an edition of each
abbrev pub room_rows : ℕ → ℕ → ℕ → ℕ → ℕ → List Row
room_rows cap handles at shape edition =
    row (ltb handles cap) 9 ∷ row (ltb at (4 * cap)) 9 ∷ row (ltb shape (6 * cap)) 9 ∷ row (ltb edition cap) 9 ∷ []

-- 22: a party that is neither 0 nor 1
abbrev pub party_rows : ℕ → List Row
party_rows party = row (ltb 1 party) 22 ∷ []
