-- Document 02, K3: "Each outline carries a 32-bit edition, each slice the edition it was cut from (an overlap's is outline 2's), and pruning copies it. Stitching and
-- `validate_for_source` compare it with the outline's." A list of editions has one number a slice.
use Rattle.std.specs.Prelude.{ℕ, ◌/◌, Bool, not, List, [], ◌∷◌, length, get_or, eqb, ltb}
use Rattle.basis.specs.Each.{each_to}
use Rattle.basis.specs.Refuse.{Row, row, length_fault, by_source}
use Rattle.slice.specs.Slice.{code_width, codes_at}

-- the editions of a call: those of outline 1 and outline 2, and each slice's
pub record Editions : Type 0 where
  pub first : ℕ
  pub second : ℕ
  pub slices : List ℕ

abbrev pub editions : ℕ → ℕ → List ℕ → Editions
editions first second slices = record { first = first; second = second; slices = slices }

-- the edition of the outline that a source names
abbrev pub edition_of : ℕ → ℕ → ℕ → ℕ
edition_of first second source = by_source first second source

-- slice number i has the edition of its own outline
unfoldable pub edition_same : Editions → List ℕ → ℕ → Bool
edition_same e at i = eqb (get_or e.slices i 0) (edition_of e.first e.second (codes_at at i).source)

-- 14: "edition differs": a slice has another edition than its outline
unfoldable pub edition_fault : Editions → List ℕ → Bool
edition_fault e at = not (each_to (edition_same e at) (length at / code_width))

-- ---- the rows

-- 1: "a list's length disagrees with its count"
abbrev pub edition_list_rows : ℕ → ℕ → List Row
edition_list_rows len count = row (length_fault 1 len count) 1 ∷ []

-- 14: "after 8 and before 9"
abbrev pub edition_rows : Editions → List ℕ → List Row
edition_rows e at = row (edition_fault e at) 14 ∷ []

-- 9: "lent room smaller than the need": one edition a slice
abbrev pub edition_room_rows : ℕ → ℕ → List Row
edition_room_rows need len = row (ltb len need) 9 ∷ []
