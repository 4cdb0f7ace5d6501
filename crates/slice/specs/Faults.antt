-- Document 01's refusals of slices: the faults of one slice, and the rows of a table over lists of them.
use Rattle.std.specs.Prelude.{ℕ, ◌*◌, ◌/◌, Bool, not, ◌≡◌, List, [], ◌∷◌, length, ltb, leb}
use Rattle.basis.specs.Each.{each_to, choices_known}
use Rattle.basis.specs.Refuse.{Row, row, length_fault, source_fault, count_for}
use Rattle.slice.specs.declared.data.Codes.{Codes}
use Rattle.slice.specs.Slice.{code_width, shape_width, codes_at}

-- ---- one slice

-- 3: "source [..] is unknown"
unfoldable pub source_known : Codes → Bool
source_known c = not (source_fault c.source)

-- 6: "start index is not below its outline's vertex count"
unfoldable pub start_inside : ℕ → ℕ → Codes → Bool
start_inside vc1 vc2 c = ltb c.start (count_for vc1 vc2 c.source)

-- 7: "offset above the vertex count"
unfoldable pub offset_inside : ℕ → ℕ → Codes → Bool
offset_inside vc1 vc2 c = leb c.offset (count_for vc1 vc2 c.source)

-- ---- a list of slices

-- the test passes for every slice in the list of codes
unfoldable pub each_slice : (Codes → Bool) → List ℕ → Bool
each_slice q at = each_to (λ i. q (codes_at at i)) (length at / code_width)

-- whatever a test answers of a slice is q of it
pub record Tests (answers : Codes → Bool → Type 0) (q : Codes → Bool) : Type 0 where
  pub told : (c : Codes) (b : Bool) → answers c b → b ≡ q c

abbrev pub sources_known : List ℕ → Bool
sources_known at = each_slice source_known at

abbrev pub starts_inside : ℕ → ℕ → List ℕ → Bool
starts_inside vc1 vc2 at = each_slice (start_inside vc1 vc2) at

abbrev pub offsets_inside : ℕ → ℕ → List ℕ → Bool
offsets_inside vc1 vc2 at = each_slice (offset_inside vc1 vc2) at

-- ---- the rows

-- 1: "a list's length disagrees with its count"
abbrev pub list_rows : ℕ → ℕ → ℕ → List Row
list_rows at shape count = row (length_fault code_width at count) 1 ∷ row (length_fault shape_width shape count) 1 ∷ []

-- 3: the second code is the yes/no of inverted
abbrev pub code_rows : List ℕ → List Row
code_rows at = row (not (sources_known at)) 3 ∷ row (not (choices_known code_width 1 at)) 3 ∷ []

-- 6 and 7: of each slice's own outline
abbrev pub index_rows : ℕ → ℕ → List ℕ → List Row
index_rows vc1 vc2 at = row (not (starts_inside vc1 vc2 at)) 6 ∷ row (not (offsets_inside vc1 vc2 at)) 7 ∷ []

-- 9: "lent room smaller than the need": there is no room for so many slices
abbrev pub room_rows : ℕ → ℕ → ℕ → List Row
room_rows need at shape = row (ltb at (code_width * need)) 9 ∷ row (ltb shape (shape_width * need)) 9 ∷ []
