-- The refusals of a stitch by tolerances: a table in parts.
use Rattle.std.specs.Prelude.{ℕ, ◌+◌, ◌*◌, Bool, not, ◌||◌, List, [], ◌∷◌, ◌++◌, ltb, Float}
use Rattle.basis.specs.Number.{all_within, tolerable}
use Rattle.basis.specs.declared.number.Tolerance.{Tolerance}
use Rattle.basis.specs.Sizes.{most_slices}
use Rattle.basis.specs.Refuse.{Row, row, length_fault, size_fault, choice_fault}
use Rattle.select.specs.declared.class.Starts.{Starts}
use Rattle.slice.specs.Faults as slices
use Rattle.stitch_run.specs.Stitch.{need_of}
use Rattle.stitch_faults.specs.declared.faults.Lengths.{Lengths}

-- 1: of the outlines, whose lists have 3 numbers a vertex, and of the slices; "slices in a stitch: 0 to 1,792"
abbrev pub list_rows : ℕ → ℕ → ℕ → ℕ → ℕ → ℕ → ℕ → List Row
list_rows len1 vc1 len2 vc2 at numbers count =
    row (length_fault 3 len1 vc1) 1
    ∷ row (length_fault 3 len2 vc2) 1
    ∷ (slices.list_rows at numbers count ++ (row (ltb most_slices count) 1 ∷ []))

-- 2: "an outline is too short or too long"; 3: "selector, source or yes/no code is unknown"
abbrev pub code_rows : ℕ → ℕ → ℕ → List ℕ → List Row
code_rows vc1 vc2 selector at =
    row (size_fault vc1) 2
    ∷ row (size_fault vc2) 2
    ∷ row (choice_fault selector) 3
    ∷ slices.code_rows at

-- 4: a tolerance "is not finite or is out of range"; 5: "a number is not finite or is too large"
abbrev pub number_rows : Tolerance → List Float → List Float → List Float → List Row
number_rows t o1 o2 numbers =
    row (not (tolerable t)) 4
    ∷ row (not (all_within o1)) 5
    ∷ row (not (all_within o2)) 5
    ∷ row (not (all_within numbers)) 5
    ∷ []

-- 8: "starts not pline2 ≤ pline1_overlapping ≤ pline2_overlapping ≤ slices"
unfoldable pub starts_fault : Starts → ℕ → Bool
starts_fault s count =
    ltb s.pline1_overlapping s.pline2 || (ltb s.pline2_overlapping s.pline1_overlapping || ltb count s.pline2_overlapping)

-- 6 and 7 of the slices, and 8
abbrev pub index_rows : ℕ → ℕ → List ℕ → Starts → ℕ → List Row
index_rows vc1 vc2 at starts count =
    slices.index_rows vc1 vc2 at ++ (row (starts_fault starts count) 8 ∷ [])

-- how long the lent lists are
abbrev pub lengths : ℕ → ℕ → ℕ → ℕ → ℕ → Lengths
lengths room ends chain chain_ends chain_how = record { room = room; ends = ends; chain = chain; chain_ends = chain_ends; chain_how = chain_how }

-- 9: three numbers for each vertex of the need, and one entry per slice in the four other lists
abbrev pub room_rows : List ℕ → ℕ → Lengths → List Row
room_rows at count l =
    row (ltb l.room (3 * need_of at count)) 9
    ∷ row (ltb l.ends count) 9
    ∷ row (ltb l.chain count) 9
    ∷ row (ltb l.chain_ends count) 9
    ∷ row (ltb l.chain_how count) 9
    ∷ []
