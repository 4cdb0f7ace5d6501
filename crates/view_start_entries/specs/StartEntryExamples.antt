-- Closed examples of the refusals, computed: "15 for that, after 6".
use Rattle.std.specs.Prelude.{ℕ, Bool, true, false, ◌≡◌, refl, List, [], ◌∷◌, Float, pos, negsuc}
use Rattle.std.specs.Float.{nan, fin}
use Rattle.std.specs.Float.Ieee.{of_bits, lt, le}
use Rattle.basis.specs.All.{all_of}
use Rattle.basis.specs.Number.{+0, abs_f, within, tolerable_on, tolerable, alike}
use Rattle.basis.specs.declared.number.Tolerance.{Tolerance}
use Rattle.basis.specs.Refuse.{first_of, length_fault, size_fault}
use Rattle.outline.specs.declared.point.Point.{Point}
use Rattle.view_entries.specs.declared.input.Split.{Split}
use Rattle.view_span.specs.declared.span.Ends.{Ends}
use Rattle.view_span.specs.Span.{ends_of}
use Rattle.view_start_entries.specs.StartRows.{back_fault}
use Rattle.view_start_entries.specs.SpanEntry.{span_refusal}
use Rattle.view_start_entries.specs.SliceEntry.{slice_refusal}
use Rattle.view_start_entries.specs.NewStartEntry.{new_start_refusal}

looks : Unit {0}
unfolding span_refusal slice_refusal new_start_refusal first_of length_fault size_fault tolerable tolerable_on within all_of abs_f back_fault of_bits lt le
looks = tt

-- two vertices, (0,0) and (4,0); a point between them; a tolerance; a split
abbrev line : List Float
line = +0 ∷ +0 ∷ +0 ∷ fin false 1 (pos 2) ∷ +0 ∷ +0 ∷ []

abbrev p : Point
p = record { x = fin false 1 (pos 0); y = +0 }

abbrev t : Tolerance
t = alike (fin false 1 (negsuc 9))

abbrev split : Float → Split
split bulge = record { updated_start = record { x = +0; y = +0; bulge = +0 }; split_vertex = record { x = +0; y = +0; bulge = bulge } }

-- the code of a closed outline is 1, of an open one 0
abbrev between : Bool → ℕ → ℕ → Ends
between closed i j = ends_of closed i p j p

-- Back from segment 1 to segment 0: refused on an open outline, accepted on a closed one.
pub back : (span_refusal line 2 0 (between false 1 0) t ≡ 15) × (span_refusal line 2 1 (between true 1 0) t ≡ 0) × (span_refusal line 2 0 (between false 0 1) t ≡ 0)
unfolding looks
back = (refl, refl, refl)

-- A start index that is too large is 6, though it is above the end index too; and so is an end index. An unknown code is 3, before both.
pub six-first : (span_refusal line 2 0 (between false 2 0) t ≡ 6) × (span_refusal line 2 0 (between false 0 2) t ≡ 6) × (span_refusal line 2 2 (between false 1 0) t ≡ 3)
unfolding looks
six-first = (refl, refl, refl)

-- A split's number that the call would not use is looked at, before the indexes.
pub every-number : (slice_refusal line 2 1 (between true 0 1) t (split +0) (split +0) ≡ 0)
    × (slice_refusal line 2 1 (between true 0 1) t (split +0) (split nan) ≡ 5)
    × (slice_refusal line 2 0 (between false 1 0) t (split nan) (split +0) ≡ 5)
    × (slice_refusal line 2 0 (between false 1 0) t (split +0) (split +0) ≡ 15)
unfolding looks
every-number = (refl, refl, refl, refl)

-- A new start has no end index, and so no 15.
pub no_end : (new_start_refusal line 2 0 1 p t (split +0) (split +0) ≡ 0) × (new_start_refusal line 2 0 2 p t (split +0) (split +0) ≡ 6) × (new_start_refusal line 2 1 0 p t (split +0) (split nan) ≡ 5)
unfolding looks
no_end = (refl, refl, refl)
