-- The refusals that the three entries share: a table in parts. And what hosts hand in, as the library's own data.
use Rattle.std.specs.Prelude.{ℕ, Bool, not, ◌&&◌, List, [], ◌∷◌, ◌++◌, length, ltb, leb, Float}
use Rattle.basis.specs.Number.{all_within, tolerable}
use Rattle.basis.specs.declared.number.Tolerance.{Tolerance}
use Rattle.basis.specs.Refuse.{Row, row, length_fault, size_fault, choice_fault}
use Rattle.outline.specs.Points.{point_numbers, vertex_numbers}
use Rattle.view_entries.specs.declared.input.Split.{Split}
use Rattle.view_span.specs.declared.span.Ends.{Ends}
use Rattle.view_start.specs.declared.slice_points.Splits.{Splits}

-- of the start's split the first part's bulge and the split vertex, of the end's the first part
abbrev pub splits_of : Split → Split → Splits
splits_of start end = record { start_bulge = start.updated_start.bulge; start_vertex = start.split_vertex; end_part = end.updated_start }

-- the numbers of two points, and of a split
abbrev pub ends_numbers : Ends → List Float
ends_numbers e = point_numbers e.start_point ++ point_numbers e.end_point

abbrev pub split_numbers : Split → List Float
split_numbers s = vertex_numbers s.updated_start ++ vertex_numbers s.split_vertex

-- 1 to 5: the outline, its closed code, the tolerance
abbrev pub shape_rows : List Float → ℕ → ℕ → Tolerance → List Row
shape_rows o vc closed t =
    row (length_fault 3 (length o) vc) 1
    ∷ row (size_fault vc) 2
    ∷ row (choice_fault closed) 3
    ∷ row (not (tolerable t)) 4
    ∷ row (not (all_within o)) 5
    ∷ []

-- 5: the splits
abbrev pub split_rows : Split → Split → List Row
split_rows start end = row (not (all_within (split_numbers start))) 5 ∷ row (not (all_within (split_numbers end))) 5 ∷ []

-- 15: "An open outline with start index above end index"
unfoldable pub back_fault : Ends → Bool
back_fault e = not e.closed && ltb e.end_index e.start_index

-- 6, and "15 for that, after 6"
abbrev pub index_rows : ℕ → Ends → List Row
index_rows vc e = row (leb vc e.start_index) 6 ∷ row (leb vc e.end_index) 6 ∷ row (back_fault e) 15 ∷ []
