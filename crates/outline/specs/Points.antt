-- Document 01, "Equal points and boxes", and the distance by which points of one segment are told apart.
use Rattle.std.specs.Prelude.{Bool, ◌&&◌, List, [], ◌∷◌, Float}
use Rattle.std.specs.Float.{binary64}
use Rattle.std.specs.Float.Ieee.{add, sub, mul}
use Rattle.basis.specs.Number.{agree, in_span}
use Rattle.basis.specs.declared.number.Tolerance.{Tolerance}
use Rattle.outline.specs.declared.point.Point.{Point}
use Rattle.outline.specs.declared.point.Vertex.{Vertex}

-- a vertex's position
abbrev pub pos_of : Vertex → Point
pos_of v = record { x = v.x; y = v.y }

-- the vertex with another bulge
abbrev pub with_bulge : Vertex → Float → Vertex
with_bulge v b = record { x = v.x; y = v.y; bulge = b }

-- a vertex at a point
abbrev pub at_point : Point → Float → Vertex
at_point p b = record { x = p.x; y = p.y; bulge = b }

-- the numbers of each, as a list that is looked through
abbrev pub point_numbers : Point → List Float
point_numbers p = p.x ∷ p.y ∷ []

abbrev pub vertex_numbers : Vertex → List Float
vertex_numbers v = v.x ∷ v.y ∷ v.bulge ∷ []

-- "rounded squared distance dx·dx + dy·dy": each operation is rounded once
unfoldable pub dist_squared : Point → Point → Float
dist_squared p q =
    let dx = sub binary64 p.x q.x in
    let dy = sub binary64 p.y q.y in
    add binary64 (mul binary64 dx dx) (mul binary64 dy dy)

-- "Two points agree when both coordinates do", x by the first tolerance and y by the second (K6)
unfoldable pub points_agree : Tolerance → Point → Point → Bool
points_agree t a b = agree t.x a.x b.x && agree t.y a.y b.y

-- "ex − t ≤ px ≤ ex + t, and likewise in y, the box closed and its sides rounded": p in the box around e
unfoldable pub in_box : Tolerance → Point → Point → Bool
in_box t e p = in_span t.x e.x p.x && in_span t.y e.y p.y
