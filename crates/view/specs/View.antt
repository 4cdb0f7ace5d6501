-- Document 01, "Vertices of a view".
use Rattle.std.specs.Prelude.{ℕ, ◌+◌, ◌-◌, ◌*◌, ◌≤◌, ◌<◌, cond, List, ◌∷◌, ◌++◌, ltb, leb, eqb, length, Float, Option, Some, None}
use Rattle.std.specs.Float.Ieee.{neg}
use Rattle.basis.specs.Number.{+0}
use Rattle.basis.specs.Items.{first_items}
use Rattle.outline.specs.declared.point.Vertex.{Vertex}
use Rattle.outline.specs.Points.{with_bulge, at_point, point_numbers, vertex_numbers}
use Rattle.outline.specs.Outline.{Whole, outline_at}
use Rattle.view.specs.declared.data.ViewData.{ViewData}

-- view data that fits an outline: "Offset equal to vc is valid."
pub record Fit (o : List Float) (vc : ℕ) (v : ViewData) : Type 0 where
  pub whole : Whole o vc
  pub starts : v.start_index < vc
  pub reaches : v.end_index_offset ≤ vc

-- "Forward: 0 is the updated start; 0 < k < offset is outline vertex start + k; k = offset > 0 is vertex start + offset with the updated
-- end bulge; offset + 1 is the end point with bulge 0."
unfoldable pub forward_at : List Float → ℕ → ViewData → ℕ → Vertex
forward_at o vc v k =
    cond (eqb k 0) v.updated_start
    (cond (ltb k v.end_index_offset) (outline_at o vc (v.start_index + k))
    (cond (eqb k v.end_index_offset) (with_bulge (outline_at o vc (v.start_index + v.end_index_offset)) v.updated_end_bulge)
    (at_point v.end_point +0)))

-- the vertex after i "with the negated bulge of the vertex before it"; "Negating +0 gives −0, and it is kept."
unfoldable pub turned_at : List Float → ℕ → ℕ → Vertex
turned_at o vc i = with_bulge (outline_at o vc (i + 1)) (neg (outline_at o vc i).bulge)

-- "Inverted: 0 is the end point with the updated end bulge negated; 0 < k < offset is vertex start + offset − k + 1 with the negated bulge of
-- the vertex before it; k = offset > 0 is vertex start + 1 with the updated start's bulge negated; offset + 1 is the updated start with bulge 0."
unfoldable pub inverted_at : List Float → ℕ → ViewData → ℕ → Vertex
inverted_at o vc v k =
    cond (eqb k 0) (at_point v.end_point (neg v.updated_end_bulge))
    (cond (ltb k v.end_index_offset) (turned_at o vc (v.start_index + (v.end_index_offset - k)))
    (cond (eqb k v.end_index_offset) (with_bulge (outline_at o vc (v.start_index + 1)) (neg v.updated_start.bulge))
    (with_bulge v.updated_start +0)))

unfoldable pub vertex_of : List Float → ℕ → ViewData → ℕ → Vertex
vertex_of o vc v k = cond v.inverted_direction (inverted_at o vc v k) (forward_at o vc v k)

-- "A view has offset + 2 vertices; an index beyond is answered "no vertex"."
abbrev pub vertex_count : ViewData → ℕ
vertex_count v = v.end_index_offset + 2

unfoldable pub get_vertex : List Float → ℕ → ViewData → ℕ → Option Vertex
get_vertex o vc v k = cond (leb (vertex_count v) k) None (Some (vertex_of o vc v k))

-- all vertices of a view, three numbers each, one after the other: vertex 0, vertex 1 and so on
abbrev pub vertex_item : List Float → ℕ → ViewData → ℕ → List Float
vertex_item o vc v k = vertex_numbers (vertex_of o vc v k)

abbrev pub view_vertices : List Float → ℕ → ViewData → List Float
view_vertices o vc v = first_items (vertex_item o vc v) (vertex_count v)

-- a view that fits, and room for all of its vertices
pub record ListFit (o : List Float) (vc : ℕ) (v : ViewData) (room : List Float) : Type 0 where
  pub view : Fit o vc v
  pub fits : 3 * vertex_count v ≤ length room

-- the numbers of a view, as a list that is looked through
abbrev pub view_numbers : ViewData → List Float
view_numbers v = vertex_numbers v.updated_start ++ (v.updated_end_bulge ∷ point_numbers v.end_point)
