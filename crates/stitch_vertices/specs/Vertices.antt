-- Document 01, "Stitching": a chain's vertices. They are listed newest first, so that the chain's last vertex is the list's head.
use Rattle.std.specs.Prelude.{ℕ, zero, suc, cond, List, [], ◌∷◌, Float}
use Rattle.basis.specs.declared.number.Tolerance.{Tolerance}
use Rattle.outline.specs.declared.point.Vertex.{Vertex}
use Rattle.outline.specs.Points.{pos_of, with_bulge, points_agree}
use Rattle.view.specs.declared.data.ViewData.{ViewData}
use Rattle.view.specs.View.{vertex_of, vertex_count}

-- "Adding a vertex that agrees in position with the chain's last replaces only that last one's bulge."
unfoldable pub add_vertex : Tolerance → List Vertex → Vertex → List Vertex
add_vertex t [] v = v ∷ []
add_vertex t (last ∷ vs) v = cond (points_agree t (pos_of last) (pos_of v)) (with_bulge last v.bulge ∷ vs) (v ∷ last ∷ vs)

-- the first m vertices of f follow, one after the other
unfoldable pub add_first : Tolerance → (ℕ → Vertex) → ℕ → List Vertex → List Vertex
add_first t f zero vs = vs
add_first t f (suc m) vs = add_vertex t (add_first t f m vs) (f m)

-- "that slice's vertices follow": all of its view's
unfoldable pub add_view : Tolerance → List Float → ℕ → ViewData → List Vertex → List Vertex
add_view t o vc v vs = add_first t (vertex_of o vc v) (vertex_count v) vs

-- "the last vertex is dropped"
unfoldable pub drop_last : List Vertex → List Vertex
drop_last [] = []
drop_last (last ∷ vs) = vs
