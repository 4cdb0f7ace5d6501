-- A vertex and an overlap, by the tests of their parts.
use Rattle.std.proofs.Common.{◌≡◌, Bool, ◌&&◌}
use lib.Ieee.{eq}
use Rattle.basis.specs.Number.{+0}
use Rattle.outline.specs.declared.point.Vertex.{Vertex}
use Rattle.slice.specs.declared.data.Shape.{Shape}
use Rattle.straight_cut.specs.Microdegrees.{is_whole}
use Rattle.straight_cut.specs.Straight.{straight_vertex, straight_shape}

pub vertex-is : (v : Vertex) (a b : Bool) → a ≡ is_whole v.x → b ≡ is_whole v.y → ((a && b) && eq v.bulge +0) ≡ straight_vertex v
unfolding straight_vertex
vertex-is v a b e f = rw (e, f)

pub shape_is : (s : Shape) (w : Vertex) (a b : Bool) → w ≡ record { x = s.end_point.x; y = s.end_point.y; bulge = s.end_bulge } → a ≡ straight_vertex s.updated_start → b ≡ straight_vertex w → (a && b) ≡ straight_shape s
unfolding straight_shape
shape_is s w a b e f g = rw (f, g, e)
