-- Document 02, K11: "18 also for a vertex or cut that is not whole or has a bulge other than zero."
use Rattle.std.specs.Prelude.{◌/◌, Bool, ◌&&◌, List, length, Float}
use Rattle.std.specs.Float.Ieee.{eq}
use Rattle.basis.specs.Number.{+0}
use Rattle.basis.specs.All.{all_of}
use Rattle.basis.specs.Each.{each_to}
use Rattle.outline.specs.declared.point.Vertex.{Vertex}
use Rattle.outline.specs.Points.{at_point}
use Rattle.outline.specs.Outline.{vertex_at}
use Rattle.slice.specs.declared.data.Shape.{Shape}
use Rattle.slice.specs.Slice.{shape_width, shape_at}
use Rattle.straight_cut.specs.Microdegrees.{is_whole}

-- both coordinates are whole microdegrees, and the bulge is zero: -0 is zero too
unfoldable pub straight_vertex : Vertex → Bool
straight_vertex v = (is_whole v.x && is_whole v.y) && eq v.bulge +0

-- an overlap's view, by its six numbers: both its ends are
unfoldable pub straight_shape : Shape → Bool
straight_shape s = straight_vertex s.updated_start && straight_vertex (at_point s.end_point s.end_bulge)

-- every vertex of an outline; every point of the intersections; every overlap
unfoldable pub straight_outline : List Float → Bool
straight_outline o = each_to (λ i. straight_vertex (vertex_at o i)) (length o / 3)

abbrev pub whole_points : List Float → Bool
whole_points l = all_of is_whole l

unfoldable pub straight_laps : List Float → Bool
straight_laps l = each_to (λ j. straight_shape (shape_at l j)) (length l / shape_width)
