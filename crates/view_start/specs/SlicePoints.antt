-- Request K5: the view between two points of an outline, the Rust's `from_slice_points`, "with splits supplied as for slicing".
use Rattle.std.specs.Prelude.{ℕ, Bool, cond, ◌&&◌, List, eqb, Float, Option, Some, None}
use Rattle.basis.specs.declared.number.Tolerance.{Tolerance}
use Rattle.outline.specs.declared.point.Vertex.{Vertex}
use Rattle.outline.specs.Points.{pos_of, points_agree}
use Rattle.outline.specs.Outline.{outline_at}
use Rattle.view.specs.declared.data.ViewData.{ViewData}
use Rattle.view.specs.declared.create.Walk.{Walk}
use Rattle.view.specs.Create.{near_vertex, create_view, single_view}
use Rattle.view_span.specs.declared.span.Ends.{Ends}
use Rattle.view_span.specs.declared.span.Span.{Span}
use Rattle.view_start.specs.declared.slice_points.Splits.{Splits}
use Rattle.view_span.specs.Span.{span_of}

-- the vertex that the view runs on from: a start that moved is on the outline's own vertex, any other is split off at the start point
unfoldable pub running_vertex : List Float → ℕ → Span → Vertex → Vertex
running_vertex o vc s split = cond s.moved (outline_at o vc s.start_index) split

-- what `create` is given: the end's split is of the segment at the end index, and its first part's bulge is used
abbrev pub walk_from : Ends → Span → Vertex → Vertex → Walk
walk_from e s first part =
    record {
      start_index = s.start_index;
      end_intersect = e.end_point;
      intersect_index = e.end_index;
      updated_start = first;
      traverse_count = s.traverse_count;
      split_bulge = part.bulge;
    }

unfoldable pub walk_over : List Float → ℕ → Ends → Span → Splits → Walk
walk_over o vc e s p = walk_from e s (running_vertex o vc s p.start_vertex) p.end_part

-- "a traverse of 1 whose points agree gives no view": where the end stands on its segment's vertex, and it is the updated start that is compared with it
unfoldable pub collapses : List Float → ℕ → Walk → Tolerance → Bool
collapses o vc w t =
    eqb w.traverse_count 1
    && (near_vertex o vc w.intersect_index w.end_intersect t && points_agree t (pos_of w.updated_start) w.end_intersect)

unfoldable pub walked_view : List Float → ℕ → Walk → Tolerance → Option ViewData
walked_view o vc w t = cond (collapses o vc w t) None (Some (create_view o vc w t))

-- traverse count 0: both points are on one segment, and the end's split is of the running vertex, so that its first part is the view's start; else a walk
unfoldable pub sliced_view : List Float → ℕ → Ends → Tolerance → Span → Splits → Option ViewData
sliced_view o vc e t s p =
    cond (eqb s.traverse_count 0) (single_view s.start_index p.end_part e.end_point t) (walked_view o vc (walk_over o vc e s p) t)

unfoldable pub slice_view : List Float → ℕ → Ends → Tolerance → Splits → Option ViewData
slice_view o vc e t p = sliced_view o vc e t (span_of o vc e t) p
