-- Request K5, "with splits supplied as for slicing": what the host has to split, by the span of its two points, and what it hands in.
use Rattle.std.specs.Prelude.{ℕ, ◌+◌, cond, List, eqb, Float}
use Rattle.outline.specs.declared.point.Point.{Point}
use Rattle.outline.specs.declared.point.Vertex.{Vertex}
use Rattle.outline.specs.Outline.{outline_at}
use Rattle.view_span.specs.declared.span.Ends.{Ends}
use Rattle.view_span.specs.declared.span.Span.{Span}
use Rattle.view_start.specs.declared.slice_points.Splits.{Splits}
use Rattle.view_start.specs.SlicePoints.{running_vertex}

-- a segment from one vertex to another, and the point that it is split at
pub record Asked : Type 0 where
  pub from : Vertex
  pub to : Vertex
  pub at : Point

abbrev pub asked : Vertex → Vertex → Point → Asked
asked from to at = record { from = from; to = to; at = at }

-- its first part, and the vertex at the point
pub record Parts : Type 0 where
  pub part : Vertex
  pub vertex : Vertex

-- the start's: its segment, after it moved, at the start point
abbrev pub start_asked : List Float → ℕ → Ends → Span → Asked
start_asked o vc e s = asked (outline_at o vc s.start_index) (outline_at o vc (s.start_index + 1)) e.start_point

-- the end's, at the end point: on one segment that of the running vertex, else the segment at the end index
unfoldable pub end_asked : List Float → ℕ → Ends → Span → Vertex → Asked
end_asked o vc e s split =
    cond (eqb s.traverse_count 0) (asked (running_vertex o vc s split) (outline_at o vc (s.start_index + 1)) e.end_point)
    (asked (outline_at o vc e.end_index) (outline_at o vc (e.end_index + 1)) e.end_point)

-- what a host that splits so hands in
unfoldable pub handed_in : (Asked → Parts) → List Float → ℕ → Ends → Span → Splits
handed_in host o vc e s =
    let start = host (start_asked o vc e s) in
    record {
      start_bulge = start.part.bulge;
      start_vertex = start.vertex;
      end_part = (host (end_asked o vc e s start.vertex)).part;
    }
