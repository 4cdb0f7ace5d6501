-- Request K5: the view that starts an outline at a point of it, the Rust's `from_new_start`.
use Rattle.std.specs.Prelude.{ℕ, ◌-◌, Bool, true, false, cond, List, Float, Option, Some}
use Rattle.basis.specs.declared.number.Tolerance.{Tolerance}
use Rattle.outline.specs.declared.point.Point.{Point}
use Rattle.outline.specs.Points.{pos_of}
use Rattle.outline.specs.Outline.{outline_at}
use Rattle.view.specs.declared.data.ViewData.{ViewData}
use Rattle.view.specs.declared.create.Walk.{Walk}
use Rattle.view.specs.Create.{create_view}
use Rattle.view_span.specs.declared.span.Ends.{Ends}
use Rattle.view_start.specs.declared.slice_points.Splits.{Splits}
use Rattle.view_span.specs.Span.{ends_of, span_of}
use Rattle.view_start.specs.SlicePoints.{slice_view}

-- a closed outline is walked from the point to the point
abbrev pub round_ends : ℕ → Point → Ends
round_ends i p = ends_of true i p i p

-- an open one from the point to its last vertex
abbrev pub last_ends : List Float → ℕ → ℕ → Point → Ends
last_ends o vc i p = ends_of false i p (vc - 1) (pos_of (outline_at o vc (vc - 1)))

-- the two points whose span tells the host what to split
abbrev pub new_ends : List Float → ℕ → Bool → ℕ → Point → Ends
new_ends o vc closed i p = cond closed (round_ends i p) (last_ends o vc i p)

-- what `create` is given for the way round, from the segment i of the start, after it moved: one split serves both ends
abbrev pub round_walk : ℕ → ℕ → Point → Splits → Walk
round_walk vc i p s =
    record {
      start_index = i;
      end_intersect = p;
      intersect_index = i;
      updated_start = s.start_vertex;
      traverse_count = vc;
      split_bulge = s.start_bulge;
    }

unfoldable pub round_view : List Float → ℕ → ℕ → Point → Tolerance → Splits → ViewData
round_view o vc i p t s = create_view o vc (round_walk vc (span_of o vc (round_ends i p) t).start_index p s) t

unfoldable pub new_start_view : List Float → ℕ → Bool → ℕ → Point → Tolerance → Splits → Option ViewData
new_start_view o vc closed i p t s = cond closed (Some (round_view o vc i p t s)) (slice_view o vc (last_ends o vc i p) t s)
