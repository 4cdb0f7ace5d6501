-- Document 01, "Vertices of a view": the constructors.
use Rattle.std.specs.Prelude.{ℕ, ◌+◌, ◌-◌, ◌<◌, Bool, false, cond, List, eqb, Float, Option, Some, None}
use Rattle.basis.specs.declared.number.Tolerance.{Tolerance}
use Rattle.outline.specs.declared.point.Point.{Point}
use Rattle.outline.specs.declared.point.Vertex.{Vertex}
use Rattle.outline.specs.Points.{pos_of, points_agree}
use Rattle.outline.specs.Outline.{Whole, outline_at}
use Rattle.view.specs.declared.data.ViewData.{ViewData}
use Rattle.view.specs.declared.create.Walk.{Walk}

-- forward view data, field by field
abbrev pub view_of : ℕ → ℕ → Vertex → Float → Point → ViewData
view_of start offset first bulge end =
    record {
      start_index = start;
      end_index_offset = offset;
      updated_start = first;
      updated_end_bulge = bulge;
      end_point = end;
      inverted_direction = false;
    }

-- ---- `create`

-- a walk whose intersect index and traverse count are as document 01 has them
pub record WalkFit (o : List Float) (vc : ℕ) (w : Walk) : Type 0 where
  pub whole : Whole o vc
  pub inside : w.intersect_index < vc
  pub walks : 0 < w.traverse_count

-- the point agrees with the vertex at an index
unfoldable pub near_vertex : List Float → ℕ → ℕ → Point → Tolerance → Bool
near_vertex o vc i p t = points_agree t p (pos_of (outline_at o vc i))

-- "the end bulge is that of the vertex before it (the updated start's when offset is 0)"; offset is traverse − 1, and the vertex before is vc − 1 further on
unfoldable pub bulge_before : List Float → ℕ → Walk → Float
bulge_before o vc w =
    cond (eqb (w.traverse_count - 1) 0) w.updated_start.bulge (outline_at o vc (w.intersect_index + (vc - 1))).bulge

abbrev pub walk_view : Walk → ℕ → Float → ViewData
walk_view w offset bulge = view_of w.start_index offset w.updated_start bulge w.end_intersect

-- "if the end agrees with the vertex at the intersect index, offset = traverse − 1 [..]. Otherwise offset = traverse and the end bulge is the start
-- bulge from the supplied split."
unfoldable pub create_view : List Float → ℕ → Walk → Tolerance → ViewData
create_view o vc w t =
    cond (near_vertex o vc w.intersect_index w.end_intersect t)
    (walk_view w (w.traverse_count - 1) (bulge_before o vc w))
    (walk_view w w.traverse_count w.split_bulge)

-- ---- `create_on_single_segment`: "has no view when both ends agree"; else offset 0, and the end bulge is the start's
unfoldable pub single_view : ℕ → Vertex → Point → Tolerance → Option ViewData
single_view start first end t =
    cond (points_agree t (pos_of first) end) None (Some (view_of start 0 first first.bulge end))

-- ---- `from_entire_pline`

-- "offset vc − 1 if closed, vc − 2 if open"
unfoldable pub entire_offset : ℕ → Bool → ℕ
entire_offset vc closed = cond closed (vc - 1) (vc - 2)

-- "start 0 with its vertex [..]; the end bulge is that of the vertex at the offset, the end point the next vertex, wrapped"
unfoldable pub entire_view : List Float → ℕ → Bool → ViewData
entire_view o vc closed =
    view_of 0 (entire_offset vc closed) (outline_at o vc 0) (outline_at o vc (entire_offset vc closed)).bulge (pos_of (outline_at o vc (entire_offset vc closed + 1)))
