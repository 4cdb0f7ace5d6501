-- The Rust's text, line by line, over any function that splits: `from_slice_points` and `from_new_start` of pline_view.rs, with what they call. `RustTheorems`
-- says that the definitions of `view_start` are these, where the host splits as it is asked.
use Rattle.std.specs.Prelude.{ℕ, ◌+◌, ◌-◌, Bool, true, false, not, cond, ◌&&◌, List, leb, eqb, Float, Option, Some, None}
use Rattle.std.specs.Float.Ieee.{lt}
use Rattle.basis.specs.declared.number.Tolerance.{Tolerance}
use Rattle.outline.specs.declared.point.Point.{Point}
use Rattle.outline.specs.declared.point.Vertex.{Vertex}
use Rattle.outline.specs.Points.{pos_of, points_agree, dist_squared}
use Rattle.outline.specs.Outline.{vertex_at}
use Rattle.view.specs.declared.data.ViewData.{ViewData}
use Rattle.view.specs.Create.{view_of}
use Rattle.view_start.specs.Asked.{Asked, Parts, asked}

-- a segment index, and whether the start point is at the end of the segment before it
pub record Begin : Type 0 where
  pub index : ℕ
  pub at_end : Bool

-- source.next_wrapping_index(i), source.prev_wrapping_index(i), source.fwd_wrapping_dist(a, b)
unfoldable pub next : ℕ → ℕ → ℕ
next vc i = cond (leb vc (i + 1)) 0 (i + 1)

unfoldable pub prev : ℕ → ℕ → ℕ
prev vc i = cond (eqb i 0) (vc - 1) (i - 1)

unfoldable pub forward : ℕ → ℕ → ℕ → ℕ
forward vc a b = cond (leb a b) (b - a) (vc - a + b)

module _ (host : Asked → Parts) (o : List Float) (vc : ℕ) (t : Tolerance) where
  -- seg_split_at_point(v1, v2, point, pos_equal_eps)
  abbrev split : Vertex → Vertex → Point → Parts
  split v1 v2 p = host (asked v1 v2 p)

  -- Self::create_on_single_segment(source, start_index, updated_start, end_intersect, pos_equal_eps)
  unfoldable pub single : ℕ → Vertex → Point → Option ViewData
  single start first end = cond (points_agree t (pos_of first) end) None (Some (view_of start 0 first first.bulge end))

  -- Self::create(source, start_index, end_intersect, intersect_index, updated_start, traverse_count, pos_equal_eps)
  unfoldable pub create : ℕ → Point → ℕ → Vertex → ℕ → ViewData
  create start end j first count =
      cond (points_agree t end (pos_of (vertex_at o j)))
      (view_of start (count - 1) first (cond (not (eqb (count - 1) 0)) (vertex_at o (prev vc j)).bulge first.bulge) end)
      (view_of start count first (split (vertex_at o j) (vertex_at o (next vc j)) end).part.bulge end)

  -- let (start_index, start_point_at_seg_end) = ..
  unfoldable pub begin : Bool → Point → ℕ → ℕ → Begin
  begin closed p i j =
      cond (not closed && leb j i) (record { index = i; at_end = false })
      (cond (points_agree t (pos_of (vertex_at o (next vc i))) p) (record { index = next vc i; at_end = true }) (record { index = i; at_end = false }))

  -- let traverse_count = ..
  unfoldable pub count : Bool → Point → ℕ → Point → ℕ → ℕ
  count closed p i q j =
      cond (eqb (forward vc i j) 0 && (closed && not (points_agree t p q)))
      (cond (lt (dist_squared (pos_of (vertex_at o i)) p) (dist_squared (pos_of (vertex_at o i)) q)) 0 vc)
      (forward vc i j)

  -- let updated_start = ..
  unfoldable pub updated : Begin → Point → Point → ℕ → Vertex
  updated b p q n =
      let v1 = vertex_at o b.index in
      let v2 = vertex_at o (next vc b.index) in
      let a = (split v1 v2 p).vertex in
      cond b.at_end (cond (eqb n 0) (split v1 v2 q).part v1) (cond (eqb n 0) (split a v2 q).part a)

  -- if traverse_count == 0 .. else if traverse_count == 1 && .. else ..
  unfoldable pub made : ℕ → Point → ℕ → Vertex → ℕ → Option ViewData
  made i q j first n =
      cond (eqb n 0) (single i first q)
      (cond (eqb n 1 && (points_agree t q (pos_of (vertex_at o j)) && points_agree t (pos_of first) q)) None (Some (create i q j first n)))

  -- Self::from_slice_points(source, start_point, start_index, end_point, end_index, pos_equal_eps)
  unfoldable pub from_slice_points : Bool → Point → ℕ → Point → ℕ → Option ViewData
  from_slice_points closed p i q j =
      let b = begin closed p i j in
      let n = count closed p b.index q j in
      made b.index q j (updated b p q n) n

  -- let start_index = ..
  unfoldable pub moved : Point → ℕ → ℕ
  moved p i = cond (points_agree t (pos_of (vertex_at o (next vc i))) p) (next vc i) i

  -- let (end_index_offset, updated_end_bulge) = .., let view_data = ..
  unfoldable pub around : Point → ℕ → ViewData
  around p i =
      let parts = split (vertex_at o i) (vertex_at o (next vc i)) p in
      cond (points_agree t (pos_of (vertex_at o i)) p)
      (view_of i (vc - 1) parts.vertex (vertex_at o (prev vc i)).bulge p)
      (view_of i vc parts.vertex parts.part.bulge p)

  -- Self::from_new_start(source, start_point, start_index, pos_equal_eps)
  unfoldable pub from_new_start : Bool → Point → ℕ → Option ViewData
  from_new_start closed p i =
      cond (not closed) (from_slice_points closed p i (pos_of (vertex_at o (vc - 1))) (vc - 1)) (Some (around p (moved p i)))
