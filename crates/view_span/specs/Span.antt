-- Request K5, "Start anywhere": from which segment a view between two points of an outline starts, and how many segments further on it ends. Both
-- constructors and what the host has to split follow from `span_of`. Where document 02 is short the Rust decides, its `from_slice_points`.
use Rattle.std.specs.Prelude.{ℕ, ◌+◌, ◌-◌, ◌≤◌, ◌<◌, Bool, not, cond, ◌&&◌, ◌||◌, List, ltb, eqb, Float}
use Rattle.std.specs.Float.Ieee.{lt}
use Rattle.basis.specs.declared.number.Tolerance.{Tolerance}
use Rattle.outline.specs.declared.point.Point.{Point}
use Rattle.outline.specs.Points.{pos_of, points_agree, dist_squared}
use Rattle.outline.specs.Outline.{Whole, wrap, outline_at}
use Rattle.view.specs.Create.{near_vertex}
use Rattle.view_span.specs.declared.span.Ends.{Ends}
use Rattle.view_span.specs.declared.span.Span.{Span}

-- two points, each with its segment's number
abbrev pub ends_of : Bool → ℕ → Point → ℕ → Point → Ends
ends_of closed i p j q = record { closed = closed; start_index = i; start_point = p; end_index = j; end_point = q }

-- ---- the start

-- "unless an open outline can't": it can't where the start index is not below the end index
unfoldable pub can_move : Ends → Bool
can_move e = e.closed || ltb e.start_index e.end_index

-- "a start point on the end of its segment moves forward unless an open outline can't"
unfoldable pub moves_on : List Float → ℕ → Ends → Tolerance → Bool
moves_on o vc e t = can_move e && near_vertex o vc (e.start_index + 1) e.start_point t

-- the start's segment: one further where it moved
unfoldable pub start_index_of : ℕ → ℕ → Bool → ℕ
start_index_of vc i moved = cond moved (wrap vc (i + 1)) i

-- ---- how many segments further on the end is

-- from segment a on to segment b, round the outline: 0 for the same
unfoldable pub ahead : ℕ → ℕ → ℕ → ℕ
ahead vc a b = wrap vc (b + (vc - a))

-- "on one segment the squared distances decide": on a closed outline alone, and for points that do not agree
unfoldable pub decided : Ends → ℕ → Tolerance → Bool
decided e n t = eqb n 0 && (e.closed && not (points_agree t e.start_point e.end_point))

-- the start is nearer to its segment's own vertex than the end
unfoldable pub start_nearer : List Float → ℕ → ℕ → Ends → Bool
start_nearer o vc i e =
    let v = pos_of (outline_at o vc i) in
    lt (dist_squared v e.start_point) (dist_squared v e.end_point)

-- "the squared distances decide between no wrap and a full wrap, and equal distances wrap"; i is the segment of the start, after it moved
unfoldable pub traverse : List Float → ℕ → Ends → Tolerance → ℕ → ℕ
traverse o vc e t i =
    let n = ahead vc i e.end_index in
    cond (decided e n t) (cond (start_nearer o vc i e) 0 vc) n

-- ---- both
abbrev pub span_with : Bool → ℕ → ℕ → Span
span_with moved start count = record { moved = moved; start_index = start; traverse_count = count }

unfoldable pub span_of : List Float → ℕ → Ends → Tolerance → Span
span_of o vc e t =
    let moved = moves_on o vc e t in
    let i = start_index_of vc e.start_index moved in
    span_with moved i (traverse o vc e t i)

-- ---- what a caller has shown

-- points of the outline's segments
pub record EndsFit (o : List Float) (vc : ℕ) (e : Ends) : Type 0 where
  pub whole : Whole o vc
  pub starts : e.start_index < vc
  pub ends : e.end_index < vc

-- a segment's number
pub record Inside (vc i : ℕ) : Type 0 where
  pub inside : i < vc

-- two of them, of an outline
pub record Both (vc a b : ℕ) : Type 0 where
  pub most : vc ≤ 1024
  pub from : a < vc
  pub to : b < vc

-- the segment of a start, after it moved
pub record StartFit (o : List Float) (vc : ℕ) (e : Ends) (i : ℕ) : Type 0 where
  pub fit : EndsFit o vc e
  pub inside : i < vc

-- a span of two points: from a segment of the outline, at most once round it
pub record SpanFit (o : List Float) (vc : ℕ) (e : Ends) (s : Span) : Type 0 where
  pub fit : EndsFit o vc e
  pub starts : s.start_index < vc
  pub reaches : s.traverse_count ≤ vc
