-- No position is worked out: what holds of every number of the outlines and slices holds of every coordinate of a chain's vertices.
use Prim.Native.Nat.{ℕ, zero, suc, ◌+◌, ◌*◌, ◌<◌}
use Rattle.std.specs.Prelude.{Bool, cond, ◌≡◌, eqb, ltb, length, get_or, Float}
use Rattle.std.proofs.Math.Bool.{true, false}
use mathlib.Core.List.{List, [], ◌∷◌}
use Rattle.std.proofs.Common.{arith}
use Rattle.std.specs.Float.{nan}
use Rattle.basis.specs.All.{All, all-get}
use Rattle.basis.specs.declared.number.Tolerance.{Tolerance}
use Rattle.outline.specs.declared.point.Vertex.{Vertex}
use Rattle.outline.specs.Points.{pos_of, with_bulge, points_agree}
use Rattle.outline.specs.Outline.{Whole, vertex_at, outline_at}
use Rattle.outline.specs.OutlineLaws.{wrap-lt}
use Rattle.view.specs.declared.data.ViewData.{ViewData}
use Rattle.view.specs.View.{forward_at, turned_at, inverted_at, vertex_of}
use Rattle.stitch_vertices.specs.Vertices.{add_vertex, add_first, drop_last}
use Rattle.slice.specs.Slice.{codes_at, shape_at, slice_view, slice_offset}
use Rattle.stitch_run.specs.Stitch.{Given, slice_outline, slice_count, slice_vertex, add_slice}
use Rattle.stitch_run.specs.StitchLaws.{slice-vertices}

module _ (P : Float → Type 0) where
  -- both coordinates of a vertex have the property
  pub record VertexIn (v : Vertex) : Type 0 where
    pub x : P v.x
    pub y : P v.y

  number_in : (l : List Float) (k : ℕ) → All P l → k < length l → P (get_or l k nan)
  number_in l k a h = all-get (P) l k nan a h

  vertex-in : (l : List Float) (i : ℕ) → All P l → 3 * i + 1 < length l → VertexIn (vertex_at l i)
  unfolding vertex_at
  vertex-in l i a h = record { x = number_in l (3 * i) a (omega arith); y = number_in l (3 * i + 1) a h }

  -- ---- an outline and a view of it

  -- an outline of document 01's size, whose numbers have the property
  pub record OutlineIn (o : List Float) (vc : ℕ) : Type 0 where
    pub size : Whole o vc
    pub numbers : All P o

  outline-in : (o : List Float) (vc i : ℕ) → OutlineIn o vc → VertexIn (outline_at o vc i)
  unfolding outline_at
  outline-in o vc i a =
      let s = a.size in
      vertex-in o _ a.numbers (omega (arith, wrap-lt vc i (omega arith)))

  either : (b : Bool) (v w : Vertex) → VertexIn v → VertexIn w → VertexIn (cond b v w)
  either true v w p q = p
  either false v w p q = q

  bulged : (v : Vertex) (b : Float) → VertexIn v → VertexIn (with_bulge v b)
  bulged v b p = record { x = p.x; y = p.y }

  -- a view's own numbers
  pub record ViewIn (v : ViewData) : Type 0 where
    pub start : VertexIn v.updated_start
    pub end-x : P v.end_point.x
    pub end-y : P v.end_point.y

  view_in : (o : List Float) (vc : ℕ) (v : ViewData) (k : ℕ) → OutlineIn o vc → ViewIn v → VertexIn (vertex_of o vc v k)
  unfolding vertex_of forward_at turned_at inverted_at
  view_in o vc v k a b =
      either v.inverted_direction _ _
      (either (eqb k 0) _ _ (record { x = b.end-x; y = b.end-y })
      (either (ltb k v.end_index_offset) _ _ (bulged _ _ (outline-in o vc _ a))
      (either (eqb k v.end_index_offset) _ _ (bulged _ _ (outline-in o vc _ a)) (bulged _ _ b.start))))
      (either (eqb k 0) _ _ b.start
      (either (ltb k v.end_index_offset) _ _ (outline-in o vc _ a)
      (either (eqb k v.end_index_offset) _ _ (bulged _ _ (outline-in o vc _ a)) (record { x = b.end-x; y = b.end-y }))))

  -- ---- a stitch whose outlines and slices have it

  pub record StitchIn (g : Given) : Type 0 where
    pub first : OutlineIn g.outline1 g.vc1
    pub second : OutlineIn g.outline2 g.vc2
    pub sixes : length g.slice ≡ 6 * g.slices
    pub numbers : All P g.slice

  module _ (g : Given) (a : StitchIn g) where
    slice-view : (i : ℕ) → i < g.slices → ViewIn (slice_view g.slice_at g.slice i)
    unfolding slice_view shape_at
    slice-view i h =
        let e = a.sixes in
        record {
          start = record { x = number_in g.slice (6 * i) a.numbers (omega arith); y = number_in g.slice (6 * i + 1) a.numbers (omega arith) };
          end-x = number_in g.slice (6 * i + 4) a.numbers (omega arith);
          end-y = number_in g.slice (6 * i + 5) a.numbers (omega arith);
        }

    slice-outline : (i : ℕ) → OutlineIn (slice_outline g i) (slice_count g i)
    unfolding slice_outline slice_count
    slice-outline i = go (eqb (codes_at g.slice_at i).source 1)
      where
        go : (b : Bool) → OutlineIn (cond b g.outline1 g.outline2) (cond b g.vc1 g.vc2)
        go true = a.first
        go false = a.second

    pub slice_in : (i k : ℕ) → i < g.slices → VertexIn (slice_vertex g i k)
    unfolding slice_vertex
    slice_in i k h = view_in (slice_outline g i) (slice_count g i) (slice_view g.slice_at g.slice i) k (slice-outline i) (slice-view i h)

  -- ---- a chain's vertices

  add-in : (t : Tolerance) (vs : List Vertex) (v : Vertex) → All VertexIn vs → VertexIn v → All VertexIn (add_vertex t vs v)
  unfolding add_vertex
  add-in t [] v h p = (p, tt)
  add-in t (last ∷ vs) v h p = go (points_agree t (pos_of last) (pos_of v))
    where
      go : (b : Bool) → All VertexIn (cond b (with_bulge last v.bulge ∷ vs) (v ∷ last ∷ vs))
      go true = (bulged last v.bulge h.0, h.1)
      go false = (p, h)

  adds-in : (t : Tolerance) (f : ℕ → Vertex) → ((k : ℕ) → VertexIn (f k)) → (m : ℕ) (vs : List Vertex) → All VertexIn vs → All VertexIn (add_first t f m vs)
  unfolding add_first
  adds-in t f p zero vs h = h
  adds-in t f p (suc m) vs h = add-in t (add_first t f m vs) (f m) (adds-in t f p m vs h) (p m)

  pub drop-in : (vs : List Vertex) → All VertexIn vs → All VertexIn (drop_last vs)
  unfolding drop_last
  drop-in [] h = tt
  drop-in (last ∷ vs) h = h.1

  pub add-slice-in : (g : Given) → StitchIn g → (i : ℕ) (vs : List Vertex) → i < g.slices → All VertexIn vs → All VertexIn (add_slice g i vs)
  add-slice-in g a i vs h p = rw (slice-vertices g i vs) (adds-in g.tolerance (slice_vertex g i) (λ k. slice_in g a i k h) (slice_offset g.slice_at i + 2) vs p)
