-- The rules of document 01 are rules of which the laws of `RunLaws` and `NeedLaws` speak: a selector answers among the candidates, and a slice
-- brings no more vertices than its offset + 1.
use Prim.Native.Nat.{ℕ, zero, suc, ◌+◌, ◌-◌, ◌≤◌}
use Rattle.std.specs.Prelude.{Bool, cond, ◌≡◌, Float}
use Rattle.std.proofs.Math.Bool.{true, false}
use Rattle.std.proofs.Math.Path.{refl}
use mathlib.Core.List.{List, [], ◌∷◌}
use Rattle.std.proofs.Math.Numerals.{add-two}
use native.Mathlib.Omega.{arith}
use Rattle.std.proofs.Math.ListN.{length}
use Rattle.basis.specs.declared.number.Tolerance.{Tolerance}
use Rattle.outline.specs.declared.point.Vertex.{Vertex}
use Rattle.outline.specs.Points.{pos_of, with_bulge, points_agree}
use Rattle.view.specs.declared.data.ViewData.{ViewData}
use Rattle.view.specs.View.{vertex_of, vertex_count}
use Rattle.select.specs.SelectTheorems.{selected-among}
use Rattle.stitch_vertices.specs.Vertices.{add_vertex, add_first, add_view, drop_last}
use Rattle.stitch_run.specs.Stitch.{Given, slice_outline, slice_count, slice_vertex, add_slice, rules_of, weight_at}
use Rattle.slice.specs.Slice.{slice_view, slice_offset}
use Rattle.stitch_run.specs.RunLaws.{Among}
use Rattle.stitch_run.specs.NeedLaws.{Grows}

-- ---- how long a chain is

module _ (t : Tolerance) where
  pub add_most : (vs : List Vertex) (v : Vertex) → length (add_vertex t vs v) ≤ length vs + 1
  unfolding add_vertex
  add_most [] v = omega arith
  add_most (last ∷ vs) v = go (points_agree t (pos_of last) (pos_of v))
    where
      go : (b : Bool) → length (cond b (with_bulge last v.bulge ∷ vs) (v ∷ last ∷ vs)) ≤ suc (length vs) + 1
      go true = omega arith
      go false = omega arith

  -- it is never shorter than before, and has a vertex
  pub add-least : (vs : List Vertex) (v : Vertex) → length vs ≤ length (add_vertex t vs v)
  unfolding add_vertex
  add-least [] v = omega arith
  add-least (last ∷ vs) v = go (points_agree t (pos_of last) (pos_of v))
    where
      go : (b : Bool) → suc (length vs) ≤ length (cond b (with_bulge last v.bulge ∷ vs) (v ∷ last ∷ vs))
      go true = omega arith
      go false = omega arith

  pub add-some : (vs : List Vertex) (v : Vertex) → 1 ≤ length (add_vertex t vs v)
  unfolding add_vertex
  add-some [] v = omega arith
  add-some (last ∷ vs) v = omega (arith, add-least (last ∷ vs) v)

  -- Of a view's vertices, any number of the first ones.
  pub first-most : (f : ℕ → Vertex) (m : ℕ) (vs : List Vertex) → length (add_first t f m vs) ≤ length vs + m
  unfolding add_first
  first-most f zero vs = omega arith
  first-most f (suc m) vs = omega (arith, add_most (add_first t f m vs) (f m), first-most f m vs)

  -- All of a view's: no more than offset + 2, and at least one.
  module _ (o : List Float) (vc : ℕ) (v : ViewData) (vs : List Vertex) where
    pub view-most : length (add_view t o vc v vs) ≤ length vs + (v.end_index_offset + 2)
    unfolding add_view
    view-most = first-most (vertex_of o vc v) (vertex_count v) vs

    pub view-some : 1 ≤ length (add_view t o vc v vs)
    unfolding add_view add_first
    view-some =
        rw (add-two v.end_index_offset)
        (add-some (add_first t (vertex_of o vc v) (suc v.end_index_offset) vs) (vertex_of o vc v (suc v.end_index_offset)))

pub drop-length : (vs : List Vertex) → length (drop_last vs) ≡ length vs - 1
unfolding drop_last
drop-length [] = omega arith
drop-length (last ∷ vs) = omega arith

module _ (g : Given) where
  -- a slice's weight: its offset + 1
  abbrev pub weight : ℕ → ℕ
  weight = weight_at g.slice_at

  -- all offset + 2 vertices of the slice follow
  pub slice-vertices : (i : ℕ) (vs : List Vertex) → add_slice g i vs ≡ add_first g.tolerance (slice_vertex g i) (slice_offset g.slice_at i + 2) vs
  unfolding add_slice add_view slice_vertex slice_view
  slice-vertices i vs = refl

  pub slice-most : (i : ℕ) (vs : List Vertex) → length (add_slice g i vs) ≤ length vs + (weight i + 1)
  unfolding add_slice weight_at slice_view
  slice-most i vs = omega (arith, view-most g.tolerance (slice_outline g i) (slice_count g i) (slice_view g.slice_at g.slice i) vs)

  pub slice-some : (i : ℕ) (vs : List Vertex) → 1 ≤ length (add_slice g i vs)
  unfolding add_slice
  slice-some i vs = view-some g.tolerance (slice_outline g i) (slice_count g i) (slice_view g.slice_at g.slice i) vs

  -- ---- the rules

  pub among : Among (rules_of g)
  unfolding rules_of
  among current candidates j e = selected-among g.selector g.starts current candidates j e

  pub grows : Grows (rules_of g) length weight
  unfolding rules_of
  grows =
      record {
        begin-some = λ i. slice-some i [];
        begin-most = λ i. omega (arith, slice-most i []);
        join-some = λ vs j. slice-some j (drop_last vs);
        join-most = λ vs j h. omega (arith, slice-most j (drop_last vs), drop-length vs);
      }
