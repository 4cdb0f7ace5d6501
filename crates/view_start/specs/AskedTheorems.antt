-- Which split a view does not depend on, so that the host need not make it. No code is proved by these.
use Rattle.std.specs.Prelude.{ℕ, true, ◌≡◌, List, Float, Some}
use Rattle.std.proofs.Math.Path.{refl, sym, ap}
use Rattle.std.proofs.Common.{◌∙◌, eq-eqb, ne_eqb}
use Rattle.basis.specs.declared.number.Tolerance.{Tolerance}
use Rattle.outline.specs.declared.point.Point.{Point}
use Rattle.outline.specs.Outline.{Segment}
use Rattle.view.specs.Create.{near_vertex, bulge_before, create_view}
use Rattle.view_span.specs.declared.span.Ends.{Ends}
use Rattle.view_start.specs.declared.slice_points.Splits.{Splits}
use Rattle.view_span.specs.Span.{span_of}
use Rattle.view_start.specs.SlicePoints.{running_vertex, walk_over, collapses, walked_view, sliced_view, slice_view}
use Rattle.view_start.specs.NewStart.{round_view, new_start_view}
use Rattle.view_start.specs.StartTheorems.{start_of, round-on-vertex, view_fields}

-- two pairs of splits for the same two points
module _ (o : List Float) (vc : ℕ) (e : Ends) (t : Tolerance) (p q : Splits) where
  -- Where the start moved, its split is not read,
  pub start-idle : (span_of o vc e t).moved ≡ true → p.end_part ≡ q.end_part → slice_view o vc e t p ≡ slice_view o vc e t q
  unfolding slice_view sliced_view walk_over running_vertex
  start-idle m f = rw (m, f)

  -- nor on one segment, where the host has read it for the end's.
  pub one-segment-idle : (span_of o vc e t).traverse_count ≡ 0 → p.end_part ≡ q.end_part → slice_view o vc e t p ≡ slice_view o vc e t q
  unfolding slice_view sliced_view
  one-segment-idle z f = rw (eq-eqb _ 0 z, f)

  -- Further on, the end's split is not read where the end stands on its segment's vertex.
  pub end-idle : ((span_of o vc e t).traverse_count ≡ 0 → ⊥) → near_vertex o vc e.end_index e.end_point t ≡ true → p.start_vertex ≡ q.start_vertex → slice_view o vc e t p ≡ slice_view o vc e t q
  unfolding slice_view sliced_view walk_over walked_view collapses create_view bulge_before
  end-idle n y f = rw (ne_eqb _ 0 n, f, y)

-- Once round, the end's split is never read, and the start's first part only between two vertices.
module _ (o : List Float) (vc i : ℕ) (a : Point) (t : Tolerance) (p q : Splits) where
  pub round-end-idle : p.start_vertex ≡ q.start_vertex → p.start_bulge ≡ q.start_bulge → new_start_view o vc true i a t p ≡ new_start_view o vc true i a t q
  unfolding new_start_view round_view
  round-end-idle f g = rw (f, g)

  pub round-part-idle : Segment o vc i → near_vertex o vc (start_of o vc i a t) a t ≡ true → p.start_vertex ≡ q.start_vertex → new_start_view o vc true i a t p ≡ new_start_view o vc true i a t q
  unfolding new_start_view
  round-part-idle g y f = ap Some (round-on-vertex o vc i a t p g y ∙ view_fields refl refl f refl refl ∙ sym (round-on-vertex o vc i a t q g y))
