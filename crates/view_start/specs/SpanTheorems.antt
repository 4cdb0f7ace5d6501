-- Theorems about `Span`, so that a reader can trust it. No code is proved by them.
use Prim.Native.Nat.{ℕ, ◌+◌, ◌-◌, ◌≤◌, ◌<◌}
use Rattle.std.specs.Prelude.{true, false, ◌≡◌, refl, List, leb, eqb, Float}
use Rattle.std.proofs.Common.{sym, ap, ◌∙◌}
use native.Mathlib.Omega.{arith}
use borrow.Author.Tests.{leb-true, leb-false, eqb-true}
use Rattle.basis.specs.Choice.{by-test, and_left, and_right}
use Rattle.basis.specs.declared.number.Tolerance.{Tolerance}
use Rattle.outline.specs.Outline.{wrap, outline_at}
use Rattle.outline.specs.OutlineLaws.{wrap-lt, wrap-same, wrap-less}
use Rattle.view.specs.Create.{near_vertex}
use Rattle.view_span.specs.declared.span.Ends.{Ends}
use Rattle.view_span.specs.Span.{EndsFit, can_move, moves_on, start_index_of, ahead, decided, start_nearer, traverse, span_of}
use Rattle.view_span.specs.SpanLaws.{start-lt, span_fits}

-- one index is at most another, or it is above it
by_order : {P : Type 0} (a b : ℕ) → (a ≤ b → P) → (b < a → P) → P
by_order a b f g = by-test (leb a b) (λ e. f (leb-true a b e)) (λ e. g (leb-false a b e))

-- ---- how far ahead a segment is
module _ (vc a b : ℕ) (from : a < vc) (to : b < vc) where
  -- It is the difference of the indexes, or that round the end of the outline, as the Rust's `fwd_wrapping_dist` has it.
  pub ahead-up : a ≤ b → ahead vc a b ≡ b - a
  unfolding ahead
  ahead-up h = wrap-less vc (b + (vc - a)) (omega arith) (omega arith) ∙ omega arith

  pub ahead-round : b < a → ahead vc a b ≡ vc - a + b
  unfolding ahead
  ahead-round h = wrap-same vc (b + (vc - a)) (omega arith) ∙ omega arith

  -- That many segments on from the one is the other,
  pub ahead-arrives : wrap vc (a + ahead vc a b) ≡ b
  ahead-arrives =
      by_order a b
      (λ h. ap (λ (n : ℕ). wrap vc (a + n)) (ahead-up h) ∙ wrap-same vc (a + (b - a)) (omega arith) ∙ omega arith)
      (λ h. ap (λ (n : ℕ). wrap vc (a + n)) (ahead-round h) ∙ wrap-less vc (a + (vc - a + b)) (omega arith) (omega arith) ∙ omega arith)

  -- and no other number below the vertex count leads there.
  pub ahead-alone : (k : ℕ) → k < vc → wrap vc (a + k) ≡ b → k ≡ ahead vc a b
  ahead-alone k h e =
      by_order vc (a + k)
      (λ l. let w = wrap-less vc (a + k) l (omega arith) in sym (ahead-round (omega arith) ∙ omega arith))
      (λ l. let w = wrap-same vc (a + k) l in sym (ahead-up (omega arith) ∙ omega arith))

  -- Only a segment itself is 0 ahead.
  pub ahead_none : ahead vc a b ≡ 0 → a ≡ b
  ahead_none z = by_order a b (λ h. omega (arith, ahead-up h)) (λ h. omega (arith, ahead-round h))

-- ---- the span of two points
module _ (o : List Float) (vc : ℕ) (e : Ends) (t : Tolerance) (f : EndsFit o vc e) where
  -- Its start is a segment of the outline, and it goes at most once round.
  pub span-starts : (span_of o vc e t).start_index < vc
  span-starts = (span_fits o vc e t _ f refl).starts

  pub span-reaches : (span_of o vc e t).traverse_count ≤ vc
  span-reaches = (span_fits o vc e t _ f refl).reaches

  decided-here : (n : ℕ) → decided e n t ≡ true → n ≡ 0
  unfolding decided
  decided-here n d = eqb-true n 0 (and_left (eqb n 0) _ d)

  traverse-arrives : (i : ℕ) → i < vc → wrap vc (i + traverse o vc e t i) ≡ e.end_index
  unfolding traverse
  traverse-arrives i h =
      by-test (decided e n t)
      (λ d. let z : i ≡ e.end_index = ahead_none vc i e.end_index h f.ends (decided-here n d) in
      by-test (start_nearer o vc i e)
      (λ c. rw (d, c) (wrap-same vc (i + 0) (omega arith) ∙ omega arith))
      (λ c. rw (d, c) (wrap-less vc (i + vc) (omega arith) (omega arith) ∙ omega arith)))
      (λ d. rw d (ahead-arrives vc i e.end_index h f.ends))
    where
      n : ℕ
      n = ahead vc i e.end_index

  -- Its traverse count leads from its start to the end's segment.
  pub span-arrives : wrap vc ((span_of o vc e t).start_index + (span_of o vc e t).traverse_count) ≡ e.end_index
  unfolding span_of
  span-arrives = traverse-arrives _ (start-lt vc e.start_index _ _ f.starts refl)

  -- A start that moved stands on the first vertex of its new segment,
  pub moved-stands : moves_on o vc e t ≡ true → near_vertex o vc (span_of o vc e t).start_index e.start_point t ≡ true
  unfolding span_of start_index_of moves_on near_vertex outline_at
  moved-stands m =
      let w : wrap vc (wrap vc (e.start_index + 1)) ≡ wrap vc (e.start_index + 1) = wrap-same vc _ (wrap-lt vc _ (omega arith)) in
      rw (m, w) (and_right (can_move e) _ m)

  -- and a start that did not has kept its segment.
  pub stayed : moves_on o vc e t ≡ false → (span_of o vc e t).start_index ≡ e.start_index
  unfolding span_of start_index_of
  stayed m = rw m
