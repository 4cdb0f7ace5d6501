-- Theorems about `SlicePoints` and `NewStart`, so that a reader can trust them. No code is proved by them.
use Rattle.std.specs.Prelude.{ℕ, ◌+◌, ◌-◌, ◌<◌, Bool, ◌≡◌, ◌⊎◌, List, eqb, Float, Some, None}
use Rattle.std.proofs.Math.Bool.{true, false}
use Rattle.std.proofs.Math.Path.{refl, ap, subst}
use Rattle.std.proofs.Common.{sym, ◌∙◌, inl, inr}
use native.Mathlib.Omega.{arith}
use Rattle.std.proofs.Math.Dec.{ltb}
use Rattle.std.specs.Float.Ieee.{lt}
use borrow.Author.Tests.{eqb-true, eqb-false, ne_eqb, lt-ltb}
use Rattle.basis.specs.Choice.{by-test, and_left, and_right}
use Rattle.basis.specs.All.{all_of, all-at}
use Rattle.basis.specs.OrderLaws.{finite-within, agree-self}
use Rattle.basis.specs.Number.{+0, within, tolerable_on, tolerable, all_within}
use Rattle.basis.specs.declared.number.Tolerance.{Tolerance}
use Rattle.outline.specs.declared.point.Point.{Point}
use Rattle.outline.specs.declared.point.Vertex.{Vertex}
use Rattle.outline.specs.Points.{pos_of, with_bulge, at_point, point_numbers, vertex_numbers, points_agree}
use Rattle.outline.specs.Outline.{Whole, Segment, vertex_at, wrap, outline_at}
use Rattle.outline.specs.OutlineLaws.{wrap-same, wrap-less}
use Rattle.view.specs.declared.data.ViewData.{ViewData}
use Rattle.view.specs.declared.create.Walk.{Walk}
use Rattle.view.specs.View.{Fit, vertex_of, view_numbers}
use Rattle.view.specs.Create.{view_of, near_vertex, bulge_before, create_view, single_view, entire_offset, entire_view}
use Rattle.view.specs.ViewTheorems.{OneBulge, forward-first, forward-inner, forward-last, forward-beyond, create-fits, create-bulges, outline-passes, place-passes, create-numbers, single-fits, single-bulges, single-numbers}
use Rattle.view_span.specs.declared.span.Ends.{Ends}
use Rattle.view_span.specs.declared.span.Span.{Span}
use Rattle.view_start.specs.declared.slice_points.Splits.{Splits}
use Rattle.view_span.specs.Span.{EndsFit, can_move, moves_on, start_index_of, ahead, decided, traverse, span_with, span_of}
use Rattle.view_span.specs.SpanLaws.{ahead-lt, span_fits}
use Rattle.view_start.specs.WalkLaws.{walk-fits, last-ends, round-ends}
use Rattle.view_start.specs.SlicePoints.{running_vertex, walk_from, walk_over, collapses, walked_view, sliced_view, slice_view}
use Rattle.view_start.specs.NewStart.{round_ends, last_ends, round_view, new_start_view}
use Rattle.view_start.specs.SpanTheorems.{ahead-up, ahead-arrives, ahead_none, span-starts}

running-pass : (q : Float → Bool) (o : List Float) (vc : ℕ) (s : Span) (split : Vertex) → Whole o vc → all_of q o ≡ true → all_of q (vertex_numbers split) ≡ true
    → all_of q (vertex_numbers (running_vertex o vc s split)) ≡ true
unfolding running_vertex
running-pass q o vc s split whole a b = by-test s.moved (λ m. rw m (outline-passes q o vc s.start_index whole a)) (λ m. rw m b)

-- ---- what holds of every view between two points: it was made by one of the two constructors

module _ (o : List Float) (vc : ℕ) (w : Walk) (t : Tolerance) where
  -- where a walk gives a view, it is `create`'s
  walked-is : (v : ViewData) → walked_view o vc w t ≡ Some v → create_view o vc w t ≡ v
  unfolding walked_view
  walked-is v is = by-test (collapses o vc w t) (λ c. let z : None ≡ Some v = rw c at is in cc) (λ c. let z : Some (create_view o vc w t) ≡ Some v = rw c at is in cc)

module _ (o : List Float) (vc : ℕ) (e : Ends) (t : Tolerance) (p : Splits) (v : ViewData) (is : slice_view o vc e t p ≡ Some v) where
  by-maker : {P : Type 0} → ((s : Span) → s ≡ span_of o vc e t → single_view s.start_index p.end_part e.end_point t ≡ Some v → P)
      → ((s : Span) → s ≡ span_of o vc e t → (s.traverse_count ≡ 0 → ⊥) → create_view o vc (walk_over o vc e s p) t ≡ v → P) → P
  unfolding slice_view sliced_view
  by-maker single walk =
      by-test (eqb s.traverse_count 0)
      (λ z. single s refl (rw z at is))
      (λ z. walk s refl (eqb-false _ 0 z) (walked-is o vc (walk_over o vc e s p) t v (rw z at is)))
    where
      s : Span
      s = span_of o vc e t

  module _ (f : EndsFit o vc e) where
    -- What `from_slice_points` gives fits the outline again: its start is below vc and its offset at most vc.
    pub slice_fits : Fit o vc v
    unfolding walk_over
    slice_fits =
        by-maker
        (λ s q m. let g = span_fits o vc e t s f q in single-fits s.start_index p.end_part e.end_point t v m o vc f.whole g.starts)
        (λ s q n m. let g = span_fits o vc e t s f q in
        subst (Fit o vc) m (create-fits o vc (walk_over o vc e s p) t (walk-fits o vc e s p _ g n refl) g.starts g.reaches))

    -- Its two bulges are one where its offset is 0.
    pub slice-bulges : OneBulge v
    slice-bulges =
        by-maker (λ s q m. single-bulges s.start_index p.end_part e.end_point t v m)
        (λ s q n m. subst OneBulge m (create-bulges o vc (walk_over o vc e s p) t (walk-fits o vc e s p _ (span_fits o vc e t s f q) n refl)))

  -- Its numbers were handed in: where all numbers handed in pass a test, such as `within`, its numbers pass it.
  pub slice-numbers : (q : Float → Bool) → Whole o vc → all_of q o ≡ true → all_of q (vertex_numbers p.start_vertex) ≡ true → all_of q (vertex_numbers p.end_part) ≡ true
      → all_of q (point_numbers e.end_point) ≡ true → all_of q (view_numbers v) ≡ true
  unfolding walk_over
  slice-numbers q whole a b c d =
      by-maker (λ s r m. single-numbers q s.start_index p.end_part e.end_point t v m c d)
      (λ s r n m. subst (λ (u : ViewData). all_of q (view_numbers u) ≡ true) m
      (create-numbers q o vc (walk_over o vc e s p) t whole a (running-passes s) (all-at q (vertex_numbers p.end_part) 2 +0 c (omega arith)) d))
    where
      running-passes : (s : Span) → all_of q (vertex_numbers (running_vertex o vc s p.start_vertex)) ≡ true
      running-passes s = running-pass q o vc s p.start_vertex whole a b

-- ---- once round a closed outline

-- where it starts
abbrev pub start_of : List Float → ℕ → ℕ → Point → Tolerance → ℕ
start_of o vc i p t = (span_of o vc (round_ends i p) t).start_index

pub start-below : (o : List Float) (vc i : ℕ) (p : Point) (t : Tolerance) → Segment o vc i → start_of o vc i p t < vc
start-below o vc i p t g = span-starts o vc (round_ends i p) t (round-ends o vc i p _ g refl)

module _ (o : List Float) (vc i : ℕ) (p : Point) (t : Tolerance) (s : Splits) (g : Segment o vc i) where
  abbrev start : ℕ
  start = start_of o vc i p t

  below : start < vc
  below = start-below o vc i p t g

  -- Where the point stands on the first vertex of its segment, the offset is vc − 1 and the end bulge that of the vertex before;
  pub round-on-vertex : near_vertex o vc start p t ≡ true → round_view o vc i p t s ≡ view_of start (vc - 1) s.start_vertex (outline_at o vc (start + (vc - 1))).bulge p
  unfolding round_view create_view bulge_before
  round-on-vertex e = rw (e, ne_eqb (vc - 1) 0 (omega arith))

  -- elsewhere the offset is vc and the end bulge the split's.
  pub round-between : near_vertex o vc start p t ≡ false → round_view o vc i p t s ≡ view_of start vc s.start_vertex s.start_bulge p
  unfolding round_view create_view
  round-between e = rw e

  -- what holds of both holds of the view
  rounded : (P : ViewData → Type 0) → P (view_of start (vc - 1) s.start_vertex (outline_at o vc (start + (vc - 1))).bulge p)
      → P (view_of start vc s.start_vertex s.start_bulge p) → P (round_view o vc i p t s)
  rounded P y n = by-test (near_vertex o vc start p t) (λ e. subst P (sym (round-on-vertex e)) y) (λ e. subst P (sym (round-between e)) n)

  -- So it goes once round: its offset is vc − 1 or vc.
  pub round-offset : ((round_view o vc i p t s).end_index_offset ≡ vc - 1) ⊎ ((round_view o vc i p t s).end_index_offset ≡ vc)
  round-offset = rounded (λ (v : ViewData). (v.end_index_offset ≡ vc - 1) ⊎ (v.end_index_offset ≡ vc)) (inl refl) (inr refl)

  -- It fits the outline again, and its two bulges are one where its offset is 0.
  pub round-fits-again : Fit o vc (round_view o vc i p t s)
  round-fits-again =
      rounded (Fit o vc) (record { whole = g.whole; starts = below; reaches = omega arith }) (record { whole = g.whole; starts = below; reaches = omega arith })

  pub round-bulges : OneBulge (round_view o vc i p t s)
  round-bulges = rounded OneBulge (λ z. absurd (omega arith)) (λ z. absurd (omega arith))

  -- Its first vertex is the split's,
  pub round-first : vertex_of o vc (round_view o vc i p t s) 0 ≡ s.start_vertex
  unfolding vertex_of
  round-first = rounded (λ (v : ViewData). vertex_of o vc v 0 ≡ s.start_vertex) (forward-first o vc _ 0 refl) (forward-first o vc _ 0 refl)

  kept : (k j : ℕ) → k ≡ j → with_bulge (outline_at o vc (start + k)) (outline_at o vc (start + j)).bulge ≡ outline_at o vc (start + k)
  kept k j e = ap (λ (n : ℕ). with_bulge (outline_at o vc (start + k)) (outline_at o vc (start + n)).bulge) (sym e)

  -- the next are the outline's, bulge included, started at that segment,
  pub round-vertices : (k : ℕ) → 0 < k → k < vc → vertex_of o vc (round_view o vc i p t s) k ≡ outline_at o vc (start + k)
  unfolding vertex_of
  round-vertices k h l =
      rounded (λ (v : ViewData). vertex_of o vc v k ≡ outline_at o vc (start + k))
      (by-test (eqb k (vc - 1))
      (λ e. forward-last o vc _ k h (eqb-true k (vc - 1) e) ∙ kept k (vc - 1) (eqb-true k (vc - 1) e))
      (λ e. forward-inner o vc _ k h (omega (arith, eqb-false k (vc - 1) e))))
      (forward-inner o vc _ k h l)

  -- where the point stands between two vertices, the segment's own vertex follows with the split's bulge,
  pub round-own-vertex : near_vertex o vc start p t ≡ false → vertex_of o vc (round_view o vc i p t s) vc ≡ with_bulge (vertex_at o start) s.start_bulge
  unfolding vertex_of outline_at
  round-own-vertex e =
      ap (λ (v : ViewData). vertex_of o vc v vc) (round-between e) ∙ forward-last o vc _ vc (omega arith) refl
      ∙ ap (λ (n : ℕ). with_bulge (vertex_at o n) s.start_bulge) (wrap-less vc (start + vc) (omega arith) (omega (arith, below)) ∙ omega arith)

  -- and the last is the point.
  pub round-last : vertex_of o vc (round_view o vc i p t s) ((round_view o vc i p t s).end_index_offset + 1) ≡ at_point p +0
  unfolding vertex_of
  round-last =
      rounded (λ (v : ViewData). vertex_of o vc v (v.end_index_offset + 1) ≡ at_point p +0) (forward-beyond o vc _ _ (omega arith)) (forward-beyond o vc _ _ (omega arith))

  -- So every vertex of the outline but the segment's own stands in it, at the place that is as many on as the vertex is ahead.
  pub round-has : (j : ℕ) → j < vc → (start ≡ j → ⊥) → vertex_of o vc (round_view o vc i p t s) (ahead vc start j) ≡ vertex_at o j
  unfolding outline_at
  round-has j h n =
      round-vertices (ahead vc start j) (positive (λ z. n (ahead_none vc start j below h z))) (ahead-lt vc start j (omega arith))
      ∙ ap (vertex_at o) (ahead-arrives vc start j below h)
    where
      positive : {m : ℕ} → (m ≡ 0 → ⊥) → 0 < m
      positive {m} e = omega (arith, e)

-- ---- from a new start, open or closed
module _ (o : List Float) (vc : ℕ) (closed : Bool) (i : ℕ) (p : Point) (t : Tolerance) (s : Splits) (v : ViewData) (is : new_start_view o vc closed i p t s ≡ Some v) where
  by-outline : {P : Type 0} → (round_view o vc i p t s ≡ v → P) → (slice_view o vc (last_ends o vc i p) t s ≡ Some v → P) → P
  unfolding new_start_view
  by-outline round last =
      by-test closed (λ c. round (let z : Some (round_view o vc i p t s) ≡ Some v = rw c at is in cc)) (λ c. last (rw c at is))

  -- What `from_new_start` gives fits the outline again,
  pub new-start-fits : Segment o vc i → Fit o vc v
  new-start-fits g =
      by-outline (λ e. subst (Fit o vc) e (round-fits-again o vc i p t s g))
      (λ e. slice_fits o vc (last_ends o vc i p) t s v e (last-ends o vc i p _ g refl))

  -- its two bulges are one where its offset is 0,
  pub new-start-bulges : Segment o vc i → OneBulge v
  new-start-bulges g =
      by-outline (λ e. subst OneBulge e (round-bulges o vc i p t s g))
      (λ e. slice-bulges o vc (last_ends o vc i p) t s v e (last-ends o vc i p _ g refl))

  -- and its numbers were handed in.
  pub new-start-numbers : (q : Float → Bool) → Whole o vc → all_of q o ≡ true → q s.start_bulge ≡ true → all_of q (vertex_numbers s.start_vertex) ≡ true
      → all_of q (vertex_numbers s.end_part) ≡ true → all_of q (point_numbers p) ≡ true → all_of q (view_numbers v) ≡ true
  unfolding round_view
  new-start-numbers q whole a b c d f =
      by-outline (λ e. subst (λ (u : ViewData). all_of q (view_numbers u) ≡ true) e (create-numbers q o vc _ t whole a c b f))
      (λ e. slice-numbers o vc (last_ends o vc i p) t s v e q whole a c d (place-passes q _ (outline-passes q o vc (vc - 1) whole a)))

-- ---- An outline started at its own first vertex is the whole outline, `from_entire_pline`, where the split keeps that vertex.

-- view data is its fields
pub view_fields : {i j n m : ℕ} {u w : Vertex} {b c : Float} {p q : Point} → i ≡ j → n ≡ m → u ≡ w → b ≡ c → p ≡ q → view_of i n u b p ≡ view_of j m w c q
view_fields e f g h k = cc

module _ (o : List Float) (vc : ℕ) (t : Tolerance) (s : Splits) (whole : Whole o vc) (numbers : all_within o ≡ true) (in-range : tolerable t ≡ true) where
  -- each vertex agrees with itself
  near-self : (i : ℕ) → near_vertex o vc i (pos_of (outline_at o vc i)) t ≡ true
  unfolding near_vertex points_agree tolerable tolerable_on
  near-self i =
      let a = outline-passes within o vc i whole numbers in
      let above-x = and_left (lt +0 t.x) _ (and_left (tolerable_on t.x) _ in-range) in
      let above-y = and_left (lt +0 t.y) _ (and_right (tolerable_on t.x) _ in-range) in
      let x = agree-self t.x (outline_at o vc i).x (finite-within _ (all-at within _ 0 +0 a (omega arith))) above-x in
      let y = agree-self t.y (outline_at o vc i).y (finite-within _ (all-at within _ 1 +0 a (omega arith))) above-y in
      rw (x, y)

  same-vertex : (i j : ℕ) → wrap vc i ≡ wrap vc j → outline_at o vc i ≡ outline_at o vc j
  unfolding outline_at
  same-vertex i j e = ap (vertex_at o) e

  -- once round from vertex 0 is vertex 0, and one before the last is two before vertex 0
  comes_back : outline_at o vc 0 ≡ outline_at o vc (vc - 1 + 1)
  comes_back = same-vertex 0 (vc - 1 + 1) (wrap-same vc 0 (omega arith) ∙ sym (wrap-less vc (vc - 1 + 1) (omega arith) (omega arith) ∙ omega arith))

  before_last : outline_at o vc (vc - 1 + (vc - 1)) ≡ outline_at o vc (vc - 2)
  before_last = same-vertex (vc - 1 + (vc - 1)) (vc - 2) (wrap-less vc (vc - 1 + (vc - 1)) (omega arith) (omega arith) ∙ sym (wrap-same vc (vc - 2) (omega arith) ∙ omega arith))

  module _ (keeps : s.start_vertex ≡ outline_at o vc 0) where
    abbrev first : Point
    first = pos_of (outline_at o vc 0)

    -- A closed outline: from every segment whose start comes to be vertex 0. That is segment 0, where the start does not move, and the last, whose end it is.
    pub own-start-closed : (i : ℕ) → Segment o vc i → (span_of o vc (round_ends i first) t).start_index ≡ 0 → new_start_view o vc true i first t s ≡ Some (entire_view o vc true)
    unfolding new_start_view entire_view entire_offset
    own-start-closed i g z =
        ap Some
        (round-on-vertex o vc i first t s g (subst (λ (k : ℕ). near_vertex o vc k first t ≡ true) (sym z) (near-self 0))
        ∙ view_fields z refl keeps (ap (λ (k : ℕ). (outline_at o vc k).bulge) (omega arith)) (ap (λ (u : Vertex). pos_of u) comes_back))

    module _ (stays : moves_on o vc (last_ends o vc 0 first) t ≡ false) where
      -- its last vertex is vc − 1 segments on
      traverses : traverse o vc (last_ends o vc 0 first) t 0 ≡ vc - 1
      unfolding traverse decided
      traverses = by-test (eqb (ahead vc 0 (vc - 1)) 0) (λ e. rw e far) (λ e. rw e far)
        where
          far : ahead vc 0 (vc - 1) ≡ vc - 1
          far = ahead-up vc 0 (vc - 1) (omega arith) (omega arith) (omega arith) ∙ omega arith

      spans : span_of o vc (last_ends o vc 0 first) t ≡ span_with false 0 (vc - 1)
      unfolding span_of start_index_of
      spans = rw stays (ap (span_with false 0) traverses)

      abbrev walk : Walk
      walk = walk_from (last_ends o vc 0 first) (span_with false 0 (vc - 1)) s.start_vertex s.end_part

      -- two vertices that do not agree: the first is not on the second
      apart : (n : ℕ) → n ≡ 1 → points_agree t (pos_of s.start_vertex) (pos_of (outline_at o vc n)) ≡ false
      unfolding moves_on can_move near_vertex
      apart n e =
          let k : ltb 0 (vc - 1) ≡ true = lt-ltb 0 (vc - 1) (omega arith) in
          let far : points_agree t first (pos_of (outline_at o vc 1)) ≡ false = rw k at stays in
          rw (e, keeps) far

      stands : collapses o vc walk t ≡ false
      unfolding collapses
      stands = by-test (eqb (vc - 1) 1) (λ e. rw (e, near-self (vc - 1)) (apart (vc - 1) (eqb-true (vc - 1) 1 e))) (λ e. rw e)

      ends : bulge_before o vc walk ≡ (outline_at o vc (vc - 2)).bulge
      unfolding bulge_before
      ends =
          by-test (eqb (vc - 1 - 1) 0)
          (λ e. let z : vc - 2 ≡ 0 = omega (arith, eqb-true (vc - 1 - 1) 0 e) in rw (e, keeps, z))
          (λ e. rw e (ap (λ (u : Vertex). u.bulge) before_last))

      -- An open outline: from segment 0, where vertex 1 does not agree with vertex 0, so that the start does not move.
      pub own-start-open : new_start_view o vc false 0 first t s ≡ Some (entire_view o vc false)
      unfolding new_start_view slice_view sliced_view walk_over running_vertex walked_view create_view entire_view entire_offset
      own-start-open =
          rw (spans, ne_eqb (vc - 1) 0 (omega arith), stands, near-self (vc - 1))
          (ap Some (view_fields refl (omega arith) keeps ends (ap (λ (n : ℕ). pos_of (outline_at o vc n)) (omega arith))))
