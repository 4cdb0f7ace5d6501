-- The definitions of `view_start` are the Rust's text, where the host splits as it is asked.
use Rattle.std.specs.Prelude.{ℕ, ◌+◌, ◌-◌, ◌≤◌, ◌<◌, Bool, not, cond, ◌&&◌, ◌≡◌, List, leb, ltb, eqb, Float, Some}
use Rattle.std.proofs.Math.Bool.{true, false}
use Rattle.std.proofs.Math.Path.{refl, ap}
use Rattle.std.proofs.Common.{sym, ap₂, ◌∙◌, arith}
use borrow.Author.Tests.{leb-true, leb-false, eqb-true, eqb-false, lt-ltb, le-ltb}
use Rattle.basis.specs.Choice.{by-test}
use Rattle.basis.specs.declared.number.Tolerance.{Tolerance}
use Rattle.basis.specs.OrderLaws.{agree-sym}
use Rattle.outline.specs.declared.point.Point.{Point}
use Rattle.outline.specs.declared.point.Vertex.{Vertex}
use Rattle.outline.specs.Points.{pos_of, points_agree}
use Rattle.outline.specs.Outline.{Segment, vertex_at, wrap, outline_at}
use Rattle.outline.specs.OutlineLaws.{wrap-same, wrap-less}
use Rattle.view.specs.declared.create.Walk.{Walk}
use Rattle.view.specs.Create.{near_vertex, bulge_before, create_view, single_view}
use Rattle.view_span.specs.declared.span.Ends.{Ends}
use Rattle.view_span.specs.declared.span.Span.{Span}
use Rattle.view_start.specs.declared.slice_points.Splits.{Splits}
use Rattle.view_span.specs.Span.{EndsFit, ends_of, can_move, moves_on, start_index_of, ahead, decided, start_nearer, traverse, span_with, span_of}
use Rattle.view_span.specs.SpanLaws.{start-lt}
use Rattle.view_start.specs.WalkLaws.{last-ends}
use Rattle.view_start.specs.SlicePoints.{running_vertex, walk_over, collapses, walked_view, sliced_view, slice_view}
use Rattle.view_start.specs.NewStart.{round_ends, new_ends, round_view, new_start_view}
use Rattle.view_start.specs.StartTheorems.{view_fields, start_of, start-below, round-on-vertex, round-between}
use Rattle.view_start.specs.SpanTheorems.{ahead-up, ahead-round}
use Rattle.view_start.specs.Asked.{Asked, Parts, asked, end_asked, handed_in}
use Rattle.view_start_entries.specs.RustText as rust

-- points agree either way round
agree-swap : (t : Tolerance) (p q : Point) → points_agree t p q ≡ points_agree t q p
unfolding points_agree
agree-swap t p q = ap₂ ◌&&◌ (agree-sym t.x p.x q.x) (agree-sym t.y p.y q.y)

-- ---- the Rust's indexes are the wrapped ones
module _ (vc i : ℕ) (inside : i < vc) where
  next-is : rust.next vc i ≡ wrap vc (i + 1)
  unfolding rust.next
  next-is =
      by-test (leb vc (i + 1))
      (λ e. let l : vc ≤ i + 1 = leb-true vc (i + 1) e in rw e (sym (wrap-less vc (i + 1) l (omega arith) ∙ omega arith)))
      (λ e. rw e (sym (wrap-same vc (i + 1) (leb-false vc (i + 1) e))))

  prev-is : rust.prev vc i ≡ wrap vc (i + (vc - 1))
  unfolding rust.prev
  prev-is =
      by-test (eqb i 0)
      (λ e. let z : i ≡ 0 = eqb-true i 0 e in rw e (sym (wrap-same vc (i + (vc - 1)) (omega arith) ∙ omega arith)))
      (λ e. let n = eqb-false i 0 e in rw e (sym (wrap-less vc (i + (vc - 1)) (omega (arith, n)) (omega arith) ∙ omega (arith, n))))

forward-is : (vc a b : ℕ) → a < vc → b < vc → rust.forward vc a b ≡ ahead vc a b
unfolding rust.forward
forward-is vc a b h k =
    by-test (leb a b) (λ e. rw e (sym (ahead-up vc a b h k (leb-true a b e)))) (λ e. rw e (sym (ahead-round vc a b h k (leb-false a b e))))

-- ---- and so are its vertices
module _ (o : List Float) (vc i : ℕ) (inside : i < vc) where
  at-is : vertex_at o i ≡ outline_at o vc i
  unfolding outline_at
  at-is = ap (vertex_at o) (sym (wrap-same vc i inside))

  next-at : vertex_at o (rust.next vc i) ≡ outline_at o vc (i + 1)
  unfolding outline_at
  next-at = ap (vertex_at o) (next-is vc i inside)

  prev-at : vertex_at o (rust.prev vc i) ≡ outline_at o vc (i + (vc - 1))
  unfolding outline_at
  prev-at = ap (vertex_at o) (prev-is vc i inside)

  near_next : (p : Point) (t : Tolerance) → points_agree t (pos_of (vertex_at o (rust.next vc i))) p ≡ near_vertex o vc (i + 1) p t
  unfolding near_vertex
  near_next p t = agree-swap t _ p ∙ ap (λ (u : Vertex). points_agree t p (pos_of u)) next-at

  near-at : (p : Point) (t : Tolerance) → points_agree t p (pos_of (vertex_at o i)) ≡ near_vertex o vc i p t
  unfolding near_vertex
  near-at p t = ap (λ (u : Vertex). points_agree t p (pos_of u)) at-is

module _ (host : Asked → Parts) (o : List Float) (vc : ℕ) (t : Tolerance) where
  abbrev begun : ℕ → Bool → rust.Begin
  begun i m = record { index = start_index_of vc i m; at_end = m }

  -- ---- let (start_index, start_point_at_seg_end) = ..
  module _ (p : Point) (i : ℕ) (q : Point) (j : ℕ) (inside : i < vc) where
    begin-moves : (closed : Bool) → can_move (ends_of closed i p j q) ≡ true → (not closed && leb j i) ≡ false
        → rust.begin host o vc t closed p i j ≡ begun i (moves_on o vc (ends_of closed i p j q) t)
    unfolding rust.begin moves_on start_index_of
    begin-moves closed c n =
        by-test (near_vertex o vc (i + 1) p t)
        (λ y. rw (n, c, near_next o vc i inside p t ∙ y, y, next-is vc i inside))
        (λ y. rw (n, c, near_next o vc i inside p t ∙ y, y))

    begin-stays : leb j i ≡ true → ltb i j ≡ false → rust.begin host o vc t false p i j ≡ begun i (moves_on o vc (ends_of false i p j q) t)
    unfolding rust.begin moves_on can_move start_index_of
    begin-stays e n = rw (e, n)

    begin-is : (closed : Bool) → rust.begin host o vc t closed p i j ≡ begun i (moves_on o vc (ends_of closed i p j q) t)
    unfolding can_move
    begin-is true = begin-moves true refl refl
    begin-is false =
        by-test (leb j i) (λ e. begin-stays e (le-ltb i j (leb-true j i e))) (λ e. begin-moves false (lt-ltb i j (leb-false j i e)) e)

  -- ---- let traverse_count = ..
  count-is : (closed : Bool) (p : Point) (i i' : ℕ) (q : Point) (j : ℕ) → i' < vc → j < vc → rust.count host o vc t closed p i' q j ≡ traverse o vc (ends_of closed i p j q) t i'
  unfolding rust.count traverse decided start_nearer
  count-is closed p i i' q j h k = rw (forward-is vc i' j h k, at-is o vc i' h)

  -- ---- Self::create
  module _ (i : ℕ) (q : Point) (j : ℕ) (first : Vertex) (n : ℕ) (part : Vertex) (inside : j < vc) (split : part ≡ (host (asked (outline_at o vc j) (outline_at o vc (j + 1)) q)).part) where
    abbrev walk : Walk
    walk = record { start_index = i; end_intersect = q; intersect_index = j; updated_start = first; traverse_count = n; split_bulge = part.bulge }

    before-is : cond (not (eqb (n - 1) 0)) (vertex_at o (rust.prev vc j)).bulge first.bulge ≡ bulge_before o vc walk
    unfolding bulge_before
    before-is = by-test (eqb (n - 1) 0) (λ e. rw e) (λ e. rw e (ap (λ (u : Vertex). u.bulge) (prev-at o vc j inside)))

    create-is : rust.create host o vc t i q j first n ≡ create_view o vc walk t
    unfolding rust.create create_view
    create-is =
        by-test (near_vertex o vc j q t)
        (λ y. rw (near-at o vc j inside q t ∙ y, y) (view_fields refl refl refl before-is refl))
        (λ y. rw (near-at o vc j inside q t ∙ y, y, at-is o vc j inside, next-at o vc j inside) (view_fields refl refl refl (ap (λ (u : Vertex). u.bulge) (sym split)) refl))

  -- ---- let updated_start = .., and what follows: m, k and n are the span's fields
  module _ (e : Ends) (m : Bool) (k n : ℕ) (starts : k < vc) (ends : e.end_index < vc) where
    abbrev s : Span
    s = span_with m k n

    abbrev h : Splits
    h = handed_in host o vc e s

    abbrev first : Vertex
    first = rust.updated host o vc t (record { index = k; at_end = m }) e.start_point e.end_point n

    on-one-segment : eqb n 0 ≡ true → first ≡ h.end_part
    unfolding rust.updated handed_in end_asked running_vertex
    on-one-segment z = by-test m (λ y. rw (z, y, at-is o vc k starts, next-at o vc k starts)) (λ y. rw (z, y, at-is o vc k starts, next-at o vc k starts))

    on-its-way : eqb n 0 ≡ false → first ≡ running_vertex o vc s h.start_vertex
    unfolding rust.updated handed_in running_vertex
    on-its-way z = by-test m (λ y. rw (z, y, at-is o vc k starts)) (λ y. rw (z, y, at-is o vc k starts, next-at o vc k starts))

    end-split : eqb n 0 ≡ false → h.end_part ≡ (host (asked (outline_at o vc e.end_index) (outline_at o vc (e.end_index + 1)) e.end_point)).part
    unfolding handed_in end_asked
    end-split z = rw z

    made-is : rust.made host o vc t k e.end_point e.end_index first n ≡ sliced_view o vc e t s h
    unfolding rust.made rust.single sliced_view single_view walked_view collapses walk_over
    made-is =
        by-test (eqb n 0)
        (λ z. rw (z, on-one-segment z))
        (λ z. rw (z, on-its-way z, near-at o vc e.end_index ends e.end_point t, create-is k e.end_point e.end_index (running_vertex o vc s h.start_vertex) n h.end_part ends (end-split z)))

  -- ---- Self::from_slice_points
  module _ (closed : Bool) (p : Point) (i : ℕ) (q : Point) (j : ℕ) (f : EndsFit o vc (ends_of closed i p j q)) where
    -- `from_slice_points` is the Rust's, whatever the host's splits are, where it splits as it is asked.
    pub slice_is : rust.from_slice_points host o vc t closed p i q j ≡ slice_view o vc (ends_of closed i p j q) t (handed_in host o vc (ends_of closed i p j q) (span_of o vc (ends_of closed i p j q) t))
    unfolding rust.from_slice_points slice_view span_of
    slice_is =
        let b = start-lt vc i (start_index_of vc i (moves_on o vc (ends_of closed i p j q) t)) (moves_on o vc (ends_of closed i p j q) t) f.starts refl in
        rw (begin-is p i q j f.starts closed, count-is closed p i _ q j b f.ends) (made-is (ends_of closed i p j q) _ _ _ b f.ends)

  -- ---- Self::from_new_start
  module _ (p : Point) (i : ℕ) (g : Segment o vc i) where
    abbrev start : ℕ
    start = start_of o vc i p t

    abbrev handed : Splits
    handed = handed_in host o vc (round_ends i p) (span_of o vc (round_ends i p) t)

    moved-is : rust.moved host o vc t p i ≡ start
    unfolding rust.moved span_of start_index_of moves_on can_move
    moved-is =
        by-test (near_vertex o vc (i + 1) p t)
        (λ y. rw (near_next o vc i g.inside p t ∙ y, y) (next-is vc i g.inside))
        (λ y. rw (near_next o vc i g.inside p t ∙ y, y))

    around-is : rust.around host o vc t p start ≡ round_view o vc i p t handed
    unfolding rust.around handed_in
    around-is =
        let b = start-below o vc i p t g in
        by-test (near_vertex o vc start p t)
        (λ y. rw (agree-swap t (pos_of (vertex_at o start)) p ∙ near-at o vc start b p t ∙ y, at-is o vc start b, next-at o vc start b, prev-at o vc start b) (sym (round-on-vertex o vc i p t handed g y)))
        (λ y. rw (agree-swap t (pos_of (vertex_at o start)) p ∙ near-at o vc start b p t ∙ y, at-is o vc start b, next-at o vc start b) (sym (round-between o vc i p t handed g y)))

    -- `from_new_start` is the Rust's, whatever the host's splits are, where it splits as it is asked.
    pub new-start-is : (closed : Bool) → rust.from_new_start host o vc t closed p i ≡ new_start_view o vc closed i p t (handed_in host o vc (new_ends o vc closed i p) (span_of o vc (new_ends o vc closed i p) t))
    unfolding rust.from_new_start new_start_view
    new-start-is true = ap Some (ap (rust.around host o vc t p) moved-is ∙ around-is)
    new-start-is false = rw (at-is o vc (vc - 1) (omega arith)) (slice_is false p i (pos_of (outline_at o vc (vc - 1))) (vc - 1) (last-ends o vc i p _ g refl))
