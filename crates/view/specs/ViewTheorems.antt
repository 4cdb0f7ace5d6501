-- Theorems about the definitions of `View` and `Create`, so that a reader can trust them. Of the proofs of code only one rests on them, in the crate unmoved: it uses `outline-passes`.
use Rattle.std.specs.Prelude.{ℕ, ◌+◌, ◌-◌, ◌*◌, ◌≤◌, ◌<◌, Bool, ◌≡◌, List, ◌∷◌, ◌++◌, ltb, eqb, Float, Some, None}
use Rattle.std.proofs.Math.Bool.{true, false, ◌&&◌}
use Rattle.std.proofs.Math.Path.{refl, ap, ap₂}
use Rattle.std.proofs.Common.{sym, subst, ◌∙◌}
use native.Mathlib.Omega.{arith}
use Rattle.std.specs.Float.Ieee.{nan, neg}
use borrow.Author.Tests.{ltb-true, ltb-false, eqb-true, eqb-false, lt-ltb, le-ltb, le-leb, lt-leb, eq-eqb, ne_eqb}
use Rattle.basis.specs.Choice.{by-test}
use Rattle.basis.specs.All.{all_of, all_append, all-at}
use Rattle.basis.specs.Number.{+0}
use Rattle.basis.specs.declared.number.Tolerance.{Tolerance}
use Rattle.outline.specs.declared.point.Point.{Point}
use Rattle.outline.specs.declared.point.Vertex.{Vertex}
use Rattle.outline.specs.Points.{pos_of, with_bulge, at_point, point_numbers, vertex_numbers, points_agree}
use Rattle.outline.specs.Outline.{Whole, vertex_at, wrap, outline_at}
use Rattle.outline.specs.OutlineLaws.{wrap-lt, wrap-same, wrap-less}
use Rattle.view.specs.declared.data.ViewData.{ViewData}
use Rattle.view.specs.declared.create.Walk.{Walk}
use Rattle.view.specs.View.{Fit, forward_at, turned_at, inverted_at, vertex_of, get_vertex, vertex_count, view_numbers}
use Rattle.view.specs.Create.{WalkFit, view_of, walk_view, near_vertex, bulge_before, create_view, single_view, entire_offset, entire_view}

-- a view's offset, under a shorter name
abbrev offset : ViewData → ℕ
offset v = v.end_index_offset

-- the start's bulge is the end's where both are of one segment
abbrev pub OneBulge : ViewData → Type 0
OneBulge v = offset v ≡ 0 → v.updated_start.bulge ≡ v.updated_end_bulge

-- the four places of an index in a view with offset n: 0, below the offset, at it, beyond it
by_place : {P : Type 0} (n k : ℕ) → (k ≡ 0 → P) → (0 < k → k < n → P) → (0 < k → k ≡ n → P) → (0 < k → n < k → P) → P
by_place n k first inner last beyond =
    by-test (eqb k 0)
    (λ z. first (eqb-true k 0 z))
    (λ z. let p : 0 < k = omega (arith, eqb-false k 0 z) in
    by-test (ltb k n)
    (λ l. inner p (ltb-true k n l))
    (λ l. by-test (eqb k n) (λ e. last p (eqb-true k n e)) (λ e. beyond p (omega (arith, ltb-false k n l, eqb-false k n e)))))

same_place : {u w : Vertex} → u ≡ w → pos_of u ≡ pos_of w
same_place e = ap (λ (u : Vertex). pos_of u) e

same-bulge : {u w : Vertex} → u ≡ w → u.bulge ≡ w.bulge
same-bulge e = ap (λ (u : Vertex). u.bulge) e

module _ (o : List Float) (vc : ℕ) (v : ViewData) where
  -- ---- how many vertices a view has

  -- A view has offset + 2 vertices: an index below that has one,
  pub found_below : (k : ℕ) → k < offset v + 2 → get_vertex o vc v k ≡ Some (vertex_of o vc v k)
  unfolding get_vertex
  found_below k h = simp (lt-leb (offset v + 2) k h)

  -- and an index from there on has none.
  pub none-beyond : (k : ℕ) → offset v + 2 ≤ k → get_vertex o vc v k ≡ None
  unfolding get_vertex
  none-beyond k h = simp (le-leb (offset v + 2) k h)

  -- ---- the cases of the two definitions, each by its own condition
  pub forward-first : (k : ℕ) → k ≡ 0 → forward_at o vc v k ≡ v.updated_start
  unfolding forward_at
  forward-first k z = simp (eq-eqb k 0 z)

  pub forward-inner : (k : ℕ) → 0 < k → k < offset v → forward_at o vc v k ≡ outline_at o vc (v.start_index + k)
  unfolding forward_at
  forward-inner k p l = simp (ne_eqb k 0 (omega arith), lt-ltb k (offset v) l)

  pub forward-last : (k : ℕ) → 0 < k → k ≡ offset v → forward_at o vc v k ≡ with_bulge (outline_at o vc (v.start_index + k)) v.updated_end_bulge
  unfolding forward_at
  forward-last k p e =
      simp (ne_eqb k 0 (omega arith), le-ltb k (offset v) (omega arith), eq-eqb k (offset v) e)
      (ap (λ (i : ℕ). with_bulge (outline_at o vc (v.start_index + i)) v.updated_end_bulge) (sym e))

  pub forward-beyond : (k : ℕ) → offset v < k → forward_at o vc v k ≡ at_point v.end_point +0
  unfolding forward_at
  forward-beyond k h = simp (ne_eqb k 0 (omega arith), le-ltb k (offset v) (omega arith), ne_eqb k (offset v) (omega arith))

  pub inverted-first : (k : ℕ) → k ≡ 0 → inverted_at o vc v k ≡ at_point v.end_point (neg v.updated_end_bulge)
  unfolding inverted_at
  inverted-first k z = simp (eq-eqb k 0 z)

  pub inverted-inner : (k : ℕ) → 0 < k → k < offset v → inverted_at o vc v k ≡ turned_at o vc (v.start_index + (offset v - k))
  unfolding inverted_at
  inverted-inner k p l = simp (ne_eqb k 0 (omega arith), lt-ltb k (offset v) l)

  pub inverted-last : (k : ℕ) → 0 < k → k ≡ offset v → inverted_at o vc v k ≡ with_bulge (outline_at o vc (v.start_index + 1)) (neg v.updated_start.bulge)
  unfolding inverted_at
  inverted-last k p e = simp (ne_eqb k 0 (omega arith), le-ltb k (offset v) (omega arith), eq-eqb k (offset v) e)

  pub inverted-beyond : (k : ℕ) → offset v < k → inverted_at o vc v k ≡ with_bulge v.updated_start +0
  unfolding inverted_at
  inverted-beyond k h = simp (ne_eqb k 0 (omega arith), le-ltb k (offset v) (omega arith), ne_eqb k (offset v) (omega arith))

  -- ---- an inverted view is the forward one walked back

  -- from 1 to the offset a forward view's positions are the outline's
  forward-place : (k : ℕ) → 0 < k → k ≤ offset v → pos_of (forward_at o vc v k) ≡ pos_of (outline_at o vc (v.start_index + k))
  forward-place k p l =
      by_place (offset v) k
      (λ z. absurd (omega arith))
      (λ p' l'. same_place (forward-inner k p l'))
      (λ p' e. same_place (forward-last k p e))
      (λ p' b. absurd (omega arith))

  turned-place : (i j : ℕ) → i + 1 ≡ j → pos_of (turned_at o vc i) ≡ pos_of (outline_at o vc j)
  unfolding turned_at
  turned-place i j e = same_place (ap (outline_at o vc) e)

  -- An inverted view's k-th position is the forward view's (offset + 1 − k)-th.
  pub inverted-position : (k : ℕ) → k ≤ offset v + 1 → pos_of (inverted_at o vc v k) ≡ pos_of (forward_at o vc v (offset v + 1 - k))
  inverted-position k h =
      by_place (offset v) k
      (λ z. same_place (inverted-first k z) ∙ sym (same_place (forward-beyond m (omega arith))))
      (λ p l. same_place (inverted-inner k p l) ∙ turned-place _ _ (omega arith) ∙ sym (forward-place m (omega arith) (omega arith)))
      (λ p e. same_place (inverted-last k p e) ∙ same_place (ap (outline_at o vc) (omega arith)) ∙ sym (forward-place m (omega arith) (omega arith)))
      (λ p b. same_place (inverted-beyond k b) ∙ sym (same_place (forward-first m (omega arith))))
    where
      m : ℕ
      m = offset v + 1 - k

  turned-bulge : (i : ℕ) → (turned_at o vc i).bulge ≡ neg (outline_at o vc i).bulge
  unfolding turned_at
  turned-bulge i = refl

  last-bulge : (k : ℕ) → k ≡ offset v → OneBulge v → (forward_at o vc v k).bulge ≡ v.updated_end_bulge
  last-bulge k e same =
      by_place (offset v) k
      (λ z. same-bulge (forward-first k z) ∙ same (omega arith))
      (λ p l. absurd (omega arith))
      (λ p e'. same-bulge (forward-last k p e))
      (λ p b. absurd (omega arith))

  -- Its k-th bulge is the negated bulge of the forward vertex before that one. Where the offset is 0 this needs an end bulge that is
  -- the start's, and the constructors give no other (below).
  pub inverted-bulge : (k : ℕ) → k ≤ offset v → OneBulge v → (inverted_at o vc v k).bulge ≡ neg (forward_at o vc v (offset v - k)).bulge
  inverted-bulge k h same =
      by_place (offset v) k
      (λ z. same-bulge (inverted-first k z) ∙ sym (ap neg (last-bulge m (omega arith) same)))
      (λ p l. same-bulge (inverted-inner k p l) ∙ turned-bulge _ ∙ sym (ap neg (same-bulge (forward-inner m (omega arith) (omega arith)))))
      (λ p e. same-bulge (inverted-last k p e) ∙ sym (ap neg (same-bulge (forward-first m (omega arith)))))
      (λ p b. absurd (omega arith))
    where
      m : ℕ
      m = offset v - k

  -- Its last bulge, at offset + 1, is +0.
  pub inverted-end : (inverted_at o vc v (offset v + 1)).bulge ≡ +0
  inverted-end = same-bulge (inverted-beyond (offset v + 1) (omega arith))

-- ---- the view of a whole outline
rejoined : {u w x : Vertex} → u ≡ x → w ≡ x → with_bulge u w.bulge ≡ x
rejoined {w} {x} e f = ap (λ (a : Vertex). with_bulge a w.bulge) e ∙ ap (λ (a : Vertex). with_bulge x a.bulge) f

module _ (o : List Float) (vc : ℕ) (whole : Whole o vc) where
  at-below : (i j : ℕ) → i ≡ j → j < vc → outline_at o vc i ≡ vertex_at o j
  unfolding outline_at
  at-below i j e h = ap (vertex_at o) (wrap-same vc i (omega arith) ∙ e)

  at_count : outline_at o vc vc ≡ vertex_at o 0
  unfolding outline_at
  at_count = ap (vertex_at o) (wrap-less vc vc (omega arith) (omega arith) ∙ omega arith)

  entire-below : (closed : Bool) → entire_offset vc closed < vc
  unfolding entire_offset
  entire-below true = omega arith
  entire-below false = omega arith

  -- closed or open: up to the offset the outline's own vertices, and then the next with bulge +0
  entire-inner : (closed : Bool) (k : ℕ) → k ≤ entire_offset vc closed → vertex_of o vc (entire_view o vc closed) k ≡ vertex_at o k
  unfolding vertex_of entire_view
  entire-inner closed k h =
      let b : entire_offset vc closed < vc = entire-below closed in
      by_place (entire_offset vc closed) k
      (λ z. forward-first o vc _ k z ∙ at-below 0 k (omega arith) (omega arith))
      (λ p l. forward-inner o vc _ k p l ∙ at-below _ k (omega arith) (omega arith))
      (λ p e. forward-last o vc _ k p e ∙ rejoined (at-below _ k (omega arith) (omega arith)) (at-below _ k (omega arith) (omega arith)))
      (λ p q. absurd (omega arith))

  entire-last : (closed : Bool) (k : ℕ) → k ≡ entire_offset vc closed + 1 → vertex_of o vc (entire_view o vc closed) k ≡ with_bulge (outline_at o vc k) +0
  unfolding vertex_of entire_view
  entire-last closed k e = forward-beyond o vc _ k (omega arith) ∙ ap (λ (i : ℕ). with_bulge (outline_at o vc i) +0) (sym e)

  -- The view of a closed outline has the offset vc − 1, and so vc + 1 vertices,
  pub entire-closed-count : (offset (entire_view o vc true) ≡ vc - 1) × (vertex_count (entire_view o vc true) ≡ vc + 1)
  unfolding entire_view entire_offset
  entire-closed-count = omega arith

  -- which are every vertex once, bulge included,
  pub entire-closed : (k : ℕ) → k < vc → vertex_of o vc (entire_view o vc true) k ≡ vertex_at o k
  unfolding entire_offset
  entire-closed k h = entire-inner true k (omega arith)

  -- and then the place where it began, with bulge +0.
  pub entire-closed-end : vertex_of o vc (entire_view o vc true) vc ≡ with_bulge (vertex_at o 0) +0
  unfolding entire_offset
  entire-closed-end = entire-last true vc (omega arith) ∙ ap (λ (u : Vertex). with_bulge u +0) at_count

  -- The view of an open outline has the offset vc − 2, and so vc vertices,
  pub entire-open-count : (offset (entire_view o vc false) ≡ vc - 2) × (vertex_count (entire_view o vc false) ≡ vc)
  unfolding entire_view entire_offset
  entire-open-count = omega arith

  -- which are every vertex but the last, bulge included,
  pub entire-open : (k : ℕ) → k < vc - 1 → vertex_of o vc (entire_view o vc false) k ≡ vertex_at o k
  unfolding entire_offset
  entire-open k h = entire-inner false k (omega arith)

  -- and then the last with bulge +0.
  pub entire-open-end : vertex_of o vc (entire_view o vc false) (vc - 1) ≡ with_bulge (vertex_at o (vc - 1)) +0
  unfolding entire_offset
  entire-open-end = entire-last false (vc - 1) (omega arith) ∙ ap (λ (u : Vertex). with_bulge u +0) (at-below (vc - 1) (vc - 1) refl (omega arith))

  -- What `from_entire_pline` returns fits the outline, so that its start and offset are accepted again.
  pub entire-fits : (closed : Bool) → Fit o vc (entire_view o vc closed)
  unfolding entire_view
  entire-fits closed = record { whole = whole; starts = omega arith; reaches = omega (arith, entire-below closed) }

  -- Its two bulges are one where its offset is 0.
  pub entire-bulges : (closed : Bool) → OneBulge (entire_view o vc closed)
  unfolding entire_view
  entire-bulges closed e = same-bulge (ap (outline_at o vc) (sym e))

-- ---- `create`
module _ (o : List Float) (vc : ℕ) (w : Walk) (t : Tolerance) where
  create-yes : near_vertex o vc w.intersect_index w.end_intersect t ≡ true → create_view o vc w t ≡ walk_view w (w.traverse_count - 1) (bulge_before o vc w)
  unfolding create_view
  create-yes e = simp e

  create-no : near_vertex o vc w.intersect_index w.end_intersect t ≡ false → create_view o vc w t ≡ walk_view w w.traverse_count w.split_bulge
  unfolding create_view
  create-no e = simp e

  -- what holds of both its cases
  created : (P : ViewData → Type 0) → P (walk_view w (w.traverse_count - 1) (bulge_before o vc w)) → P (walk_view w w.traverse_count w.split_bulge) → P (create_view o vc w t)
  created P y n =
      by-test (near_vertex o vc w.intersect_index w.end_intersect t)
      (λ e. subst P (sym (create-yes e)) y)
      (λ e. subst P (sym (create-no e)) n)

  -- Where the end agrees with the vertex at the intersect index, the offset is the traverse count less 1,
  pub create-on-vertex : near_vertex o vc w.intersect_index w.end_intersect t ≡ true → offset (create_view o vc w t) ≡ w.traverse_count - 1
  create-on-vertex e = ap (λ (v : ViewData). offset v) (create-yes e)

  -- and elsewhere it is the traverse count.
  pub create-between : near_vertex o vc w.intersect_index w.end_intersect t ≡ false → offset (create_view o vc w t) ≡ w.traverse_count
  create-between e = ap (λ (v : ViewData). offset v) (create-no e)

  before-zero : w.traverse_count - 1 ≡ 0 → w.updated_start.bulge ≡ bulge_before o vc w
  unfolding bulge_before
  before-zero z = simp (eq-eqb (w.traverse_count - 1) 0 z)

  module _ (f : WalkFit o vc w) where
    -- What `create` returns fits the outline, so that its start and offset are accepted again.
    pub create-fits : w.start_index < vc → w.traverse_count ≤ vc → Fit o vc (create_view o vc w t)
    create-fits s c =
        created (Fit o vc) (record { whole = f.whole; starts = s; reaches = omega arith }) (record { whole = f.whole; starts = s; reaches = c })

    -- Its two bulges are one where its offset is 0.
    pub create-bulges : OneBulge (create_view o vc w t)
    create-bulges = created OneBulge before-zero (λ z. absurd (omega arith))

-- ---- `create_on_single_segment`
module _ (i : ℕ) (first : Vertex) (end : Point) (t : Tolerance) where
  single-yes : points_agree t (pos_of first) end ≡ true → single_view i first end t ≡ None
  unfolding single_view
  single-yes e = simp e

  single-no : points_agree t (pos_of first) end ≡ false → single_view i first end t ≡ Some (view_of i 0 first first.bulge end)
  unfolding single_view
  single-no e = simp e

  -- where it gives a view
  module _ (v : ViewData) (is : single_view i first end t ≡ Some v) where
    single-is : view_of i 0 first first.bulge end ≡ v
    single-is = by-test (points_agree t (pos_of first) end) (λ e. cc (single-yes e)) (λ e. cc (single-no e))

    -- That view fits every outline that has its segment, so that its start and offset are accepted again.
    pub single-fits : (o : List Float) (vc : ℕ) → Whole o vc → i < vc → Fit o vc v
    single-fits o vc whole h = subst (Fit o vc) single-is (record { whole = whole; starts = h; reaches = omega arith })

    -- Its two bulges are one.
    pub single-bulges : OneBulge v
    single-bulges = subst OneBulge single-is (λ z. refl)

-- ---- Every number of a view was handed to its constructor: where all numbers handed in pass a test, such as `within`, the view's numbers pass it.
module _ (p : Float → Bool) where
  numbers-pass : (u : Vertex) (b : Float) (e : Point) → all_of p (vertex_numbers u) ≡ true → p b ≡ true → all_of p (point_numbers e) ≡ true
      → all_of p (vertex_numbers u ++ (b ∷ point_numbers e)) ≡ true
  unfolding all_of
  numbers-pass u b e f g h = all_append p (vertex_numbers u) (b ∷ point_numbers e) ∙ ap₂ ◌&&◌ f (ap₂ ◌&&◌ g h)

  pub outline-passes : (o : List Float) (vc i : ℕ) → Whole o vc → all_of p o ≡ true → all_of p (vertex_numbers (outline_at o vc i)) ≡ true
  unfolding all_of outline_at vertex_at
  outline-passes o vc i whole a =
      let h : wrap vc i < vc = wrap-lt vc i (omega arith) in
      let x = all-at p o (3 * wrap vc i) nan a (omega arith) in
      let y = all-at p o (3 * wrap vc i + 1) nan a (omega arith) in
      let b = all-at p o (3 * wrap vc i + 2) nan a (omega arith) in
      simp (x, y, b)

  bulge-passes : (u : Vertex) → all_of p (vertex_numbers u) ≡ true → p u.bulge ≡ true
  bulge-passes u a = all-at p (vertex_numbers u) 2 nan a (omega arith)

  pub place-passes : (u : Vertex) → all_of p (vertex_numbers u) ≡ true → all_of p (point_numbers (pos_of u)) ≡ true
  unfolding all_of
  place-passes u a = simp (all-at p (vertex_numbers u) 0 nan a (omega arith), all-at p (vertex_numbers u) 1 nan a (omega arith))

  before-passes : (o : List Float) (vc : ℕ) (w : Walk) → Whole o vc → all_of p o ≡ true → all_of p (vertex_numbers w.updated_start) ≡ true → p (bulge_before o vc w) ≡ true
  unfolding bulge_before
  before-passes o vc w whole a f =
      by-test (eqb (w.traverse_count - 1) 0)
      (λ e. simp e (bulge-passes w.updated_start f))
      (λ e. simp e (bulge-passes (outline_at o vc (w.intersect_index + (vc - 1))) (outline-passes o vc _ whole a)))

  -- Handed to `create`: the outline, and the walk's start, split bulge and end.
  pub create-numbers : (o : List Float) (vc : ℕ) (w : Walk) (t : Tolerance) → Whole o vc → all_of p o ≡ true → all_of p (vertex_numbers w.updated_start) ≡ true
      → p w.split_bulge ≡ true → all_of p (point_numbers w.end_intersect) ≡ true → all_of p (view_numbers (create_view o vc w t)) ≡ true
  create-numbers o vc w t whole a f g h =
      created o vc w t (λ (v : ViewData). all_of p (view_numbers v) ≡ true) (numbers-pass _ _ _ f (before-passes o vc w whole a f) h)
      (numbers-pass _ _ _ f g h)

  -- Handed to `create_on_single_segment`: the start and the end.
  pub single-numbers : (i : ℕ) (first : Vertex) (end : Point) (t : Tolerance) (v : ViewData) → single_view i first end t ≡ Some v
      → all_of p (vertex_numbers first) ≡ true → all_of p (point_numbers end) ≡ true → all_of p (view_numbers v) ≡ true
  single-numbers i first end t v is f h =
      subst (λ (u : ViewData). all_of p (view_numbers u) ≡ true) (single-is i first end t v is) (numbers-pass _ _ _ f (bulge-passes first f) h)

  -- Handed to `from_entire_pline`: the outline.
  pub entire-numbers : (o : List Float) (vc : ℕ) (closed : Bool) → Whole o vc → all_of p o ≡ true → all_of p (view_numbers (entire_view o vc closed)) ≡ true
  unfolding entire_view
  entire-numbers o vc closed whole a =
      let at : (i : ℕ) → all_of p (vertex_numbers (outline_at o vc i)) ≡ true = λ i. outline-passes o vc i whole a in
      numbers-pass _ _ _ (at 0) (bulge-passes _ (at (entire_offset vc closed))) (place-passes _ (at (entire_offset vc closed + 1)))
