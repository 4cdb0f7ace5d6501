-- Laws of the vertices of one view on two outlines: which numbers they hold, and how a loop finds the lowest that differs.
use Prim.Native.Nat.{ℕ, zero, suc, ◌+◌, ◌-◌, ◌≤◌, ◌<◌}
use Rattle.std.specs.Prelude.{Bool, false, not, cond, ◌≡◌, List, T, ltb, eqb, get_or, Float, Some, None}
use Rattle.std.proofs.Math.Bool.{true}
use Rattle.std.proofs.lemmas.Bool.{false≢true}
use Rattle.std.proofs.Math.Path.{refl, sym, ap, subst}
use Rattle.std.proofs.Common.{◌∙◌, add-one}
use native.Mathlib.Omega.{arith}
use Rattle.std.specs.Float.{nan, inf, fin}
use Rattle.std.specs.Float.Ieee.{binary64, of_bits, to_bits, is_nan, neg, le, lt}
use borrow.Author.Tests.{eq-eqb, ne_eqb, le-ltb, eqb-true, eqb-false, not-true, not-false}
use Rattle.basis.specs.All.{all_of, all-at}
use Rattle.basis.specs.Choice.{by-test}
use Rattle.basis.specs.Each.{each_to}
use Rattle.basis.specs.EachLaws.{each_at}
use Rattle.basis.specs.Number.{+0, abs_f, within}
use Rattle.outline.specs.declared.point.Vertex.{Vertex}
use Rattle.outline.specs.Points.{vertex_numbers}
use Rattle.outline.specs.Outline.{outline_at}
use Rattle.view.specs.declared.data.ViewData.{ViewData}
use Rattle.view.specs.View.{Fit, forward_at, turned_at, inverted_at, vertex_of, vertex_count, view_numbers}
use Rattle.view.specs.ViewTheorems.{outline-passes}
use Rattle.unmoved.specs.Unmoved.{same_bits, same_vertex, same_at, lowest_from, first_moved, moved, Vertices, BothFit}

-- ---- the numbers of a view's vertex: where all numbers handed in pass a test that does not look at signs, they pass it too
module _ (p : Float → Bool) (even : (x : Float) → p (neg x) ≡ p x) (none : p +0 ≡ true) where
  -- three numbers that pass
  pub record Passes (u : Vertex) : Type 0 where
    pub xs : p u.x ≡ true
    pub ys : p u.y ≡ true
    pub bulges : p u.bulge ≡ true

  passes : (u : Vertex) → all_of p (vertex_numbers u) ≡ true → Passes u
  passes u a = record { xs = all-at p (vertex_numbers u) 0 nan a (omega arith); ys = all-at p (vertex_numbers u) 1 nan a (omega arith); bulges = all-at p (vertex_numbers u) 2 nan a (omega arith) }

  either : (b : Bool) (u w : Vertex) → Passes u → Passes w → Passes (cond b u w)
  either true u w f g = f
  either false u w f g = g

  module _ (o : List Float) (vc : ℕ) (v : ViewData) (fit : Fit o vc v) (all : all_of p o ≡ true) (own : all_of p (view_numbers v) ≡ true) where
    at : (i : ℕ) → Passes (outline_at o vc i)
    at i = passes (outline_at o vc i) (outline-passes p o vc i fit.whole all)

    mine : (k : ℕ) → k < 6 → p (get_or (view_numbers v) k nan) ≡ true
    mine k h = all-at p (view_numbers v) k nan own h

    start : Passes v.updated_start
    start = record { xs = mine 0 (omega arith); ys = mine 1 (omega arith); bulges = mine 2 (omega arith) }

    forward : (k : ℕ) → Passes (forward_at o vc v k)
    unfolding forward_at
    forward k =
        let last = at (v.start_index + v.end_index_offset) in
        either (eqb k 0) _ _ start
        (either (ltb k v.end_index_offset) _ _ (at (v.start_index + k))
        (either (eqb k v.end_index_offset) _ _ (record { xs = last.xs; ys = last.ys; bulges = mine 3 (omega arith) })
        (record { xs = mine 4 (omega arith); ys = mine 5 (omega arith); bulges = none })))

    turned : (i : ℕ) → Passes (turned_at o vc i)
    unfolding turned_at
    turned i = let next = at (i + 1) in record { xs = next.xs; ys = next.ys; bulges = even (outline_at o vc i).bulge ∙ (at i).bulges }

    inverted : (k : ℕ) → Passes (inverted_at o vc v k)
    unfolding inverted_at
    inverted k =
        let next = at (v.start_index + 1) in
        either (eqb k 0) _ _ (record { xs = mine 4 (omega arith); ys = mine 5 (omega arith); bulges = even v.updated_end_bulge ∙ mine 3 (omega arith) })
        (either (ltb k v.end_index_offset) _ _ (turned (v.start_index + (v.end_index_offset - k)))
        (either (eqb k v.end_index_offset) _ _ (record { xs = next.xs; ys = next.ys; bulges = even v.updated_start.bulge ∙ mine 2 (omega arith) })
        (record { xs = start.xs; ys = start.ys; bulges = none })))

    pub vertex-passes : (k : ℕ) → Passes (vertex_of o vc v k)
    unfolding vertex_of
    vertex-passes k = either v.inverted_direction _ _ (inverted k) (forward k)

-- ---- so no vertex of a view whose numbers are in range holds a NaN
within_even : (x : Float) → within (neg x) ≡ within x
unfolding within abs_f neg
within_even nan = refl
within_even (inf s) = refl
within_even (fin s m e) = refl

within-zero : within +0 ≡ true
unfolding within abs_f of_bits le lt
within-zero = refl

no_nan : (x : Float) → within x ≡ true → T (not (is_nan x))
unfolding is_nan
no_nan nan e = absurd (false≢true (unfold within abs_f le lt in e))
no_nan (inf s) e = tt
no_nan (fin s m k) e = tt

module _ (o1 : List Float) (vc1 : ℕ) (o2 : List Float) (vc2 : ℕ) (v : ViewData) where
  pub both-numbers : (k : ℕ) (a b : Vertex) → BothFit o1 vc1 o2 vc2 v → a ≡ vertex_of o1 vc1 v k → b ≡ vertex_of o2 vc2 v k → Vertices a b
  both-numbers k a b f e q =
      let one = vertex-passes within within_even within-zero o1 vc1 v f.first f.numbers1 f.own k in
      let two = vertex-passes within within_even within-zero o2 vc2 v f.second f.numbers2 f.own k in
      rw (e, q)
      (record {
        xs = record { first = no_nan _ one.xs; second = no_nan _ two.xs };
        ys = record { first = no_nan _ one.ys; second = no_nan _ two.ys };
        bulges = record { first = no_nan _ one.bulges; second = no_nan _ two.bulges };
      })

  pub same_of : (k : ℕ) (a b : Vertex) (r : Bool) → a ≡ vertex_of o1 vc1 v k → b ≡ vertex_of o2 vc2 v k → r ≡ same_vertex a b → r ≡ same_at o1 vc1 o2 vc2 v k
  unfolding same_at
  same_of k a b r e q p = cc

pub ruleset vertices = (both-numbers, same_of)

-- ---- the lowest number of which a test fails
module _ (q : ℕ → Bool) where
  lowest-none : (k n : ℕ) → ((i : ℕ) → k ≤ i → i < k + n → q i ≡ true) → lowest_from q k n ≡ k + n
  unfolding lowest_from
  lowest-none k zero h = omega arith
  lowest-none k (suc n) h = rw (h k (omega arith) (omega arith)) (lowest-none (suc k) n (λ i a b. h i (omega arith) (omega arith)) ∙ omega arith)

  lowest-found : (k n j : ℕ) → ((i : ℕ) → k ≤ i → i < j → q i ≡ true) → k ≤ j → j < k + n → q j ≡ false → lowest_from q k n ≡ j
  unfolding lowest_from
  lowest-found k zero j h l m e = absurd (omega arith)
  lowest-found k (suc n) j h l m e =
      by-test (eqb k j)
      (λ t. let d = eqb-true k j t in rw (ap q d ∙ e) d)
      (λ f. let d = eqb-false k j f in rw (h k (omega arith) (omega (arith, d))) (lowest-found (suc k) n j (λ i a b. h i (omega arith) b) (omega (arith, d)) (omega arith) e))

  pub none_below : (n : ℕ) → each_to q n ≡ true → lowest_from q 0 n ≡ n
  none_below n e = lowest-none 0 n (λ i a b. each_at q n i e (omega arith)) ∙ omega arith

  pub found_below : (n j : ℕ) → each_to q j ≡ true → j < n → q j ≡ false → lowest_from q 0 n ≡ j
  found_below n j e l f = lowest-found 0 n j (λ i a b. each_at q j i e b) (omega arith) (omega arith) f

-- ---- the first and the last vertex come from the view alone
module _ (o1 : List Float) (vc1 : ℕ) (o2 : List Float) (vc2 : ℕ) (v : ViewData) where
  same_self : (a b : Vertex) → a ≡ b → same_vertex a b ≡ true
  unfolding same_vertex same_bits
  same_self a b e = rw e (rw (eq-eqb (to_bits binary64 b.x) _ refl, eq-eqb (to_bits binary64 b.y) _ refl, eq-eqb (to_bits binary64 b.bulge) _ refl))

  first-same : vertex_of o1 vc1 v 0 ≡ vertex_of o2 vc2 v 0
  unfolding vertex_of forward_at inverted_at
  first-same = refl

  last-same : vertex_of o1 vc1 v (v.end_index_offset + 1) ≡ vertex_of o2 vc2 v (v.end_index_offset + 1)
  unfolding vertex_of forward_at inverted_at
  last-same =
      let n = v.end_index_offset in
      rw (ne_eqb (n + 1) 0 (λ e. omega arith), le-ltb (n + 1) n (omega arith), ne_eqb (n + 1) n (λ e. omega arith))

  -- a vertex that is the same on both outlines has the same bits
  pub alike : (k : ℕ) → vertex_of o1 vc1 v k ≡ vertex_of o2 vc2 v k → same_at o1 vc1 o2 vc2 v k ≡ true
  unfolding same_at
  alike k e = same_self _ _ e

  pub last-alike : same_at o1 vc1 o2 vc2 v (v.end_index_offset + 1) ≡ true
  last-alike = alike (v.end_index_offset + 1) last-same

  -- how the loop goes: all below k are the same
  pub moved-begin : each_to (same_at o1 vc1 o2 vc2 v) 1 ≡ true
  unfolding same_at each_to
  moved-begin = same_self _ _ first-same

  pub moved_on : (k : ℕ) (x : Bool) → each_to (same_at o1 vc1 o2 vc2 v) k ≡ true → x ≡ same_at o1 vc1 o2 vc2 v k → not x ≡ false → each_to (same_at o1 vc1 o2 vc2 v) (k + 1) ≡ true
  unfolding each_to
  moved_on k x e q n = rw (add-one k, e, sym q ∙ not-false x n)

  pub moved-found : (k : ℕ) (x : Bool) → each_to (same_at o1 vc1 o2 vc2 v) k ≡ true → x ≡ same_at o1 vc1 o2 vc2 v k → not x ≡ true → k ≤ v.end_index_offset → k ≡ first_moved o1 vc1 o2 vc2 v
  unfolding first_moved
  moved-found k x e q n l = sym (found_below (same_at o1 vc1 o2 vc2 v) (vertex_count v) k e (omega arith) (sym q ∙ not-true x n))

  pub moved_none : (k r : ℕ) → each_to (same_at o1 vc1 o2 vc2 v) k ≡ true → v.end_index_offset < k → k ≤ v.end_index_offset + 1 → r ≡ v.end_index_offset + 2 → r ≡ first_moved o1 vc1 o2 vc2 v
  unfolding first_moved
  moved_none k r e l m q =
      let n = v.end_index_offset in
      let d : k ≡ n + 1 = omega arith in
      let last : same_at o1 vc1 o2 vc2 v k ≡ true = ap (same_at o1 vc1 o2 vc2 v) d ∙ last-alike in
      let all : each_to (same_at o1 vc1 o2 vc2 v) (vertex_count v) ≡ true = subst (λ (i : ℕ). each_to (same_at o1 vc1 o2 vc2 v) i ≡ true) (omega arith) (moved_on k true e (sym last) refl) in
      q ∙ sym (none_below (same_at o1 vc1 o2 vc2 v) (vertex_count v) all)

  -- what the code tells: the number that it stops at, or none
  pub moved-some : (k : ℕ) (x : Bool) → each_to (same_at o1 vc1 o2 vc2 v) k ≡ true → x ≡ same_at o1 vc1 o2 vc2 v k → not x ≡ true → k ≤ v.end_index_offset → Some k ≡ moved o1 vc1 o2 vc2 v
  unfolding moved
  moved-some k x e q n l =
      let f = moved-found k x e q n l in
      rw (sym f, ne_eqb k (vertex_count v) (λ z. omega arith))

  pub moved-all : (k : ℕ) → each_to (same_at o1 vc1 o2 vc2 v) k ≡ true → v.end_index_offset < k → k ≤ v.end_index_offset + 1 → None ≡ moved o1 vc1 o2 vc2 v
  unfolding moved
  moved-all k e l m =
      let f = moved_none k (vertex_count v) e l m refl in
      rw (sym f, eq-eqb (vertex_count v) (vertex_count v) refl)

pub ruleset moving = (moved-begin, moved_on, moved-some, moved-all)
