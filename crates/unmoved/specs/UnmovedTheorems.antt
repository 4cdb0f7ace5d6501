-- What "unmoved" says, so that a reader can trust the definitions of `Unmoved`. No code is proved by them. All hold forward and inverted: the direction is a field of the view.
use Prim.Native.Nat.{ℕ, zero, suc, ◌+◌, ◌*◌, ◌≤◌, ◌<◌}
use Rattle.std.specs.Prelude.{Bool, false, ◌&&◌, ◌≡◌, refl, List, eqb, length, take, drop, Float}
use Rattle.std.proofs.Math.Bool.{true}
use Rattle.std.proofs.Math.Path.{sym, ap}
use Rattle.std.proofs.Common.{subst, ◌∙◌, arith}
use Rattle.std.proofs.Math.Seq.{take_at, drop_at}
use Rattle.std.specs.Float.{nan, inf, fin, binary64}
use Rattle.std.specs.Float.Ieee.{of_bits, to_bits, fits, neg}
use Rattle.std.specs.Float.Ieee.Bits.{of_bits-to_bits}
use borrow.Author.Tests.{eqb-true, eqb-false}
use Rattle.basis.specs.All.{all_of}
use Rattle.basis.specs.Choice.{by-test, clash, and_left, and_right}
use Rattle.basis.specs.EachLaws.{each_at, at_each}
use Rattle.basis.specs.Items.{first_items}
use Rattle.basis.specs.ItemLaws.{items-length}
use Rattle.basis.specs.Number.{+0}
use Rattle.outline.specs.declared.point.Vertex.{Vertex}
use Rattle.outline.specs.Points.{vertex_numbers}
use Rattle.view.specs.declared.data.ViewData.{ViewData}
use Rattle.view.specs.View.{Fit, vertex_of, vertex_count, vertex_item, view_vertices, view_numbers}
use Rattle.unmoved.specs.Unmoved.{same_bits, same_vertex, same_at, lowest_from, first_moved}
use Rattle.unmoved.specs.UnmovedLaws.{vertex-passes, none_below, alike, last-alike, moved-begin, moved_none}

-- ---- the lowest number of which a test fails
module _ (q : ℕ → Bool) where
  pub record Lowest (k n m : ℕ) : Type 0 where
    pub from : k ≤ m
    pub most : m ≤ k + n
    pub passed : (i : ℕ) → k ≤ i → i < m → q i ≡ true
    pub fails : m < k + n → q m ≡ false

  lowest-yes : (k n : ℕ) → q k ≡ true → Lowest (suc k) n (lowest_from q (suc k) n) → Lowest k (suc n) (lowest_from q k (suc n))
  unfolding lowest_from
  lowest-yes k n t rest =
      rw t
      (record {
        from = omega (arith, rest.from);
        most = omega (arith, rest.most);
        passed = λ i a b. by-test (eqb k i) (λ s. ap q (sym (eqb-true k i s)) ∙ t) (λ s. let d = eqb-false k i s in rest.passed i (omega (arith, d)) b);
        fails = λ b. rest.fails (omega arith);
      })

  lowest-no : (k n : ℕ) → q k ≡ false → Lowest k (suc n) (lowest_from q k (suc n))
  unfolding lowest_from
  lowest-no k n f = rw f (record { from = omega arith; most = omega arith; passed = λ i a b. absurd (omega arith); fails = λ b. f })

  lowest-is : (k n : ℕ) → Lowest k n (lowest_from q k n)
  unfolding lowest_from
  lowest-is k zero = record { from = omega arith; most = omega arith; passed = λ i a b. absurd (omega arith); fails = λ b. absurd (omega arith) }
  lowest-is k (suc n) = by-test (q k) (λ t. lowest-yes k n t (lowest-is (suc k) n)) (λ f. lowest-no k n f)

module _ (o1 : List Float) (vc1 : ℕ) (o2 : List Float) (vc2 : ℕ) (v : ViewData) where
  abbrev first : ℕ
  first = first_moved o1 vc1 o2 vc2 v

  lowest : Lowest (same_at o1 vc1 o2 vc2 v) 0 (vertex_count v) first
  unfolding first_moved
  lowest = lowest-is (same_at o1 vc1 o2 vc2 v) 0 (vertex_count v)

  -- unmoved: every vertex has the same bits; and the other way
  pub unmoved-each : first ≡ vertex_count v → (k : ℕ) → k < vertex_count v → same_at o1 vc1 o2 vc2 v k ≡ true
  unmoved-each e k h = lowest.passed k (omega arith) (omega arith)

  pub each-unmoved : ((k : ℕ) → k < vertex_count v → same_at o1 vc1 o2 vc2 v k ≡ true) → first ≡ vertex_count v
  unfolding first_moved
  each-unmoved h = none_below (same_at o1 vc1 o2 vc2 v) (vertex_count v) (at_each (same_at o1 vc1 o2 vc2 v) (vertex_count v) h)

  -- moved: the number given is a vertex that differs, the lowest one
  pub moved-differs : first < vertex_count v → same_at o1 vc1 o2 vc2 v first ≡ false
  moved-differs h = lowest.fails (omega arith)

  pub moved-lowest : (k : ℕ) → k < first → same_at o1 vc1 o2 vc2 v k ≡ true
  moved-lowest k h = lowest.passed k (omega arith) h

  -- it is none of the view's own: neither the first vertex nor the last
  pub moved-inner : first < vertex_count v → (0 < first) × (first ≤ v.end_index_offset)
  moved-inner h = (inner-from first (moved-differs h), inner-most first (moved-differs h) h)
    where
      head : same_at o1 vc1 o2 vc2 v 0 ≡ true
      head = each_at (same_at o1 vc1 o2 vc2 v) 1 0 (moved-begin o1 vc1 o2 vc2 v) (omega arith)

      tail : same_at o1 vc1 o2 vc2 v (v.end_index_offset + 1) ≡ true
      tail = last-alike o1 vc1 o2 vc2 v

      inner-from : (m : ℕ) → same_at o1 vc1 o2 vc2 v m ≡ false → 0 < m
      inner-from m f = by-test (eqb m 0) (λ t. clash (same_at o1 vc1 o2 vc2 v m) (ap (same_at o1 vc1 o2 vc2 v) (eqb-true m 0 t) ∙ head) f) (λ s. let d = eqb-false m 0 s in omega (arith, d))

      inner-most : (m : ℕ) → same_at o1 vc1 o2 vc2 v m ≡ false → m < vertex_count v → m ≤ v.end_index_offset
      inner-most m f l =
          by-test (eqb m (v.end_index_offset + 1))
          (λ t. clash (same_at o1 vc1 o2 vc2 v m) (ap (same_at o1 vc1 o2 vc2 v) (eqb-true m (v.end_index_offset + 1) t) ∙ tail) f)
          (λ s. let d = eqb-false m (v.end_index_offset + 1) s in omega (arith, d))

  -- with offset 0 nothing can have moved, whatever the outlines
  pub offset-0-unmoved : v.end_index_offset ≡ 0 → first ≡ vertex_count v
  offset-0-unmoved z = sym (moved_none o1 vc1 o2 vc2 v 1 (vertex_count v) (moved-begin o1 vc1 o2 vc2 v) (omega arith) (omega arith) refl)

-- on one outline nothing has moved
pub itself-unmoved : (o : List Float) (vc : ℕ) (v : ViewData) → first_moved o vc o vc v ≡ vertex_count v
itself-unmoved o vc v = each-unmoved o vc o vc v same
  where
    same : (k : ℕ) → k < vertex_count v → same_at o vc o vc v k ≡ true
    same k h = alike o vc o vc v k refl

-- ---- bit for bit is number for number, of numbers that the format holds, as all in memory are
abbrev pub Held : List Float → Type 0
Held l = all_of (fits binary64) l ≡ true

bits-equal : (a b : Float) → fits binary64 a ≡ true → fits binary64 b ≡ true → same_bits a b ≡ true → a ≡ b
unfolding same_bits
bits-equal a b h k e =
    sym (of_bits-to_bits binary64 a (rw h tt)) ∙ ap (of_bits binary64) (eqb-true (to_bits binary64 a) (to_bits binary64 b) e) ∙ of_bits-to_bits binary64 b (rw k tt)

fits-even : (x : Float) → fits binary64 (neg x) ≡ fits binary64 x
unfolding fits neg
fits-even nan = refl
fits-even (inf s) = refl
fits-even (fin s zero e) = refl
fits-even (fin s (suc m) e) = refl

fits-zero : fits binary64 +0 ≡ true
unfolding fits of_bits
fits-zero = refl

vertex : Float → Float → Float → Vertex
vertex x y b = record { x = x; y = y; bulge = b }

vertex-equal : (a b : Vertex) → a.x ≡ b.x → a.y ≡ b.y → a.bulge ≡ b.bulge → a ≡ b
unfolding vertex
vertex-equal a b x y z = ap (λ (n : Float). vertex n a.y a.bulge) x ∙ ap (λ (n : Float). vertex b.x n a.bulge) y ∙ ap (λ (n : Float). vertex b.x b.y n) z

numbers-equal : (a b : Vertex) → vertex_numbers a ≡ vertex_numbers b → a ≡ b
numbers-equal a b e = vertex-equal a b (cc) (cc) (cc)

-- equal rows of items, one more: the rows before, and the items
module _ (f g : ℕ → List Float) (wide : (n : ℕ) → length (f n) ≡ 3) (wide' : (n : ℕ) → length (g n) ≡ 3) (n : ℕ) (e : first_items f (suc n) ≡ first_items g (suc n)) where
  items-before : first_items f n ≡ first_items g n
  unfolding first_items
  items-before =
      sym (take_at (first_items f n) (f n) (3 * n) (items-length f 3 wide n)) ∙ ap (take (3 * n)) e ∙ take_at (first_items g n) (g n) (3 * n) (items-length g 3 wide' n)

  items-last : f n ≡ g n
  unfolding first_items
  items-last = sym (drop_at (first_items f n) (f n) (3 * n) (items-length f 3 wide n)) ∙ ap (drop (3 * n)) e ∙ drop_at (first_items g n) (g n) (3 * n) (items-length g 3 wide' n)

items-same : (f g : ℕ → List Float) (n : ℕ) → ((k : ℕ) → k < n → f k ≡ g k) → first_items f n ≡ first_items g n
unfolding first_items
items-same f g zero h = refl
items-same f g (suc n) h = rw (items-same f g n (λ k l. h k (omega arith)), h n (omega arith))

same-items : (f g : ℕ → List Float) → ((n : ℕ) → length (f n) ≡ 3) → ((n : ℕ) → length (g n) ≡ 3) → (n : ℕ) → first_items f n ≡ first_items g n → (k : ℕ) → k < n → f k ≡ g k
same-items f g wide wide' zero e k h = absurd (omega arith)
same-items f g wide wide' (suc n) e k h =
    by-test (eqb k n) (λ t. subst (λ (i : ℕ). f i ≡ g i) (sym (eqb-true k n t)) (items-last f g wide wide' n e))
    (λ s. let d = eqb-false k n s in same-items f g wide wide' n (items-before f g wide wide' n e) k (omega (arith, d)))

module _ (o1 : List Float) (vc1 : ℕ) (o2 : List Float) (vc2 : ℕ) (v : ViewData) (fit1 : Fit o1 vc1 v) (fit2 : Fit o2 vc2 v) (held1 : Held o1) (held2 : Held o2) (own : Held (view_numbers v)) where
  same-equal : (k : ℕ) → same_at o1 vc1 o2 vc2 v k ≡ true → vertex_of o1 vc1 v k ≡ vertex_of o2 vc2 v k
  unfolding same_at same_vertex
  same-equal k e =
      let a = vertex_of o1 vc1 v k in
      let b = vertex_of o2 vc2 v k in
      let f = vertex-passes (fits binary64) fits-even fits-zero o1 vc1 v fit1 held1 own k in
      let g = vertex-passes (fits binary64) fits-even fits-zero o2 vc2 v fit2 held2 own k in
      let x = same_bits a.x b.x in
      let y = same_bits a.y b.y in
      let z = same_bits a.bulge b.bulge in
      let later : (y && z) ≡ true = and_right x (y && z) e in
      vertex-equal a b (bits-equal a.x b.x f.xs g.xs (and_left x (y && z) e)) (bits-equal a.y b.y f.ys g.ys (and_left y z later))
      (bits-equal a.bulge b.bulge f.bulges g.bulges (and_right y z later))

  -- unmoved if and only if every vertex of the view is the same
  pub unmoved-same : first_moved o1 vc1 o2 vc2 v ≡ vertex_count v → (k : ℕ) → k < vertex_count v → vertex_of o1 vc1 v k ≡ vertex_of o2 vc2 v k
  unmoved-same e k h = same-equal k (unmoved-each o1 vc1 o2 vc2 v e k h)

  pub same-unmoved : ((k : ℕ) → k < vertex_count v → vertex_of o1 vc1 v k ≡ vertex_of o2 vc2 v k) → first_moved o1 vc1 o2 vc2 v ≡ vertex_count v
  same-unmoved h = each-unmoved o1 vc1 o2 vc2 v (λ k l. alike o1 vc1 o2 vc2 v k (h k l))

  -- the same of the lists that `mask_view_vertices` writes
  pub unmoved-lists : first_moved o1 vc1 o2 vc2 v ≡ vertex_count v → view_vertices o1 vc1 v ≡ view_vertices o2 vc2 v
  unmoved-lists e = items-same (vertex_item o1 vc1 v) (vertex_item o2 vc2 v) (vertex_count v) (λ k h. ap vertex_numbers (unmoved-same e k h))

  pub lists-unmoved : view_vertices o1 vc1 v ≡ view_vertices o2 vc2 v → first_moved o1 vc1 o2 vc2 v ≡ vertex_count v
  lists-unmoved e =
      same-unmoved (λ k h. numbers-equal (vertex_of o1 vc1 v k) (vertex_of o2 vc2 v k) (same-items (vertex_item o1 vc1 v) (vertex_item o2 vc2 v) (λ n. refl) (λ n. refl) (vertex_count v) e k h))
