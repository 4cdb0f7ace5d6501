-- A number that is known to be whole, or zero, is read by the machine's own cast, which is defined for whole numbers other than -0.
use Rattle.std.specs.Prelude.{◌≡◌, ℕ, zero, suc, ◌+◌, ◌-◌, ◌*◌, ◌/◌, ◌%◌, ◌^◌, ◌<◌, ◌≤◌, min, Bool, true, false, cond, not, ◌&&◌, ◌||◌, T, List, [], ◌∷◌, length, ℤ, pos, neg_ℤ, ◌==◌, ◌≢◌, nat_le, nat_lt, slice_index_or, unsigned_abs, refl, Float}
use Rattle.std.proofs.Math.Bool.{true≢false}
use Rattle.std.proofs.lemmas.Bool.{false≢true, eqb-false}
use Rattle.std.proofs.Common.{sym, ap, subst, ◌∙◌, le_trans, mul-one, mul_right_comm, mul-div_cancel, arith, leb→le, le→leb, lt→ltb, to_z, of_z, to_z-of_z, eqb-true, ne_eqb}
use Rattle.std.proofs.Math.Nat.{zero-mul, mul-mod_left, eq_of_mul-eq-mul_right, zero-div}
use Rattle.std.specs.Float.{nan, inf, fin}
use Rattle.std.specs.Float.Ieee.{binary64, prec, up, down, le, lt, eq, of_bits, of_int, to_signed, round, whole, in_signed}
use Rattle.std.specs.Float.Ieee.Fits.{down_pos, and_i, eq→eqb}
use Rattle.std.specs.Float.Ieee.Exact.{HasValue}
use Rattle.std.specs.Float.Ieee.Back.{round_whole}
use Rattle.std.specs.Int.{w64}
use Rattle.basis.specs.Choice.{by-test, and_left, and_right}
use Rattle.basis.specs.Number.{+0}
use Rattle.basis.specs.All.{all_of, all-at}
use Rattle.basis.specs.EachLaws.{each_at}
use Rattle.outline.specs.declared.point.Vertex.{Vertex}
use Rattle.outline.specs.Points.{at_point}
use Rattle.outline.specs.Outline.{vertex_at}
use Rattle.slice.specs.Slice.{shape_at}
use Rattle.whole.specs.Fit.{Near}
use Rattle.whole.specs.FitLaws.{fit}
use Rattle.straight_entries.specs.RangeLaws.{reach_near}
use Rattle.straight_cut.specs.Microdegrees.{reach, is_whole, value_of, readable}
use Rattle.straight_cut.specs.Straight.{straight_vertex, straight_shape, straight_outline, whole_points, straight_laps}
use Rattle.straight_cut.specs.MicrodegreesLaws.{value-near, value-yes}

-- ---- zero
zero_of : (s : Bool) (m : ℕ) (e : ℤ) → eq (fin s m e) +0 ≡ true → m * up e ≡ 0
unfolding eq of_bits
zero_of s m e q =
    let x : m * up e * 1 ≡ 0 * 1 * down e = eqb-true (m * up e * 1) (0 * 1 * down e) (and_left (m * up e * 1 == 0 * 1 * down e) _ q) in
    sym (mul-one (m * up e)) ∙ x ∙ zero-mul (down e)

is_zero : (s : Bool) (m : ℕ) (e : ℤ) → m * up e ≡ 0 → eq (fin s m e) +0 ≡ true
unfolding eq of_bits
is_zero true m e z = (λ i. ((mul-one (m * up e) ∙ z) i == zero-mul (down e) i) && (false || (mul-one (m * up e) ∙ z) i == 0))
is_zero false m e z = (λ i. ((mul-one (m * up e) ∙ z) i == zero-mul (down e) i) && (true || (mul-one (m * up e) ∙ z) i == 0))

zero-read : (x : Float) → eq x +0 ≡ true → to_signed 63 x ≡ pos 0
unfolding eq to_signed
zero-read nan q = absurd (false≢true q)
zero-read (inf s) q = absurd (false≢true (unfold of_bits in q))
zero-read (fin s m e) q =
    let c : m * up e / down e ≡ 0 = ap (λ (k : ℕ). k / down e) (zero_of s m e q) ∙ zero-div (down e) in
    go s c
  where
    go : (t : Bool) → m * up e / down e ≡ 0 → cond t (neg_ℤ (pos (min (m * up e / down e) (2 ^ 63)))) (pos (min (m * up e / down e) (2 ^ 63 - 1))) ≡ pos 0
    go true c = ap (λ (k : ℕ). neg_ℤ (pos (min k (2 ^ 63)))) c
    go false c = ap (λ (k : ℕ). pos (min k (2 ^ 63 - 1))) c

pub known-zero : (x : Float) → eq x +0 ≡ true → pos 0 ≡ value_of x
unfolding value_of
known-zero x q = sym (by-test (is_whole x) (λ t. (λ i. cond (t i) (to_signed 63 x) (pos 0)) ∙ zero-read x q) (λ t. (λ i. cond (t i) (to_signed 63 x) (pos 0))))

-- ---- a float that compares equal to a whole number has no fraction
nothing-cut : (m : ℕ) (e : ℤ) (y : Float) (s t : Bool) (c : ℕ) → HasValue y t c 1 → eq y (fin s m e) ≡ true → m * up e ≡ c * down e
unfolding eq
nothing-cut m e nan s t c v q = absurd v
nothing-cut m e (inf u) s t c v q = absurd v
nothing-cut m e (fin t' m' e') s t c v q =
    let x : m' * up e' * down e ≡ m * up e * down e' = eqb-true (m' * up e' * down e) (m * up e * down e') (and_left (m' * up e' * down e == m * up e * down e') _ q) in
    let y : m' * up e' ≡ c * down e' = sym (mul-one (m' * up e')) ∙ v.1 in
    eq_of_mul-eq-mul_right (down e') (down_pos e') (m * up e) (c * down e) (sym x ∙ ap (λ (k : ℕ). k * down e) y ∙ mul_right_comm c (down e') (down e))

module _ (m : ℕ) (e : ℤ) (c : ℕ) (q : m * up e ≡ c * down e) (h : c ≤ 400000000) where
  cut : m * up e / down e ≡ c
  cut = ap (λ (k : ℕ). k / down e) q ∙ mul-div_cancel c (down_pos e)

  rest : m * up e % down e ≡ 0
  rest = ap (λ (k : ℕ). k % down e) q ∙ mul-mod_left c (down e)

  low : (b : ℕ) → 400000000 < b → m * up e / down e < b
  low b k = omega (arith, cut)

  counted : T (m * up e % down e == 0 && nat_le (m * up e / down e) (2 ^ prec binary64))
  counted = and_i (m * up e % down e == 0) (nat_le (m * up e / down e) (2 ^ prec binary64)) (eq→eqb rest) (le→leb _ _ (subst (λ (k : ℕ). k ≤ 2 ^ prec binary64) (sym cut) (le_trans h (leb→le 400000000 _ tt))))

  in-positive : T (in_signed binary64 63 (fin false m e))
  unfolding in_signed whole
  in-positive =
      and_i ((m * up e % down e == 0 && nat_le (m * up e / down e) (2 ^ prec binary64)) && true) (nat_lt (m * up e / down e) (2 ^ 63)) (and_i (m * up e % down e == 0 && nat_le (m * up e / down e) (2 ^ prec binary64)) true counted tt)
      (lt→ltb _ _ (low (2 ^ 63) (leb→le 400000001 _ tt)))

  in-negative : T (not (m == 0)) → T (in_signed binary64 63 (fin true m e))
  unfolding in_signed whole
  in-negative n =
      and_i ((m * up e % down e == 0 && nat_le (m * up e / down e) (2 ^ prec binary64)) && not (m == 0)) (nat_le (m * up e / down e) (2 ^ 63))
      (and_i (m * up e % down e == 0 && nat_le (m * up e / down e) (2 ^ prec binary64)) (not (m == 0)) counted n) (le→leb _ _ (subst (λ (k : ℕ). k ≤ 2 ^ 63) (sym cut) (le_trans h (leb→le 400000000 _ tt))))

-- ---- a whole number other than zero
size_of : (n : ℕ) → unsigned_abs (neg_ℤ (pos n)) ≡ n
size_of zero = refl
size_of (suc n) = refl

positive-whole : (m : ℕ) (e : ℤ) (c : ℕ) → c ≤ 400000000 → eq (of_int binary64 (pos c)) (fin false m e) ≡ true → T (in_signed binary64 63 (fin false m e))
positive-whole m e c h q = in-positive m e c (nothing-cut m e (round binary64 false c 1) false false c (round_whole binary64 false c (le_trans h (leb→le 400000000 _ tt))) (unfold of_int in q)) h

no-nothing : (m : ℕ) (e : ℤ) → (m * up e ≢ 0) → T (not (m == 0))
no-nothing m e n = subst (λ (b : Bool). T (not b)) (sym (ne_eqb m 0 (λ z. n (ap (λ (k : ℕ). k * up e) z ∙ zero-mul (up e))))) tt

negative-whole : (m : ℕ) (e : ℤ) (c : ℕ) → c ≤ 400000000 → eq (of_int binary64 (neg_ℤ (pos c))) (fin true m e) ≡ true → eq (fin true m e) +0 ≡ false → T (in_signed binary64 63 (fin true m e))
negative-whole m e zero h q z =
    let k : m * up e ≡ 0 = nothing-cut m e (round binary64 false 0 1) true false 0 (round_whole binary64 false 0 (leb→le 0 _ tt)) (unfold of_int in q) ∙ zero-mul (down e) in
    absurd (true≢false (sym (is_zero true m e k) ∙ z))
negative-whole m e (suc c) h q z =
    in-negative m e (suc c) (nothing-cut m e (round binary64 true (suc c) 1) true true (suc c) (round_whole binary64 true (suc c) (le_trans h (leb→le 400000000 _ tt))) (unfold of_int in q)) h
    (no-nothing m e (λ k. true≢false (sym (is_zero true m e k) ∙ z)))

whole-near : (x : Float) → is_whole x ≡ true → unsigned_abs (to_signed 63 x) ≤ 400000000
unfolding is_whole
whole-near x w = (reach_near 400000000 (to_signed 63 x) (and_right (eq (of_int binary64 (to_signed 63 x)) x) _ (and_right (reach x) _ w))).near

whole_same : (x : Float) → is_whole x ≡ true → eq (of_int binary64 (to_signed 63 x)) x ≡ true
unfolding is_whole
whole_same x w = and_left (eq (of_int binary64 (to_signed 63 x)) x) _ (and_right (reach x) _ w)

read_small : (a b : ℕ) → min a b ≤ 400000000 → 400000000 < b → (a ≤ 400000000) × (min a b ≡ a)
read_small a b h k = (omega arith, omega arith)

pub known_in : (x : Float) → is_whole x ≡ true → eq x +0 ≡ false → T (in_signed binary64 63 x)
known_in nan w z = absurd (false≢true (unfold is_whole reach le lt eq in w))
known_in (inf true) w z = absurd (false≢true (unfold is_whole reach le lt eq in w))
known_in (inf false) w z = absurd (false≢true (unfold is_whole reach le lt eq in w))
known_in (fin false m e) w z =
    let c = m * up e / down e in
    let r = read_small c (2 ^ 63 - 1) (unfold to_signed in whole-near (fin false m e) w) (leb→le 400000001 _ tt) in
    positive-whole m e c r.0 (subst (λ (k : ℕ). eq (of_int binary64 (pos k)) (fin false m e) ≡ true) r.1 (unfold to_signed in whole_same (fin false m e) w))
known_in (fin true m e) w z =
    let c = m * up e / down e in
    let n : min c (2 ^ 63) ≤ 400000000 = subst (λ (k : ℕ). k ≤ 400000000) (size_of (min c (2 ^ 63))) (unfold to_signed in whole-near (fin true m e) w) in
    let r = read_small c (2 ^ 63) n (leb→le 400000001 _ tt) in
    negative-whole m e c r.0 (subst (λ (k : ℕ). eq (of_int binary64 (neg_ℤ (pos k))) (fin true m e) ≡ true) r.1 (unfold to_signed in whole_same (fin true m e) w)) z

pub known_read : (x : Float) → is_whole x ≡ true → to_z w64 (of_z w64 (to_signed 63 x)) ≡ value_of x
known_read x w =
    let y = value-yes x true (sym w) (to_signed 63 x) refl refl in
    let n : Near 400000000 (to_signed 63 x) = subst (Near 400000000) (sym y) (value-near x) in
    to_z-of_z (fit n tt) ∙ y

-- ---- what a number that is readable is read as
pub known-other : (x : Float) → readable x ≡ true → eq x +0 ≡ false → is_whole x ≡ true
unfolding readable
known-other x r z = by-test (is_whole x) (λ t. t) (λ t. absurd (false≢true (sym (λ i. t i || z i) ∙ r)))

-- of a vertex that was read
pub known-x : (v w : Vertex) → v ≡ w → readable w.x ≡ true → readable v.x ≡ true
known-x v w e r = ap (λ (u : Vertex). readable u.x) e ∙ r

pub known-y : (v w : Vertex) → v ≡ w → readable w.y ≡ true → readable v.y ≡ true
known-y v w e r = ap (λ (u : Vertex). readable u.y) e ∙ r

-- ---- every number of a straight mask is readable
pub all_from : (l : List Float) → ((k : ℕ) → k < length l → readable (slice_index_or l k nan) ≡ true) → all_of readable l ≡ true
unfolding all_of
all_from [] f = refl
all_from (x ∷ l) f = rw (f 0 (omega arith)) (all_from l (λ k h. f (suc k) (omega arith)))

whole-readable : (x : Float) → is_whole x ≡ true → readable x ≡ true
unfolding readable
whole-readable x e = (λ i. e i || eq x +0)

flat-readable : (x : Float) → eq x +0 ≡ true → readable x ≡ true
unfolding readable
flat-readable x e = by-test (is_whole x) (λ t. (λ i. t i || eq x +0)) (λ t. (λ i. t i || e i))

record Three (v : Vertex) : Type 0 where
  at_x : readable v.x ≡ true
  at_y : readable v.y ≡ true
  at-bulge : readable v.bulge ≡ true

vertex-readable : (v : Vertex) → straight_vertex v ≡ true → Three v
unfolding straight_vertex
vertex-readable v e =
    let a = and_left (is_whole v.x && is_whole v.y) (eq v.bulge +0) e in
    record {
      at_x = whole-readable v.x (and_left (is_whole v.x) _ a);
      at_y = whole-readable v.y (and_right (is_whole v.x) _ a);
      at-bulge = flat-readable v.bulge (and_right (is_whole v.x && is_whole v.y) _ e);
    }

-- element k of a list of items of w numbers is number k % w of item k / w
pub outline-readable : (o : List Float) (vc : ℕ) → length o ≡ 3 * vc → straight_outline o ≡ true → all_of readable o ≡ true
unfolding straight_outline vertex_at
outline-readable o vc l e = all_from o each
  where
    each : (k : ℕ) → k < length o → readable (slice_index_or o k nan) ≡ true
    each k h =
        let i = k / 3 in
        let t = vertex-readable (vertex_at o i) (each_at (λ j. straight_vertex (vertex_at o j)) (length o / 3) i e (omega arith)) in
        by-test (k % 3 == 0) (λ z. let q : 3 * i ≡ k = omega (arith, eqb-true (k % 3) 0 z) in subst (λ (j : ℕ). readable (slice_index_or o j nan) ≡ true) q t.at_x)
        (λ n. by-test (k % 3 == 1) (λ z. let q : 3 * i + 1 ≡ k = omega (arith, eqb-true (k % 3) 1 z) in subst (λ (j : ℕ). readable (slice_index_or o j nan) ≡ true) q t.at_y)
        (λ m. let q : 3 * i + 2 ≡ k = omega (arith, eqb-false (k % 3) 0 n, eqb-false (k % 3) 1 m) in subst (λ (j : ℕ). readable (slice_index_or o j nan) ≡ true) q t.at-bulge))

pub points-readable : (l : List Float) → whole_points l ≡ true → all_of readable l ≡ true
points-readable l e = all_from l (λ k h. whole-readable (slice_index_or l k nan) (all-at is_whole l k nan e h))

pub laps-readable : (l : List Float) (laps : ℕ) → length l ≡ 6 * laps → straight_laps l ≡ true → all_of readable l ≡ true
unfolding straight_laps straight_shape shape_at
laps-readable l laps n e = all_from l each
  where
    two : (j : ℕ) → j < length l / 6 → Three (shape_at l j).updated_start × Three (at_point (shape_at l j).end_point (shape_at l j).end_bulge)
    two j h =
        let s = each_at (λ i. straight_shape (shape_at l i)) (length l / 6) j e h in
        (vertex-readable _ (and_left (straight_vertex (shape_at l j).updated_start) _ s), vertex-readable _ (and_right (straight_vertex (shape_at l j).updated_start) _ s))

    move : (a k : ℕ) → a ≡ k → readable (slice_index_or l a nan) ≡ true → readable (slice_index_or l k nan) ≡ true
    move a k q r = subst (λ (j : ℕ). readable (slice_index_or l j nan) ≡ true) q r

    each : (k : ℕ) → k < length l → readable (slice_index_or l k nan) ≡ true
    each k h =
        let i = k / 6 in
        let t = two i (omega arith) in
        by-test (k % 6 == 0) (λ z. move (6 * i) k (omega (arith, eqb-true (k % 6) 0 z)) t.0.at_x)
        (λ a. by-test (k % 6 == 1) (λ z. move (6 * i + 1) k (omega (arith, eqb-true (k % 6) 1 z)) t.0.at_y)
        (λ b. by-test (k % 6 == 2) (λ z. move (6 * i + 2) k (omega (arith, eqb-true (k % 6) 2 z)) t.0.at-bulge)
        (λ c. by-test (k % 6 == 3) (λ z. move (6 * i + 3) k (omega (arith, eqb-true (k % 6) 3 z)) t.1.at-bulge)
        (λ d. by-test (k % 6 == 4) (λ z. move (6 * i + 4) k (omega (arith, eqb-true (k % 6) 4 z)) t.1.at_x)
        (λ f. move (6 * i + 5) k (omega (arith, eqb-false (k % 6) 0 a, eqb-false (k % 6) 1 b, eqb-false (k % 6) 2 c, eqb-false (k % 6) 3 d, eqb-false (k % 6) 4 f)) t.1.at_y)))))

pub ruleset knowns = (known-x, known-y)
