-- Moved far out, rounded, and kept off: the order of coordinates is kept.
use Prim.Native.Nat.compare
use Prim.Native.Nat.{ℕ, zero, suc, ◌+◌, ◌-◌, ◌*◌, ◌^◌, ◌≤◌, ◌<◌}
use Rattle.std.proofs.Common.{zero-mul, mul-one, mul_assoc, mul_left_comm, add-mul, mul-le-mul_right, arith, true≢false, ap, ◌∙◌}
use Rattle.std.proofs.Math.Nat.{zero-div, zero-mod, mul-pos, mul_comm, mul-sub}
use Rattle.std.specs.Prelude.{Bool, cond, ◌&&◌, ◌≡◌, ltb, ℤ, pos, Float}
use Rattle.std.proofs.Math.Bool.{true, false}
use Rattle.std.specs.Bool.{beq}
use Rattle.std.proofs.Math.Path.{refl, sym}
use Rattle.std.specs.Float.Ieee.{nan, prec, emax, low, up, down, odd, units, round, sum, add, below, lt, le, of_bits, binary64}
use Rattle.std.specs.Float.{inf, fin, Format}
use Rattle.std.specs.Float.Ieee.Bits.{is_true}
use Rattle.std.specs.Float.Ieee.Order.{round_mono}
use Rattle.std.specs.Float.Ieee.Fits.{up_pos, down_pos}
use borrow.Author.Tests.{ltb-true, ltb-false, lt-ltb}
use Rattle.basis.specs.Choice.{by-test, clash}
use Rattle.basis.specs.Number.{+0}
use Rattle.basis.specs.OrderLaws.{Finite, Number, le_not_lt, lt_not_le, le_trans, le_refl}
use Rattle.stitch_cell.specs.Cell.{kept_off}
use Rattle.stitch_cell.specs.BitsLaws.{Clear}

-- ---- above 0
abbrev pub Ahead : Float → Type 0
Ahead nan = ⊥
Ahead (inf true) = ⊥
Ahead (inf false) = Unit {0}
Ahead (fin true m e) = ⊥
Ahead (fin false m e) = 0 < m

pub ahead : (x : Float) → lt +0 x ≡ true → Ahead x
unfolding lt of_bits
ahead nan h = true≢false (sym h)
ahead (inf true) h = true≢false (sym h)
ahead (inf false) h = tt
ahead (fin true m e) h = true≢false (sym h)
ahead (fin false zero e) h = absurd (omega (arith, ltb-true (0 * 1 * down e) (0 * up e * 1) h, zero-mul (up e)))
ahead (fin false (suc m) e) h = omega arith

-- ---- what `round` gives is a finite float of the sign, or the infinity
module _ (P : Float → Type 0) (s : Bool) (finite : (m : ℕ) (e : ℤ) → P (fin s m e)) (infinite : P (inf s)) where
  odd_is : (d q k l : ℕ) → P (odd d s q k l)
  unfolding odd
  odd_is d zero k l = finite _ _
  odd_is d (suc q) k l = finite _ _

  units-is : (f : Format) (q k : ℕ) → P (units f s q k)
  unfolding units
  units-is f q k = go (ltb (q * 2 ^ k) (2 ^ (low f + suc (emax f))))
    where
      go : (t : Bool) → P (cond t (odd (suc (prec f)) s q k (low f)) (inf s))
      go true = odd_is (suc (prec f)) q k (low f)
      go false = infinite

  round_is : (f : Format) (a b : ℕ) → P (round f s a b)
  unfolding round
  round_is f a b = units-is f _ _

round_number : (f : Format) (s : Bool) (a b : ℕ) → Number (round f s a b)
round_number f s a b = round_is Number s (λ m e. tt) tt f a b

round-zero : (c : ℕ) → 0 < c → round binary64 false 0 c ≡ fin false 0 (pos 0)
unfolding round
round-zero zero h = absurd (omega arith)
round-zero (suc c) h = simp (zero-div, zero-mod, mul-one, compare.zero-suc)

sum_number : (f : Format) (s t : Bool) (a b c : ℕ) → Number (sum f s a t b c)
unfolding sum
sum_number f s t a b c = go (beq s t) (ltb a b)
  where
    go : (u v : Bool) → Number (cond u (round f s (a + b) c) (cond v (round f t (b - a) c) (round f (s && ltb b a) (a - b) c)))
    go true v = round_number f _ _ _
    go false true = round_number f _ _ _
    go false false = round_number f _ _ _

-- a number moved is a number
pub add-number : (p far : Float) → Number p → Finite far → Number (add binary64 p far)
unfolding add
add-number nan far p q = absurd p
add-number (inf s) nan p q = absurd q
add-number (inf s) (inf t) p q = absurd q
add-number (inf s) (fin t n d) p q = tt
add-number (fin s m e) nan p q = absurd q
add-number (fin s m e) (inf t) p q = absurd q
add-number (fin s m e) (fin t n d) p q = sum_number binary64 s t (m * up e * down d) (n * up d * down e) (down e * down d)

-- ---- the order, with the infinities

-- a comparison that passes is of two numbers
le-nan : (x : Float) → le x nan ≡ false
unfolding le
le-nan nan = refl
le-nan (inf s) = refl
le-nan (fin s m e) = refl

pub number-left : (x y : Float) → le x y ≡ true → Number x
unfolding le
number-left nan y h = absurd (true≢false (sym h))
number-left (inf s) y h = tt
number-left (fin s m e) y h = tt

pub number-right : (x y : Float) → le x y ≡ true → Number y
number-right x nan h = clash (le x nan) h (le-nan x)
number-right x (inf s) h = tt
number-right x (fin s m e) h = tt

pub le-first : (x : Float) → Number x → le (inf true) x ≡ true
unfolding le
le-first nan p = absurd p
le-first (inf true) p = refl
le-first (inf false) p = refl
le-first (fin s m e) p = refl

pub le-last : (x : Float) → Number x → le x (inf false) ≡ true
unfolding le
le-last nan p = absurd p
le-last (inf true) p = refl
le-last (inf false) p = refl
le-last (fin s m e) p = refl

minus-mul : (a b c : ℕ) → (a - b) * c ≡ a * c - b * c
minus-mul a b c = mul_comm (a - b) c ∙ mul-sub c a b ∙ ap (λ (x : ℕ). x - c * b) (mul_comm c a) ∙ ap (λ (x : ℕ). a * c - x) (mul_comm c b)

module _ (near : Float) (h : lt +0 near ≡ true) where
  under : (m : ℕ) (e : ℤ) → (x : Float) → Ahead x → lt (fin true m e) x ≡ true
  unfolding lt
  under m e nan p = absurd p
  under m e (inf true) p = absurd p
  under m e (inf false) p = refl
  under m e (fin true n d) p = absurd p
  under m e (fin false n d) p = lt-ltb 0 (m * up e * down d + n * up d * down e) (let g = mul-pos (mul-pos p (up_pos d)) (down_pos e) in omega arith)

  under-inf : (x : Float) → Ahead x → lt (inf true) x ≡ true
  unfolding lt
  under-inf nan p = absurd p
  under-inf (inf true) p = absurd p
  under-inf (inf false) p = refl
  under-inf (fin s n d) p = refl

  below-near : (f : Format) (a c : ℕ) → lt (round f true a c) near ≡ true
  below-near f a c = round_is (λ (x : Float). lt x near ≡ true) true (λ m e. under m e near (ahead near h)) (under-inf near (ahead near h)) f a c

  ahead-clear : (x : Float) → Ahead x → Clear x
  ahead-clear nan p = p
  ahead-clear (inf true) p = p
  ahead-clear (inf false) p = tt
  ahead-clear (fin true m e) p = p
  ahead-clear (fin false m e) p = tt

  self : (x : Float) → Ahead x → le x x ≡ true
  self nan p = absurd p
  self (inf true) p = absurd p
  self (inf false) p = unfold le in refl
  self (fin s m e) p = le_refl (fin s m e) tt

  -- ---- kept off
  kept_near : (z : Float) → le near z ≡ false → kept_off near z ≡ near
  unfolding kept_off
  kept_near z e = rw e

  kept-it : (z : Float) → le near z ≡ true → kept_off near z ≡ z
  unfolding kept_off
  kept-it z e = rw e

  pub kept-mono : (z w : Float) → le z w ≡ true → le (kept_off near z) (kept_off near w) ≡ true
  kept-mono z w l =
      by-test (le near z)
      (λ a. rw (kept-it z a, kept-it w (le_trans near z w a l)) l)
      (λ a. by-test (le near w) (λ b. rw (kept_near z a, kept-it w b) b) (λ b. rw (kept_near z a, kept_near w b) (self near (ahead near h))))

  clear_of : (z : Float) → le near z ≡ true → Clear z
  clear_of nan e = number-right near nan e
  clear_of (inf true) e = clash (le near (inf true)) e (lt_not_le (inf true) near (under-inf near (ahead near h)))
  clear_of (inf false) e = tt
  clear_of (fin true m d) e = clash (le near (fin true m d)) e (lt_not_le (fin true m d) near (under m d near (ahead near h)))
  clear_of (fin false m d) e = tt

  pub kept-clear : (z : Float) → Clear (kept_off near z)
  kept-clear z = by-test (le near z) (λ e. rw (kept-it z e) (clear_of z e)) (λ e. rw (kept_near z e) (ahead-clear near (ahead near h)))

  -- ---- a sum kept off: its part above 0 is all that counts
  abbrev rise : Bool → ℕ → ℕ → ℕ
  rise false a b = a + b
  rise true a b = b - a

  sum_kept : (s : Bool) (a b c : ℕ) → 0 < c → kept_off near (sum binary64 s a false b c) ≡ kept_off near (round binary64 false (rise s a b) c)
  unfolding sum
  sum_kept false a b c C = refl
  sum_kept true a b c C =
      by-test (ltb a b) (λ e. rw e)
      (λ e. by-test (ltb b a)
      (λ g. let z : b - a ≡ 0 = omega (arith, ltb-true b a g) in
      rw (e, g, z, round-zero c C) (kept_near (round binary64 true (a - b) c) (lt_not_le _ near (below-near binary64 (a - b) c)) ∙ sym (kept_near (fin false 0 (pos 0)) (lt_not_le (fin false 0 (pos 0)) near (unfold of_bits in h)))))
      (λ g. let z : a - b ≡ b - a = omega (arith, ltb-false a b e, ltb-false b a g) in rw (e, g, z)))

  -- the order of the parts above 0, over one denominator, where X, Y and W are what the three numbers count over it
  abbrev Rises : Bool → Bool → ℕ → ℕ → Type 0
  Rises false false X Y = X ≤ Y
  Rises false true X Y = X + Y ≤ 0
  Rises true false X Y = Unit {0}
  Rises true true X Y = Y ≤ X

  rise-mono : (s t : Bool) (a b c a' b' c' X Y W : ℕ) → a * c' ≡ X → b * c' ≡ W → a' * c ≡ Y → b' * c ≡ W → Rises s t X Y → rise s a b * c' ≤ rise t a' b' * c
  rise-mono false false a b c a' b' c' X Y W p q u v h = omega (arith, add-mul a b c', add-mul a' b' c)
  rise-mono false true a b c a' b' c' X Y W p q u v h = omega (arith, add-mul a b c', minus-mul b' a' c)
  rise-mono true false a b c a' b' c' X Y W p q u v h = omega (arith, minus-mul b a c', add-mul a' b' c)
  rise-mono true true a b c a' b' c' X Y W p q u v h = omega (arith, minus-mul b a c', minus-mul b' a' c)

  rises : (s t : Bool) (x y k : ℕ) → below t y s x ≡ false → Rises s t (x * k) (y * k)
  rises false false x y k e = mul-le-mul_right k (ltb-false y x e)
  rises false true x y k e =
      let l = ltb-false 0 (y + x) e in
      let a : x ≡ 0 = omega arith in
      let b : y ≡ 0 = omega arith in
      rw (a, b, zero-mul) (omega arith)
  rises true false x y k e = tt
  rises true true x y k e = mul-le-mul_right k (ltb-false x y e)

  add-fin : (s t : Bool) (m n F : ℕ) (e d g : ℤ) → le (fin s m e) (fin t n d) ≡ true
      → le (kept_off near (add binary64 (fin s m e) (fin false F g))) (kept_off near (add binary64 (fin t n d) (fin false F g))) ≡ true
  unfolding add
  add-fin s t m n F e d g l =
      let A = m * up e in
      let N = n * up d in
      let B = F * up g in
      let E = down e in
      let D = down d in
      let G = down g in
      let C : 0 < E * G = mul-pos (down_pos e) (down_pos g) in
      let C' : 0 < D * G = mul-pos (down_pos d) (down_pos g) in
      let o : below t (N * E) s (A * D) ≡ false = (let q = le_not_lt (fin s m e) (fin t n d) l in unfold lt in q) in
      let r : rise s (A * G) (B * E) * (D * G) ≤ rise t (N * G) (B * D) * (E * G) =
      rise-mono s t (A * G) (B * E) (E * G) (N * G) (B * D) (D * G) (A * D * (G * G)) (N * E * (G * G)) (B * (D * E) * G)
      (simp (mul_assoc, mul_comm, mul_left_comm)) (simp (mul_assoc, mul_comm, mul_left_comm)) (simp (mul_assoc, mul_comm, mul_left_comm)) (simp (mul_assoc, mul_comm, mul_left_comm))
      (rises s t (A * D) (N * E) (G * G) o) in
      rw (sum_kept s (A * G) (B * E) (E * G) C, sum_kept t (N * G) (B * D) (D * G) C')
      (kept-mono (round binary64 false (rise s (A * G) (B * E)) (E * G)) (round binary64 false (rise t (N * G) (B * D)) (D * G))
      (is_true _ (round_mono binary64 (rise s (A * G) (B * E)) (E * G) (rise t (N * G) (B * D)) (D * G) C C' r)))

  -- ---- every number that is moved
  module _ (F : ℕ) (g : ℤ) where
    from_first : (q : Float) → Number q → le (kept_off near (add binary64 (inf true) (fin false F g))) (kept_off near (add binary64 q (fin false F g))) ≡ true
    unfolding add
    from_first q j = kept-mono (inf true) (add binary64 q (fin false F g)) (le-first (add binary64 q (fin false F g)) (add-number q (fin false F g) j tt))

    to_last : (p : Float) → Number p → le (kept_off near (add binary64 p (fin false F g))) (kept_off near (add binary64 (inf false) (fin false F g))) ≡ true
    unfolding add
    to_last p i = kept-mono (add binary64 p (fin false F g)) (inf false) (le-last (add binary64 p (fin false F g)) (add-number p (fin false F g) i tt))

    moved : (p q : Float) → Number p → Number q → le p q ≡ true → le (kept_off near (add binary64 p (fin false F g))) (kept_off near (add binary64 q (fin false F g))) ≡ true
    moved nan q i j l = absurd i
    moved (inf true) q i j l = from_first q j
    moved (inf false) nan i j l = absurd j
    moved (inf false) (inf true) i j l = unfold le in absurd (true≢false (sym l))
    moved (inf false) (inf false) i j l = to_last (inf false) tt
    moved (inf false) (fin t n d) i j l = unfold le in absurd (true≢false (sym l))
    moved (fin s m e) nan i j l = absurd j
    moved (fin s m e) (inf true) i j l = unfold le in absurd (true≢false (sym l))
    moved (fin s m e) (inf false) i j l = to_last (fin s m e) tt
    moved (fin s m e) (fin t n d) i j l = add-fin s t m n F e d g l

  pub moved-mono : (p q far : Float) → Finite far → Ahead far → le p q ≡ true → le (kept_off near (add binary64 p far)) (kept_off near (add binary64 q far)) ≡ true
  moved-mono p q nan k a l = absurd k
  moved-mono p q (inf s) k a l = absurd k
  moved-mono p q (fin true F g) k a l = absurd a
  moved-mono p q (fin false F g) k a l = moved F g p q (number-left p q l) (number-right p q l) l
