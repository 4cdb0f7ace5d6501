-- Document 01's numbers as whole numbers, and what its box says of their distance.
use Rattle.std.specs.Prelude.{ℕ, zero, suc, ◌+◌, ◌-◌, ◌*◌, ◌^◌, ◌≤◌, ◌<◌, Bool, true, false, ◌≡◌, refl, List, [], ◌∷◌, T, ℤ, pos, negsuc, neg_ℤ, nat_abs, Float}
use Rattle.std.proofs.Common.{sym, ap, subst, lt_of_le_of_lt, add-le-add, mul-pos, arith, ltb-true, lit≤, lit<, pow_pos}
use Rattle.std.specs.Float.{nan, inf, fin, Format, binary64}
use Rattle.std.specs.Float.Ieee.{of_bits, fits, low, up, down, sub, lt, le}
use Rattle.std.specs.Float.Ieee.Bits.{of_bits-fits}
use Rattle.basis.specs.All.{All, all_of}
use Rattle.basis.specs.Choice.{clash, and_left, and_right}
use Rattle.basis.specs.Number.{+0, one, limit, abs_f, in_span, within, all_within}
use Rattle.basis.specs.OrderLaws.{finite-within}
use Rattle.basis.specs.UnitLaws.{units_of, units-exact}
use Rattle.stitch_run.specs.Doubles.{Double, AllDouble}
use Rattle.join.specs.Join.{scaled, whole, two_to_minus, Small, Within}
use Rattle.join.specs.WholeLaws.{above, beneath, Number, fin-top, fin-bottom, le-whole}
use Rattle.join.specs.SpanLaws.{Positive, span-any, span-near}

-- ---- numbers that number 5 lets through

-- a finite f64, at most 2^n in magnitude
pub record InRange (n : ℕ) (x : Float) : Type 0 where
  pub number : Number binary64 x
  pub small : Small n x

limit-number : Number binary64 limit
unfolding of_bits
limit-number = record { held = of_bits-fits binary64 0x41d0_0000_0000_0000; finite = tt }

limit-whole : whole limit ≡ pos (2 ^ (30 + 1074))
unfolding scaled of_bits
limit-whole = refl

one_number : Number binary64 one
unfolding of_bits
one_number = record { held = of_bits-fits binary64 0x3ff0_0000_0000_0000; finite = tt }

one-whole : whole one ≡ pos (2 ^ 1074)
unfolding scaled of_bits
one-whole = refl

abs_neg : (a : ℤ) → nat_abs (neg_ℤ a) ≡ nat_abs a
abs_neg (pos zero) = refl
abs_neg (pos (suc n)) = refl
abs_neg (negsuc n) = refl

-- at most c, and not below 0
at_most : (a b : ℤ) (c : ℕ) → b ≡ pos c → above a + beneath b ≤ above b + beneath a → beneath a ≡ 0 → above a ≤ c
at_most a b c e h n = omega (arith, ap above e, ap beneath e)

-- the sign does not matter
unsigned : (s : Bool) (m : ℕ) (e : ℤ) → Double (fin s m e) → Double (fin false m e)
unfolding fits
unsigned s zero e d = d
unsigned s (suc m) e d = d

size-whole : (s : Bool) (m : ℕ) (e : ℤ) → nat_abs (whole (fin s m e)) ≡ above (whole (fin false m e))
unfolding scaled
size-whole false m e = refl
size-whole true m e = abs_neg (pos (units_of binary64 m e))

-- "magnitude of any coordinate or bulge: 0 to 2^30"
pub in-range : (x : Float) → Double x → within x ≡ true → InRange 30 x
unfolding within abs_f
in-range nan d h = absurd (finite-within nan h)
in-range (inf s) d h = absurd (finite-within (inf s) h)
in-range (fin s m e) d h =
    let x = fin false m e in
    let l = le-whole x limit (record { held = unsigned s m e d; finite = tt }) limit-number h in
    record {
      number = record { held = d; finite = tt };
      small = subst (λ (n : ℕ). n ≤ 2 ^ (30 + 1074)) (sym (size-whole s m e)) (at_most (whole x) (whole limit) (2 ^ (30 + 1074)) limit-whole l (fin-bottom binary64 m e false));
    }

-- the same of a list
pub looked : (l : List Float) → AllDouble l → all_within l ≡ true → All (InRange 30) l
unfolding all_of
looked [] d h = tt
looked (x ∷ l) d h = (in-range x d.0 (and_left (within x) (all_of within l) h), looked l d.1 (and_right (within x) (all_of within l) h))

pub smaller : (n : ℕ) (l : List Float) → All (InRange 30) l → All (Small n) l → All (InRange n) l
smaller n [] a h = tt
smaller n (x ∷ l) a h = (record { number = a.0.number; small = h.0 }, smaller n l a.1 h.1)

-- ---- tolerances that number 4 lets through

-- "position tolerance: above 0 to 1"
pub record InTolerance (t : Float) : Type 0 where
  pub positive : Positive binary64 t
  pub small : nat_abs (whole t) ≤ 2 ^ 1074

-- above 0: a numerator is not divided away
some-units : (f : Format) (m : ℕ) (e : ℤ) → T (fits f (fin false m e)) → 0 < m * up e → 0 < units_of f m e
some-units f m e d h = go (units_of f m e) (units-exact f false m e d) (mul-pos h (pow_pos (low f)))
  where
    go : (n : ℕ) → n * down e ≡ m * up e * 2 ^ low f → 0 < m * up e * 2 ^ low f → 0 < n
    go zero q p = absurd (omega arith)
    go (suc n) q p = omega arith

pub in-tolerance : (t : Float) → Double t → lt +0 t ≡ true → le t one ≡ true → InTolerance t
unfolding lt of_bits le
in-tolerance nan d h l = clash false h refl
in-tolerance (inf true) d h l = clash false h refl
in-tolerance (inf false) d h l = clash false l refl
in-tolerance (fin true m e) d h l = clash false h refl
in-tolerance (fin false m e) d h l =
    let t = fin false m e in
    let n : Number binary64 t = record { held = d; finite = tt } in
    let a = ltb-true (0 * 1 * down e) (m * up e * 1) h in
    let b = le-whole t one n one_number l in
    record {
      positive = record { number = n; some = rw (fin-top binary64 m e false) (some-units binary64 m e d (omega arith)); none = fin-bottom binary64 m e false };
      small = subst (λ (i : ℕ). i ≤ 2 ^ 1074) (sym (size-whole false m e)) (at_most (whole t) (whole one) (2 ^ 1074) one-whole b (fin-bottom binary64 m e false));
    }

-- ---- the box

-- 2^30 + 1 is below 2^31
both_below : (a b : ℕ) → a ≤ 2 ^ (30 + 1074) → b ≤ 2 ^ 1074 → a + b < 2 ^ (31 + 1074)
both_below a b h k = lt_of_le_of_lt (add-le-add h k) (lit< tt)

-- p, whatever finite f64 it is, is at most t + 2^-23 from e,
pub box-any : (t e p : Float) → InTolerance t → InRange 30 e → Number binary64 p → in_span t e p ≡ true → Within t (two_to_minus 23) p e
unfolding in_span
box-any t e p pt pe pp h =
    span-any binary64 1051 (lit≤ tt) t e p pt.positive pe.number pp (both_below _ _ pe.small pt.small) (and_left _ _ h) (and_right (le (sub binary64 e t) p) _ h)

-- and where both are at most 2^n, at most t + 2^(n - 54): half of a last place below 2^n. With n = 30 that is t + 2^-24.
pub box-near : (n : ℕ) (t e p : Float) → n ≤ 30 → InTolerance t → InRange n e → InRange n p → in_span t e p ≡ true → Within t (two_to_minus (54 - n)) p e
unfolding in_span
box-near n t e p few pt pe pp h =
    let k : ℕ = 1074 - (54 - n) in
    let q : n + 1074 ≡ 53 + suc k = omega arith in
    span-near binary64 k (omega arith) t e p pt.positive pe.number pp.number
    (subst (λ (i : ℕ). nat_abs (whole e) ≤ 2 ^ i) q pe.small) (subst (λ (i : ℕ). nat_abs (whole p) ≤ 2 ^ i) q pp.small) (and_left _ _ h) (and_right (le (sub binary64 e t) p) _ h)
