-- A finite float is a whole number, and finite floats are ordered as the whole numbers that they are. Over any format, so that no power is worked out.
use Rattle.std.specs.Prelude.{ℕ, zero, suc, ◌+◌, ◌-◌, ◌*◌, ◌^◌, ◌≤◌, ◌<◌, Bool, not, cond, ◌≡◌, T, ltb, ℤ, pos, negsuc, neg_ℤ, nat_abs, ◌-ℤ◌, Float}
use Rattle.std.proofs.Math.Bool.{true, false}
use Rattle.std.proofs.Math.Path.{refl}
use Rattle.std.proofs.Common.{sym, ap, ◌∙◌, zero-mul, mul-pos, mul-le-mul_right, le_of_mul-le-mul_right, arith, ltb→lt, nltb→le}
use Rattle.std.proofs.Math.IntN.{sub_ℕ}
use Rattle.std.specs.Float.{nan, inf, fin, Format}
use Rattle.std.specs.Float.Ieee.{low, up, down, fits, le}
use Rattle.std.specs.Float.Ieee.Fits.{down_pos}
use Rattle.basis.specs.OrderLaws.{Finite, over, le_yes}
use Rattle.basis.specs.UnitLaws.{units_of, units-exact}
use Rattle.join.specs.Join.{scaled}

-- ---- whole numbers by two parts, so that `omega` reads facts about them

-- what a number has above 0, and what it has beneath: it is above − beneath
abbrev pub above : ℤ → ℕ
above (pos n) = n
above (negsuc n) = 0

abbrev pub beneath : ℤ → ℕ
beneath (pos n) = 0
beneath (negsuc n) = suc n

pub abs-parts : (a : ℤ) → nat_abs a ≡ above a + beneath a
abs-parts (pos n) = omega arith
abs-parts (negsuc n) = omega arith

neg-above : (n : ℕ) → above (neg_ℤ (pos n)) ≡ 0
neg-above zero = refl
neg-above (suc n) = refl

neg-beneath : (n : ℕ) → beneath (neg_ℤ (pos n)) ≡ n
neg-beneath zero = refl
neg-beneath (suc n) = refl

-- a and b are at most c apart
module _ (c : ℕ) where
  apart-sub : (a b : ℕ) → a ≤ b + c → b ≤ a + c → nat_abs (sub_ℕ a b) ≤ c
  apart-sub a b h k = go (ltb a b) (ltb→lt a b) (nltb→le a b)
    where
      go : (t : Bool) → (T t → a < b) → (T (not t) → b ≤ a) → nat_abs (cond t (negsuc (b - suc a)) (pos (a - b))) ≤ c
      go true l m = let n = l tt in omega arith
      go false l m = let n = m tt in omega arith

  pub apart-le : (a b : ℤ) → above a + beneath b ≤ above b + beneath a + c → above b + beneath a ≤ above a + beneath b + c → nat_abs (a -ℤ b) ≤ c
  apart-le (pos a) (pos zero) h k = omega arith
  apart-le (pos a) (pos (suc b)) h k = apart-sub a (suc b) (omega arith) (omega arith)
  apart-le (pos a) (negsuc b) h k = omega arith
  apart-le (negsuc a) (pos zero) h k = apart-sub 0 (suc a) (omega arith) (omega arith)
  apart-le (negsuc a) (pos (suc b)) h k = omega arith
  apart-le (negsuc a) (negsuc b) h k = apart-sub (suc b) (suc a) (omega arith) (omega arith)

-- ---- a float's two parts

abbrev pub top_of : Format → Float → ℕ
top_of f x = above (scaled (low f) x)

abbrev pub bottom_of : Format → Float → ℕ
bottom_of f x = beneath (scaled (low f) x)

-- a finite value of the format
pub record Number (f : Format) (x : Float) : Type 0 where
  pub held : T (fits f x)
  pub finite : Finite x

module _ (f : Format) (m : ℕ) (e : ℤ) where
  pub fin-top : (s : Bool) → top_of f (fin s m e) ≡ over s (units_of f m e)
  unfolding scaled
  fin-top false = refl
  fin-top true = neg-above (units_of f m e)

  pub fin-bottom : (s : Bool) → bottom_of f (fin s m e) ≡ over (not s) (units_of f m e)
  unfolding scaled
  fin-bottom false = refl
  fin-bottom true = neg-beneath (units_of f m e)

  -- the division in `scaled` has no remainder
  over-exact : (s t : Bool) → T (fits f (fin s m e)) → over t (m * up e) * 2 ^ low f ≡ over t (units_of f m e) * down e
  over-exact s false h = sym (units-exact f s m e h)
  over-exact s true h = zero-mul (2 ^ low f) ∙ sym (zero-mul (down e))

  pub scaled_exact : (s : Bool) → T (fits f (fin s m e)) → nat_abs (scaled (low f) (fin s m e)) * down e ≡ m * up e * 2 ^ low f
  scaled_exact s h = ap (λ (n : ℕ). n * down e) (abs-parts (scaled (low f) (fin s m e)) ∙ rw (fin-top s, fin-bottom s) (one s)) ∙ units-exact f s m e h
    where
      one : (s : Bool) → over s (units_of f m e) + over (not s) (units_of f m e) ≡ units_of f m e
      one false = omega arith
      one true = omega arith

-- ---- the order

-- two fractions over d and e, each in parts, scaled by l
compare : (p p' q q' a a' b b' d e l : ℕ) → 0 < d → 0 < e → p * l ≡ a * e → p' * l ≡ a' * e → q * l ≡ b * d → q' * l ≡ b' * d
    → p * d + q' * e ≤ q * e + p' * d → a + b' ≤ b + a'
compare p p' q q' a a' b b' d e l D E ep ep' eq eq' h =
    le_of_mul-le-mul_right
    (omega (arith, mul-le-mul_right l h, ap (λ (n : ℕ). n * d) ep, ap (λ (n : ℕ). n * d) ep', ap (λ (n : ℕ). n * e) eq, ap (λ (n : ℕ). n * e) eq'))
    (mul-pos D E)

pub le-whole : {f : Format} (x y : Float) → Number f x → Number f y → le x y ≡ true → top_of f x + bottom_of f y ≤ top_of f y + bottom_of f x
le-whole nan y p q h = absurd p.finite
le-whole (inf s) y p q h = absurd p.finite
le-whole (fin s m e) nan p q h = absurd q.finite
le-whole (fin s m e) (inf t) p q h = absurd q.finite
le-whole {f} (fin s m e) (fin t n d) p q h =
    rw (fin-top f m e s, fin-bottom f m e s, fin-top f n d t, fin-bottom f n d t)
    (compare _ _ _ _ _ _ _ _ (down d) (down e) (2 ^ low f) (down_pos d) (down_pos e)
    (over-exact f m e s s p.held) (over-exact f m e s (not s) p.held) (over-exact f n d t t q.held) (over-exact f n d t (not t) q.held)
    (le_yes m n e d s t h))
