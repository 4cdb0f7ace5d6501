-- Signed numbers at 64 bits. A signed local holds bits, so a goal speaks of what the machine reads back from them, to_z w64 (of_z w64 z), which is z where z fits.
-- How far a product and a difference are from 0, and each operation's need and result from those of its operands.
use Rattle.std.specs.Prelude.{◌≡◌, ℕ, zero, suc, ◌+◌, ◌-◌, ◌*◌, ◌^◌, ◌<◌, ◌≤◌, Bool, true, false, cond, T, ℤ, pos, negsuc, ◌+ℤ◌, ◌-ℤ◌, ◌*ℤ◌, neg_ℤ, FitsSigned, nat_le, nat_lt, unsigned_abs, refl}
use Rattle.std.proofs.Common.{le_refl, le_trans, mul-le-mul_left, mul-le-mul_right, arith, sym, ◌∙◌, subst, leb→le, ltb→lt, Fits, to_z, of_z, to_z-of_z}
use Rattle.std.proofs.Math.IntN.{sub_ℕ}
use Rattle.std.specs.Int.Signed.{mag, non_neg}
use Rattle.std.specs.Int.{w64}
use Rattle.std.proofs.Math.Facts.{Fits-nat_abs}
use Rattle.whole.specs.Fit.{Near, NotBelow}

-- ---- how far from 0
pub abs_neg : (z : ℤ) → unsigned_abs (neg_ℤ z) ≡ unsigned_abs z
abs_neg (pos zero) = refl
abs_neg (pos (suc n)) = refl
abs_neg (negsuc n) = refl

abs-cond : (t : Bool) (x y : ℤ) (m : ℕ) → unsigned_abs x ≤ m → unsigned_abs y ≤ m → unsigned_abs (cond t x y) ≤ m
abs-cond true x y m h k = h
abs-cond false x y m h k = k

abs-less : (a b : ℕ) → unsigned_abs (sub_ℕ a (suc b)) ≤ a + suc b
abs-less a b = abs-cond (nat_lt a (suc b)) (negsuc (suc b - suc a)) (pos (a - suc b)) (a + suc b) (omega arith) (omega arith)

pub abs-add : (a b : ℤ) → unsigned_abs (a +ℤ b) ≤ unsigned_abs a + unsigned_abs b
abs-add (pos a) (pos b) = le_refl (a + b)
abs-add (pos a) (negsuc b) = abs-less a b
abs-add (negsuc a) (pos b) = omega (arith, abs-less b a)
abs-add (negsuc a) (negsuc b) = omega arith

pub abs-sub : (a b : ℤ) → unsigned_abs (a -ℤ b) ≤ unsigned_abs a + unsigned_abs b
abs-sub a b = subst (λ (n : ℕ). unsigned_abs (a -ℤ b) ≤ unsigned_abs a + n) (abs_neg b) (abs-add a (neg_ℤ b))

pub abs-mul : (a b : ℤ) → unsigned_abs (a *ℤ b) ≡ unsigned_abs a * unsigned_abs b
abs-mul (pos a) (pos b) = refl
abs-mul (pos a) (negsuc b) = abs_neg (pos (a * suc b))
abs-mul (negsuc a) (pos b) = abs_neg (pos (suc a * b))
abs-mul (negsuc a) (negsuc b) = refl

pub mul-near : {m n : ℕ} {a b : ℤ} → Near m a → Near n b → Near (m * n) (a *ℤ b)
mul-near {m} {n} {a} {b} h k =
    record { near = subst (λ (x : ℕ). x ≤ m * n) (sym (abs-mul a b)) (le_trans (mul-le-mul_left (unsigned_abs a) k.near) (mul-le-mul_right n h.near)) }

pub sub-near : {m n : ℕ} {a b : ℤ} → Near m a → Near n b → Near (m + n) (a -ℤ b)
sub-near {m} {n} {a} {b} h k = record { near = omega (arith, abs-sub a b) }

-- what is read back as z is as near
pub as-near : {m : ℕ} {r z : ℤ} → r ≡ z → Near m z → Near m r
as-near {m} e h = subst (Near m) (sym e) h

pub wider : {m : ℕ} {z : ℤ} (n : ℕ) → T (nat_le m n) → Near m z → Near n z
wider {m} n t h = record { near = le_trans h.near (leb→le m n t) }

-- ---- what fits
mag-le : (z : ℤ) → mag z ≤ unsigned_abs z
mag-le (pos n) = le_refl n
mag-le (negsuc n) = omega arith

pub fit : {m : ℕ} {z : ℤ} → Near m z → T (nat_lt m (2 ^ 63)) → FitsSigned w64 z
fit {m} {z} h t = record { sfits = omega (arith, mag-le z, ltb→lt m (2 ^ 63) t) }

-- z as the machine reads it back
pub read : {m : ℕ} {z : ℤ} → Near m z → T (nat_lt m (2 ^ 63)) → to_z w64 (of_z w64 z) ≡ z
read h t = to_z-of_z (fit h t)

-- a callee's result is handed over with its bound, `.ok`
pub got : (z : ℤ) → mag z < 2 ^ 63 → to_z w64 (of_z w64 z) ≡ z
got z h = to_z-of_z {w = w64} {z = z} (record { sfits = h })

-- operands that are read back as a and b
pub mul_fit : {r s a b : ℤ} → r ≡ a → s ≡ b → FitsSigned w64 (a *ℤ b) → FitsSigned w64 (r *ℤ s)
mul_fit e f h = subst (FitsSigned w64) (sym (λ i. e i *ℤ f i)) h

pub sub_fit : {r s a b : ℤ} → r ≡ a → s ≡ b → FitsSigned w64 (a -ℤ b) → FitsSigned w64 (r -ℤ s)
sub_fit e f h = subst (FitsSigned w64) (sym (λ i. e i -ℤ f i)) h

pub mul-read : {r s a b : ℤ} → r ≡ a → s ≡ b → FitsSigned w64 (a *ℤ b) → to_z w64 (of_z w64 (r *ℤ s)) ≡ a *ℤ b
mul-read e f h = to_z-of_z (mul_fit e f h) ∙ (λ i. e i *ℤ f i)

pub sub_read : {r s a b : ℤ} → r ≡ a → s ≡ b → FitsSigned w64 (a -ℤ b) → to_z w64 (of_z w64 (r -ℤ s)) ≡ a -ℤ b
sub_read e f h = to_z-of_z (sub_fit e f h) ∙ (λ i. e i -ℤ f i)

-- what a cast from i64 to u64 asks: of the number that is read back, which is the number
pub cast_ok : (z : ℤ) → FitsSigned w64 z → NotBelow z → T (non_neg (to_z w64 (of_z w64 z))) × Fits w64 (unsigned_abs (to_z w64 (of_z w64 z)))
cast_ok z f e = subst (λ (v : ℤ). T (non_neg v) × Fits w64 (unsigned_abs v)) (sym (to_z-of_z f)) (subst T (sym e.least) tt, Fits-nat_abs tt f)
