-- A finite value of a format is a whole number of the format's smallest values, `units_of`, and there are fewer of them than 2 ^ (low + emax + 1), where the infinities stand.
-- Over any format, so that no power is worked out.
use Rattle.std.specs.Prelude.{ℕ, zero, suc, ◌-◌, ◌+◌, ◌*◌, ◌/◌, ◌%◌, ◌^◌, ◌≤◌, ◌<◌, Bool, ◌&&◌, ◌≡◌, T, ltb, leb, eqb, ℤ, pos, negsuc}
use Rattle.std.proofs.Common.{sym, ap, ◌∙◌, mul-one, div-one, zero-mul, mul_assoc, mul_comm, mul_right_comm, mul-div_cancel, mul-lt-mul_of_pos_right, lt_of_mul-lt-mul_right, arith, leb→le, ltb→lt, pow-add, pow_pos, ltb-true, ltb-false}
use Rattle.std.proofs.Math.Nat.{zero-div}
use Rattle.std.proofs.Math.Pow.{pow-lt}
use Rattle.std.specs.Float.{fin, Format}
use Rattle.std.specs.Float.Ieee.{prec, emax, low, up, down, fits}
use Rattle.std.specs.Float.Ieee.Fits.{and_l, and_r}
use Rattle.basis.specs.Choice.{by-test}

-- how many of the format's smallest values m * 2 ^ e is
abbrev pub units_of : Format → ℕ → ℤ → ℕ
units_of f m e = m * up e * 2 ^ low f / down e

-- the division is exact
exact : (f : Format) (e : ℤ) (n : ℕ) → down e ≤ 2 ^ low f → n * 2 ^ low f / down e * down e ≡ n * 2 ^ low f
exact f (pos k) n h = mul-one _ ∙ div-one _
exact f (negsuc k) n h =
    let l : suc k ≤ low f = by-test (ltb k (low f)) (ltb-true k (low f)) (λ e. absurd (omega (arith, h, pow-lt {i = low f} {j = suc k} (omega (arith, ltb-false k (low f) e))))) in
    let b : low f ≡ low f - suc k + suc k = omega arith in
    let p : 2 ^ low f ≡ 2 ^ (low f - suc k) * 2 ^ suc k = ap (λ (j : ℕ). 2 ^ j) b ∙ pow-add 2 (low f - suc k) (suc k) in
    let q : n * 2 ^ low f ≡ n * 2 ^ (low f - suc k) * 2 ^ suc k = ap (λ (j : ℕ). n * j) p ∙ sym (mul_assoc n (2 ^ (low f - suc k)) (2 ^ suc k)) in
    rw q (ap (λ (j : ℕ). j * 2 ^ suc k) (mul-div_cancel (n * 2 ^ (low f - suc k)) (pow_pos (suc k))))

-- what `fits` says of a number that is not 0: its denominator, and its size
parts : (a b c d : Bool) → T (a && b && c && d) → T c × T d
parts a b c d t = (and_r (a && b) c (and_l (a && b && c) d t), and_r (a && b && c) d t)

fit_parts : (f : Format) (s : Bool) (m : ℕ) (e : ℤ) → T (fits f (fin s (suc m) e)) → (down e ≤ 2 ^ low f) × (suc m * up e < 2 ^ suc (emax f) * down e)
unfolding fits
fit_parts f s m e t =
    let u = parts (eqb (suc m % 2) 1) (ltb (suc m) (2 ^ prec f)) (leb (down e) (2 ^ low f)) (ltb (suc m * up e) (2 ^ suc (emax f) * down e)) t in
    (leb→le (down e) (2 ^ low f) u.0, ltb→lt (suc m * up e) (2 ^ suc (emax f) * down e) u.1)

pub units-exact : (f : Format) (s : Bool) (m : ℕ) (e : ℤ) → T (fits f (fin s m e)) → units_of f m e * down e ≡ m * up e * 2 ^ low f
units-exact f s zero e t = simp (zero-mul, zero-div)
units-exact f s (suc m) e t = exact f e (suc m * up e) (fit_parts f s m e t).0

pub units-below : (f : Format) (s : Bool) (m : ℕ) (e : ℤ) → T (fits f (fin s m e)) → units_of f m e < 2 ^ (low f + suc (emax f))
units-below f s zero e t = simp (zero-mul, zero-div) (pow_pos (low f + suc (emax f)))
units-below f s (suc m) e t =
    let x = suc m * up e in
    let b : x < 2 ^ suc (emax f) * down e = (fit_parts f s m e t).1 in
    let q = units-exact f s (suc m) e t in
    let c : x * 2 ^ low f < 2 ^ suc (emax f) * down e * 2 ^ low f = mul-lt-mul_of_pos_right b (pow_pos (low f)) in
    let d : 2 ^ suc (emax f) * down e * 2 ^ low f ≡ 2 ^ (low f + suc (emax f)) * down e =
    mul_right_comm (2 ^ suc (emax f)) (down e) (2 ^ low f) ∙ ap (λ (j : ℕ). j * down e) (mul_comm (2 ^ suc (emax f)) (2 ^ low f) ∙ sym (pow-add 2 (low f) (suc (emax f)))) in
    lt_of_mul-lt-mul_right (down e) (omega (arith, q, c, d))
