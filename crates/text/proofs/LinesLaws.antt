-- How a number that was read is a coordinate.
use Prim.Native.Nat.{ℕ, zero-le, min}
use native.Mathlib.Omega.{arith}
use mathlib.Core.Path.{◌≡◌, sym, ap, ◌∙◌}
use mathlib.Core.Bool.{Bool, true, false, cond}
use lib.IntN.{ℤ, pos, ◌-ℤ◌}
use borrow.Author.Tests.{ltb-true, ltb-false}
use lib.Dec.{ltb}
use Rattle.basis.specs.Choice.{by-test}
use Rattle.whole.specs.Fit.{Fitting}
use Rattle.whole.specs.FitLaws.{fit, sub-near, as-near}
use Rattle.text.specs.Lines.{capped_of, coordinate_of, Capped}

-- a number's size in the range, or one past it
pub capped-is : (size r : ℕ) → r ≡ min size 400000001 → Capped size r
capped-is size r e =
    by-test (ltb 400000000 size)
    (λ t. record { is = rw t (omega (arith, ltb-true 400000000 size t, e)); most = omega (arith, e) })
    (λ t. record { is = rw t (omega (arith, ltb-false 400000000 size t, e)); most = omega (arith, e) })

-- what is read back of it
module _ (negative : Bool) (size c : ℕ) (n : ℤ) (k : Capped size c) (e : n ≡ pos c) where
  pub coordinate-minus : (r : ℤ) → negative ≡ true → r ≡ pos 0 -ℤ n → r ≡ coordinate_of negative size
  unfolding coordinate_of
  coordinate-minus r h q =
      q ∙ ap (λ (z : ℤ). pos 0 -ℤ z) (e ∙ ap pos k.is) ∙ sym (ap (λ (b : Bool). cond b (pos 0 -ℤ pos (capped_of size)) (pos (capped_of size))) h)

  pub coordinate-plus : negative ≡ false → n ≡ coordinate_of negative size
  unfolding coordinate_of
  coordinate-plus h = e ∙ ap pos k.is ∙ sym (ap (λ (b : Bool). cond b (pos 0 -ℤ pos (capped_of size)) (pos (capped_of size))) h)

  pub minus-fits : Fitting (pos 0 -ℤ n)
  minus-fits = record { fits = fit (sub-near {m = 0} {a = pos 0} {b = n} (record { near = zero-le }) (as-near e (record { near = k.most }))) tt }
