-- One sum less another, as sign and size.
use Rattle.std.specs.Prelude.{ℕ, zero, suc, ◌-◌, ◌≤◌, ◌<◌, ◌≡◌, refl, Bool, true, false, cond, ℤ, pos, negsuc, nat_abs, ◌-ℤ◌, ltb}
use Rattle.std.proofs.Common.{arith, sym, ap, ◌∙◌, subst, lt-ltb, le-ltb, ltb-true, ltb-false}
use Rattle.whole.specs.Two.{value, two, NoMore}
use Rattle.whole.specs.declared.two.Two.{Two}
use Rattle.straight.specs.declared.sum.Area.{Area}
use Rattle.straight.specs.Words.{minus_sign, area_words}

-- a less b, where it is below 0
pub under : (a b : ℕ) → a < b → (nat_abs (pos a -ℤ pos b) ≡ b - a) × (minus_sign (pos a -ℤ pos b) ≡ true)
under a zero h = absurd (none a h)
  where
    none : (a : ℕ) → a < 0 → ⊥
    none a h = omega arith
under a (suc b) h =
    subst (λ (t : Bool). (nat_abs (cond t (negsuc (suc b - suc a)) (pos (a - suc b))) ≡ suc b - a) × (minus_sign (cond t (negsuc (suc b - suc a)) (pos (a - suc b))) ≡ true))
    (sym (lt-ltb a (suc b) h)) (omega arith, refl)

-- and where it is not
pub over : (a b : ℕ) → b ≤ a → (nat_abs (pos a -ℤ pos b) ≡ a - b) × (minus_sign (pos a -ℤ pos b) ≡ false)
over a zero h = (omega arith, refl)
over a (suc b) h =
    subst (λ (t : Bool). (nat_abs (cond t (negsuc (suc b - suc a)) (pos (a - suc b))) ≡ a - suc b) × (minus_sign (cond t (negsuc (suc b - suc a)) (pos (a - suc b))) ≡ false))
    (sym (le-ltb a (suc b) h)) (refl, refl)

abbrev area_of : Bool → Two → Area
area_of s t = record { negative = s; size = t }

words_of : (s : Bool) (n : ℕ) (t : Two) (z : ℤ) → t ≡ two n → (nat_abs z ≡ n) × (minus_sign z ≡ s) → area_of s t ≡ area_words z
words_of s n t z e u =
    λ i. record { negative = sym u.1 i; size = (e ∙ ap two (sym u.0)) i }

-- the code's two cases: the comparison told which sum is the larger
module _ (up down : Two) (b : Bool) (told : b ≡ ltb (value up) (value down)) where
  pub less-taken : b ≡ true → NoMore down up
  less-taken h = let l = ltb-true (value up) (value down) (sym told ∙ h) in record { least = omega arith }

  pub less-left : b ≡ false → NoMore up down
  less-left h = record { least = ltb-false (value up) (value down) (sym told ∙ h) }

  pub words-under : (t : Two) → b ≡ true → t ≡ two (value down - value up) → area_of true t ≡ area_words (pos (value up) -ℤ pos (value down))
  words-under t h e = words_of true (value down - value up) t (pos (value up) -ℤ pos (value down)) e (under (value up) (value down) (ltb-true (value up) (value down) (sym told ∙ h)))

  pub words-over : (t : Two) → b ≡ false → t ≡ two (value up - value down) → area_of false t ≡ area_words (pos (value up) -ℤ pos (value down))
  words-over t h e = words_of false (value up - value down) t (pos (value up) -ℤ pos (value down)) e (over (value up) (value down) (ltb-false (value up) (value down) (sym told ∙ h)))

pub ruleset differences = (less-taken, less-left, words-under, words-over)
