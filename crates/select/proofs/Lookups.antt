-- The table's rule for a list of 24 codes, proved once over all of them; and that the table of codes is the table of choices.
use Prim.Native.Nat.{ℕ, zero, suc, ◌+◌, ◌*◌, ◌<◌}
use mathlib.Core.Bool.{Bool, true, false, cond}
use mathlib.Core.Path.{◌≡◌, refl}
use mathlib.Core.List.{List}
use native.Mathlib.Omega.{arith}
use lib.Dec.{eqb, ltb}
use lib.ListN.{get_or}
use borrow.Author.Tests.{eqb-true}
use Rattle.basis.specs.Each.{each_to}
use Rattle.basis.specs.EachLaws.{each_at}
use Rattle.select.specs.declared.class.Starts.{Starts}
use Rattle.select.specs.declared.class.Class.{Class}
use Rattle.select.specs.declared.class.Class.TheVariants.{OfOne, OfTwo, OverlapOfOne, OverlapOfTwo}
use Rattle.select.specs.Select.{class_of, place_of, preference_of}
use Rattle.select.specs.Numbers.{choice_code, Lookup, preference_code}

-- a list of codes holds the table: computed at each selector, class and choice
abbrev pub holds_table : List ℕ → Bool
holds_table codes = each_to (λ s. each_to (λ c. each_to (λ h. eqb (get_or codes (12 * s + 3 * c + h) 0) (preference_code s c h)) 3) 4) 2

-- so a code that is looked up in it is the table's
pub in_table : (codes : List ℕ) → holds_table codes ≡ true → (s c h : ℕ) → Lookup s c h → get_or codes (12 * s + 3 * c + h) 0 ≡ preference_code s c h
in_table codes e s c h k =
    let right : ℕ → ℕ → ℕ → Bool = λ s c h. eqb (get_or codes (12 * s + 3 * c + h) 0) (preference_code s c h) in
    eqb-true (get_or codes (12 * s + 3 * c + h) 0) (preference_code s c h)
    (each_at (right s c) 3 h (each_at (λ c. each_to (right s c) 3) 4 c (each_at (λ s. each_to (λ c. each_to (right s c) 3) 4) 2 s e k.selectors) k.classes) k.choices)

-- there are four classes
pub class-few : (s : Starts) (i k : ℕ) → k ≡ place_of (class_of s i) → k < 4
class-few s i k e = rw e (few (class_of s i))
  where
    few : (c : Class) → place_of c < 4
    few OfOne = omega arith
    few OfTwo = omega arith
    few OverlapOfOne = omega arith
    few OverlapOfTwo = omega arith

-- the table of codes has the code of each choice of the table
pub preference-agree : (selector : ℕ) (c : Class) (choice : ℕ) → selector < 2 → choice < 3 → preference_code selector (place_of c) choice ≡ choice_code (preference_of selector c choice)
unfolding preference_code preference_of each_to
preference-agree selector c choice p q = eqb-true _ _ (each_at (λ h. same selector h c) 3 choice (each_at (λ s. each_to (λ h. same s h c) 3) 2 selector (all c) p) q)
  where
    same : ℕ → ℕ → Class → Bool
    same s h c = eqb (preference_code s (place_of c) h) (choice_code (preference_of s c h))

    all : (c : Class) → each_to (λ s. each_to (λ h. same s h c) 3) 2 ≡ true
    all OfOne = refl
    all OfTwo = refl
    all OverlapOfOne = refl
    all OverlapOfTwo = refl
