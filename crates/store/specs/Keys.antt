-- Lists whose elements have a key, which is a number.
use Rattle.std.specs.Prelude.{ℕ, zero, suc, Bool, false, cond, ◌||◌, List, [], ◌∷◌, eqb}

module _ {A : Type 0} (key : A → ℕ) where
  -- an element of the list has the key k
  unfoldable pub keyed : List A → ℕ → Bool
  keyed [] k = false
  keyed (x ∷ l) k = eqb (key x) k || keyed l k

  -- the list without the elements that have it
  unfoldable pub without : List A → ℕ → List A
  without [] k = []
  without (x ∷ l) k = cond (eqb (key x) k) (without l k) (x ∷ without l k)

-- the lowest of the n numbers from k on that is not used, and k + n where all are
unfoldable pub lowest_from : (ℕ → Bool) → ℕ → ℕ → ℕ
lowest_from used k zero = k
lowest_from used k (suc n) = cond (used k) (lowest_from used (suc k) n) k
