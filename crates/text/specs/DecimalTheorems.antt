-- The digits that are printed say the number: none is lost, and zeros in front say nothing.
use Rattle.std.specs.Prelude.{ℕ, zero, suc, ◌+◌, ◌-◌, ◌*◌, ◌/◌, ◌%◌, ◌^◌, ◌<◌, ◌≡◌, refl, Bool, cond, List, [], ◌∷◌, ◌++◌, eqb}
use Rattle.std.proofs.Common.{arith, lt_of_lt_of_le, pow-suc, sym, ap, subst, ◌∙◌, leb→le, eqb-true}
use Rattle.basis.specs.Choice.{by-test}
use Rattle.text.specs.Decimal.{glyph_of, digits_of, trimmed}

-- the number that digits say, after a number that was said before them
abbrev pub says_from : ℕ → List ℕ → ℕ
says_from n [] = n
says_from n (c ∷ r) = says_from (10 * n + (c - 48)) r

says_last : (n : ℕ) (l : List ℕ) (c : ℕ) → says_from n (l ++ (c ∷ [])) ≡ 10 * says_from n l + (c - 48)
says_last n [] c = refl
says_last n (x ∷ l) c = says_last (10 * n + (x - 48)) l c

-- k digits hold every number below 10^k
pub digits-say : (k n : ℕ) → n < 10 ^ k → says_from 0 (digits_of k n) ≡ n
unfolding digits_of
digits-say zero n h = omega arith
digits-say (suc k) n h =
    let fewer : n / 10 < 10 ^ k = shorter (subst (λ (m : ℕ). n < m) (pow-suc 10 k) h) in
    says_last 0 (digits_of k (n / 10)) (glyph_of (n % 10)) ∙ ap (λ (m : ℕ). 10 * m + (48 + n % 10 - 48)) (digits-say k (n / 10) fewer) ∙ omega arith
  where
    shorter : n < 10 ^ k * 10 → n / 10 < 10 ^ k
    shorter p = omega arith

-- so 39 hold every number of two words
pub two-words-say : (n : ℕ) → n < 2 ^ 128 → says_from 0 (digits_of 39 n) ≡ n
two-words-say n h = digits-say 39 n (lt_of_lt_of_le h (leb→le (2 ^ 128) (10 ^ 39) tt))

-- and without the zeros in front they say the same
pub trimmed-says : (l : List ℕ) → says_from 0 (trimmed l) ≡ says_from 0 l
unfolding trimmed
trimmed-says [] = refl
trimmed-says (c ∷ []) = refl
trimmed-says (c ∷ d ∷ r) =
    by-test (eqb c 48)
    (λ t. ap (λ (b : Bool). says_from 0 (cond b (trimmed (d ∷ r)) (c ∷ d ∷ r))) t ∙ trimmed-says (d ∷ r) ∙ sym (ap (λ (x : ℕ). says_from x (d ∷ r)) (nothing (eqb-true c 48 t))))
    (λ t. ap (λ (b : Bool). says_from 0 (cond b (trimmed (d ∷ r)) (c ∷ d ∷ r))) t)
  where
    nothing : c ≡ 48 → 10 * 0 + (c - 48) ≡ 0
    nothing e = omega arith
