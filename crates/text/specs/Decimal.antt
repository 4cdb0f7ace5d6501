-- A number in decimal.
use Rattle.std.specs.Prelude.{ℕ, zero, suc, ◌+◌, ◌/◌, ◌%◌, ◌^◌, ◌≤◌, ◌<◌, ◌≡◌, cond, List, [], ◌∷◌, ◌++◌, eqb, length, drop}
use Rattle.text.specs.declared.decimal.Tenth.{Tenth}

-- `0` is 48
abbrev pub glyph_of : ℕ → ℕ
glyph_of d = 48 + d

-- the last k digits of n, the most significant first
unfoldable pub digits_of : ℕ → ℕ → List ℕ
digits_of zero n = []
digits_of (suc k) n = digits_of k (n / 10) ++ (glyph_of (n % 10) ∷ [])

-- without the zeros in front, but for the last digit
unfoldable pub trimmed : List ℕ → List ℕ
trimmed [] = []
trimmed (c ∷ []) = c ∷ []
trimmed (c ∷ d ∷ r) = cond (eqb c 48) (trimmed (d ∷ r)) (c ∷ d ∷ r)

-- a tenth in two words, and the digit that is left
abbrev pub tenths_of : ℕ → Tenth
tenths_of n = record { high = n / 10 / 2 ^ 64; low = n / 10 % 2 ^ 64; digit = n % 10 }

-- a digit
pub record Digit (d : ℕ) : Type 0 where
  pub small : d < 10

-- where the digits begin
pub record Begins (k : ℕ) (text : List ℕ) : Type 0 where
  pub inside : k ≤ length text
  pub rest : drop k text ≡ trimmed text
