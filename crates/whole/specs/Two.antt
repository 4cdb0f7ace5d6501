-- A number held as two 64-bit words.
use Rattle.std.specs.Prelude.{ℕ, ◌+◌, ◌*◌, ◌/◌, ◌%◌, ◌^◌, ◌<◌, ◌≤◌, cond, nat_lt}
use Rattle.whole.specs.declared.two.Two.{Two}

-- what the two words say
abbrev pub value : Two → ℕ
value t = t.high * 2 ^ 64 + t.low

-- the two words of a number
abbrev pub two : ℕ → Two
two n = record { high = n / 2 ^ 64; low = n % 2 ^ 64 }

-- the carry of a wrapped sum, read from a comparison with what was added
unfoldable pub carry_of : ℕ → ℕ → ℕ
carry_of sum added = cond (nat_lt sum added) 1 0

-- the sum's high word fits, whatever the carry
pub record Roomy (a b : Two) : Type 0 where
  pub fits : a.high + b.high + 1 < 2 ^ 64

-- b is no larger than a
pub record NoMore (a b : Two) : Type 0 where
  pub least : value b ≤ value a
