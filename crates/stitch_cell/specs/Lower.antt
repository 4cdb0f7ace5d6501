-- The lower of two numbers.
use Rattle.std.specs.Prelude.{ℕ, cond, ltb}

unfoldable pub lesser_of : ℕ → ℕ → ℕ
lesser_of a b = cond (ltb b a) b a
