-- The doubled area as it is answered: its sign, and its size in two words.
use Rattle.std.specs.Prelude.{Bool, not, ℤ, nat_abs}
use Rattle.std.specs.Int.Signed.{non_neg}
use Rattle.whole.specs.Two.{two}
use Rattle.straight.specs.declared.sum.Area.{Area}

-- whether it is negative
abbrev pub minus_sign : ℤ → Bool
minus_sign z = not (non_neg z)

abbrev pub area_words : ℤ → Area
area_words z = record { negative = minus_sign z; size = two (nat_abs z) }
