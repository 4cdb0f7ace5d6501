-- How far a whole number is from 0, and that it fits 64 bits.
use Rattle.std.specs.Prelude.{◌≡◌, ℕ, ◌^◌, ◌<◌, ◌≤◌, true, ℤ, FitsSigned, unsigned_abs}
use Rattle.std.specs.Int.Signed.{non_neg}
use Rattle.std.specs.Int.{w64}

-- z is at most m from 0
pub record Near (m : ℕ) (z : ℤ) : Type 0 where
  pub near : unsigned_abs z ≤ m

-- z fits a signed number of 64 bits
pub record Fitting (z : ℤ) : Type 0 where
  pub fits : FitsSigned w64 z

-- the unsigned number n can be a signed one of 64 bits
pub record Signed (n : ℕ) : Type 0 where
  pub below : n < 2 ^ 63

pub record NotBelow (z : ℤ) : Type 0 where
  pub least : non_neg z ≡ true
