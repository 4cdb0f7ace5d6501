-- A slice as it is kept: its four codes (source, inverted, start, offset), its six numbers (updated start, end bulge, end point), and its edition.
use Rattle.std.specs.Prelude.{ℕ, ◌≡◌, List, length, Float}

pub record Slice : Type 0 where
  pub code : List ℕ
  pub number : List Float
  pub edition : ℕ

abbrev pub slice_of : List ℕ → List Float → ℕ → Slice
slice_of c n e = record { code = c; number = n; edition = e }

-- four codes and six numbers
pub record Whole (x : Slice) : Type 0 where
  pub four : length x.code ≡ 4
  pub six : length x.number ≡ 6
