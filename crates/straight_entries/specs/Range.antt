-- Number 18: "coordinate out of range".
use Rattle.std.specs.Prelude.{ℕ, Bool, ◌&&◌, List, ℤ, pos, neg_ℤ}
use Rattle.std.specs.Int.Signed.{le_z}
use Rattle.basis.specs.All.{all_of}

-- "magnitude at most" m: -m ≤ z ≤ m
unfoldable pub in_reach : ℕ → ℤ → Bool
in_reach m z = le_z (neg_ℤ (pos m)) z && le_z z (pos m)

-- "outlines in whole microdegrees, magnitude at most 400,000,000"
abbrev pub all_in_reach : List ℤ → Bool
all_in_reach l = all_of (in_reach 400000000) l
