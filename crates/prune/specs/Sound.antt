-- What an entry has looked at in candidates and overlaps.
use Rattle.std.specs.Prelude.{ℕ, ◌+◌, ◌*◌, ◌≤◌, ◌<◌, true, ◌≡◌, length, get_or}
use Rattle.basis.specs.Number.{all_within}
use Rattle.slice.specs.Slice.{shape_width}
use Rattle.prune.specs.Prune.{Cands, Overlaps}

-- n candidates that fit an outline of vc vertices
pub record CandsSound (vc n : ℕ) (c : Cands) : Type 0 where
  pub starts : (k : ℕ) → k < n → get_or c.at (2 * k) 0 < vc
  pub reaches : (k : ℕ) → k < n → get_or c.at (2 * k + 1) 0 ≤ vc
  pub numbers : all_within c.shape ≡ true
  pub size : length c.shape ≡ shape_width * n

-- n overlaps that do, with a yes/no code each
pub record OverlapsSound (vc n : ℕ) (o : Overlaps) : Type 0 where
  pub codes : (j : ℕ) → j < n → get_or o.at (7 * j + 4) 0 ≤ 1
  pub starts : (j : ℕ) → j < n → get_or o.at (7 * j + 5) 0 < vc
  pub reaches : (j : ℕ) → j < n → get_or o.at (7 * j + 6) 0 ≤ vc
  pub numbers : all_within o.shape ≡ true
  pub size : length o.shape ≡ shape_width * n
