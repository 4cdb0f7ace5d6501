-- What a caller has shown: one record for each contract.
use Rattle.std.specs.Prelude.{ℕ, ◌+◌, ◌*◌, ◌≤◌, ◌<◌, ◌≡◌, List, length}
use Rattle.basis.specs.Sizes.{most_candidates, most_laps}
use Rattle.slice.specs.Slice.{shape_width}
use Rattle.prune.specs.declared.call.Call.{Call}
use Rattle.prune.specs.Prune.{Cands, Overlaps}

-- no count is above its most
pub record Few (c : Call) : Type 0 where
  pub first : c.count1 ≤ most_candidates
  pub second : c.count2 ≤ most_candidates
  pub laps : c.laps ≤ most_laps

-- the lists of n candidates
pub record CandsFit (c : Cands) (n : ℕ) : Type 0 where
  pub few : n ≤ most_candidates
  pub at : length c.at ≡ 2 * n
  pub shape : length c.shape ≡ shape_width * n
  pub edition : length c.edition ≡ n
  pub inside : length c.inside ≡ n

-- those of n overlaps
pub record OverlapsFit (l : Overlaps) (n : ℕ) : Type 0 where
  pub few : n ≤ most_laps
  pub at : length l.at ≡ 7 * n
  pub shape : length l.shape ≡ shape_width * n
  pub edition : length l.edition ≡ n

-- a candidate, an overlap, that the list has
pub record CandFit (at : List ℕ) (k : ℕ) : Type 0 where
  pub inside : 2 * k + 1 < length at

pub record LapFit (at : List ℕ) (j : ℕ) : Type 0 where
  pub inside : 7 * j + 6 < length at
