-- Three numbers stored.
use Rattle.std.specs.Prelude.{ℕ, suc, ◌+◌, ◌*◌, ◌≡◌, List, set, Float}
use Rattle.std.proofs.Common.{add-one, arith}
use Rattle.settings.specs.declared.Setting.{Setting}
use Rattle.settings.specs.Settings.{written}

-- three stores, each at its sum
pub three-put : (numbers : List Float) (k : ℕ) (s : Setting)
    → set (set (set numbers (3 * k) s.tolerance_x) (3 * k + 1) s.tolerance_y) (3 * k + 2) s.area_limit ≡ written numbers k s
unfolding written
three-put numbers k s = let two : 3 * k + 2 ≡ suc (suc (3 * k)) = omega arith in rw (two, add-one (3 * k))

pub ruleset stores = (three-put)
