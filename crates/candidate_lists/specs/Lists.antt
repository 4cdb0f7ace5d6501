-- What the candidates of an accepted call are cut from, and the working lists that their functions are lent.
use Rattle.std.specs.Prelude.{ℕ, ◌*◌, ◌≤◌, ◌≡◌, List, length, take, Float}
use Rattle.cut.specs.Cuts.{Given, cut_count}
use Rattle.cut.specs.Order as order
use Rattle.cut.specs.Order.{cut_numbers}
use Rattle.candidate.specs.Candidates as slices
use Rattle.candidate.specs.Ready.{Rooms, Roomy}
use Rattle.candidate.specs.Told.{along}

-- what the slices are cut from: the cuts in their order, and the splits along them
abbrev pub along_cuts : Given → List Float → slices.Given
along_cuts g splits = along g (cut_numbers g) splits

-- ---- what an accepted call has
pub record Along (g : Given) (splits : List Float) : Type 0 where
  pub accepted : order.Accepted g
  pub nine : length splits ≡ 9 * cut_count g

pub record Accepted (g : Given) (splits : List Float) (l : Rooms) : Type 0 where
  pub along : Along g splits
  pub roomy : Roomy (cut_count g) l

-- the numbers of the cuts in their order stand in front of a list
pub record InFront (g : Given) (cut_at : List ℕ) (splits : List Float) (l : Rooms) : Type 0 where
  pub ok : Accepted g splits l
  pub long : 3 * cut_count g ≤ length cut_at
  pub front : take (3 * cut_count g) cut_at ≡ cut_numbers g

-- a list for the order, one place a cut, and lists for the cuts in it
pub record FoundRoom (g : Given) (splits : List Float) (l : Rooms) (sorted cut_at : List ℕ) (cut : List Float) : Type 0 where
  pub ok : Accepted g splits l
  pub sorted_long : cut_count g ≤ length sorted
  pub number_room : 3 * cut_count g ≤ length cut_at
  pub point_room : 2 * cut_count g ≤ length cut

-- there are no more cuts than the working lists have places for
pub record Few (most : ℕ) (g : Given) (splits : List Float) (l : Rooms) : Type 0 where
  pub ok : Accepted g splits l
  pub few : cut_count g ≤ most
