-- What a caller has shown.
use Rattle.std.specs.Prelude.{ℕ, ◌*◌, ◌≤◌, ◌≡◌, List, Float}
use Rattle.basis.specs.Sizes.{most_candidates}
use Rattle.cut.specs.Cuts.{Given, cut_count}
use Rattle.slice.specs.Ready.{Rooms}
use Rattle.straight_side.specs.declared.keeping.Side.{Side}
use Rattle.straight_side.specs.Ready.{KeptRoom}

-- there are no more cuts and vertices than the working lists have places for
pub record KeptFew (cuts vertices : ℕ) (g : Given) (other : List Float) (side : Side) (room : Rooms) : Type 0 where
  pub ok : KeptRoom g other side room
  pub few_cuts : cut_count g ≤ cuts
  pub few_vertices : side.other_vc ≤ vertices

-- the sizes of the working lists fit each other, and a call
pub record Sized (cuts numbers points vertices wholes : ℕ) : Type 0 where
  pub few_cuts : cuts ≤ most_candidates
  pub few_vertices : vertices ≤ 1024
  pub three : numbers ≡ 3 * cuts
  pub two : points ≡ 2 * cuts
  pub both : wholes ≡ 2 * vertices
