-- What a caller has shown, and what the functions leave.
use Rattle.std.specs.Prelude.{ℕ, ◌+◌, ◌*◌, ◌≤◌, ◌≡◌, true, List, length, ℤ, Float}
use Rattle.basis.specs.Sizes.{most_candidates}
use Rattle.basis.specs.All.{all_of}
use Rattle.outline.specs.Outline.{Whole}
use Rattle.cut.specs.Cuts.{Given, cut_count}
use Rattle.cut.specs.Order as order
use Rattle.slice.specs.Ready.{Rooms, Roomy}
use Rattle.prune.specs.Prune.{kept_to}
use Rattle.prune_put.specs.Ready.{Wrote}
use Rattle.straight_cut.specs.Microdegrees.{readable}
use Rattle.straight_side.specs.declared.keeping.Side.{Side}
use Rattle.straight_side.specs.Side.{side_count, side_cands}

-- accepted cuts and the other outline, all straight and whole
pub record Both (g : Given) (other : List Float) (vc : ℕ) : Type 0 where
  pub accepted : order.Accepted g
  pub whole : Whole other vc
  pub own : all_of readable g.outline ≡ true
  pub others : all_of readable other ≡ true
  pub hits : all_of readable g.hit ≡ true
  pub laps : all_of readable g.lap ≡ true

-- and room for one slice a cut
pub record KeptRoom (g : Given) (other : List Float) (side : Side) (room : Rooms) : Type 0 where
  pub both : Both g other side.other_vc
  pub low : side.from ≤ most_candidates
  pub roomy : Roomy (side.from + cut_count g) room

-- and lists for the order, the cuts in it and the other outline in whole microdegrees
pub record KeptWith (g : Given) (other : List Float) (side : Side) (sorted cut_at : List ℕ) (cut : List Float) (wholes : List ℤ) (room : Rooms) : Type 0 where
  pub ok : KeptRoom g other side room
  pub sorted_long : cut_count g ≤ length sorted
  pub number_room : 3 * cut_count g ≤ length cut_at
  pub point_room : 2 * cut_count g ≤ length cut
  pub wholes_room : 2 * side.other_vc ≤ length wholes

-- the outline's candidates that stay were written as slices
abbrev pub Kept : Given → List Float → Side → Rooms → ℕ → Rooms → Type 0
Kept g other side room r room' = Wrote (kept_to (side_cands g other side.other_vc side.edition) side.part (side_count g)) (side_count g) room side.from r room'
