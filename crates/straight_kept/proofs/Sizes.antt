-- Laws of the working lists of three sizes.
use Prim.Native.Nat.{ℕ, ◌≤◌, ◌<◌, ◌^◌}
use mathlib.Core.Path.{◌≡◌}
use mathlib.Core.List.{List}
use native.Mathlib.Omega.{arith}
use lib.ListN.{length}
use lib.IntN.{ℤ}
use lib.Ieee.{Float}
use Rattle.basis.specs.Sizes.{most_candidates}
use Rattle.cut.specs.Cuts.{Given, cut_count}
use Rattle.slice.specs.Ready.{Rooms}
use Rattle.straight_side.specs.declared.keeping.Side.{Side}
use Rattle.straight_side.specs.Ready.{KeptRoom, KeptWith}
use Rattle.straight_kept.specs.Ready.{KeptFew, Sized}

-- lists for so many cuts and vertices are enough for a call that has no more, and the largest lists for every call
module _ (g : Given) (other : List Float) (side : Side) (room : Rooms) where
  pub few_lists : (cuts numbers points vertices wholes : ℕ) (sorted cut_at : List ℕ) (cut : List Float) (whole : List ℤ) → KeptFew cuts vertices g other side room → Sized cuts numbers points vertices wholes
      → length sorted ≡ cuts → length cut_at ≡ numbers → length cut ≡ points → length whole ≡ wholes → KeptWith g other side sorted cut_at cut whole room
  few_lists cuts numbers points vertices wholes sorted cut_at cut whole f s a b c d =
      let h = f.few_cuts in
      let k = f.few_vertices in
      record { ok = f.ok; sorted_long = omega arith; number_room = omega (arith, s.three); point_room = omega (arith, s.two); wholes_room = omega (arith, s.both) }

  pub kept-few : (cuts vertices : ℕ) → KeptRoom g other side room → cut_count g ≤ cuts → side.other_vc ≤ vertices → KeptFew cuts vertices g other side room
  kept-few cuts vertices ok h k = record { ok = ok; few_cuts = h; few_vertices = k }

  pub kept-most : KeptRoom g other side room → KeptFew most_candidates 1024 g other side room
  kept-most ok =
      let h = ok.both.accepted.ready.few_hits in
      let k = ok.both.accepted.ready.few_laps in
      record { ok = ok; few_cuts = omega arith; few_vertices = ok.both.whole.most }

  pub count_fits : KeptRoom g other side room → cut_count g < 2 ^ 64
  count_fits ok =
      let h = ok.both.accepted.ready.few_hits in
      let k = ok.both.accepted.ready.few_laps in
      omega arith

pub ruleset sizes = (few_lists, kept-few, kept-most, count_fits)
