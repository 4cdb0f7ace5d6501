-- What an accepted call has.
use Rattle.std.specs.Prelude.{◌≡◌}
use Rattle.slice.specs.Ready.{Rooms, Roomy}
use Rattle.prune.specs.declared.call.Call.{Call}
use Rattle.prune.specs.Prune.{overlaps}
use Rattle.prune.specs.Ready.{OverlapsFit}
use Rattle.straight_side.specs.Ready.{Both}
use Rattle.straight_slices.specs.Slices.{Given, first_cuts, second_cuts, most_call, need_all}

-- both outlines' cuts, each beside the other outline, and room for the need
pub record SidesRoom (g : Given) (room : Rooms) : Type 0 where
  pub first : Both (first_cuts g) g.outline2 g.job.vc2
  pub second : Both (second_cuts g) g.outline1 g.job.vc1
  pub roomy : Roomy (need_all g.job) room

-- the overlaps fit too, and the call of `mask_prune` is that with the most candidates
pub record Accepted (g : Given) (call : Call) (room : Rooms) : Type 0 where
  pub sides : SidesRoom g room
  pub laps : OverlapsFit (overlaps g.lap_at g.lap g.lap_edition) g.job.laps
  pub most : call ≡ most_call g.job
