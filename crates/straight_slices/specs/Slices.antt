-- Document 02, K11: listing candidates, asking inside and pruning in one call. What it is given, and the three calls that it makes of it.
use Rattle.std.specs.Prelude.{ℕ, ◌+◌, ◌*◌, List, Float}
use Rattle.basis.specs.declared.number.Tolerance.{Tolerance}
use Rattle.cut.specs.declared.arrival.Case.{Case}
use Rattle.cut.specs.Cuts as cuts
use Rattle.cut.specs.Cuts.{case_of}
use Rattle.prune.specs.declared.call.Call.{Call}
use Rattle.prune.specs.declared.mode.Part.{Part}
use Rattle.prune.specs.Prune as prune
use Rattle.prune.specs.Prune.{call_of, overlaps, need_of}
use Rattle.straight_slices.specs.declared.job.Job.{Job}
use Rattle.straight_slices.specs.declared.job.Handed.{Handed}
use Rattle.straight_side.specs.declared.keeping.Side.{Side}
use Rattle.straight_side.specs.Side.{side_count, side_cands}

-- the numbers, of the entry's parameters in their order
abbrev pub job_of : ℕ → ℕ → ℕ → ℕ → ℕ → ℕ → ℕ → ℕ → Tolerance → Job
job_of mode opposing vc1 edition1 vc2 edition2 hits laps t =
    record { mode = mode; opposing = opposing; vc1 = vc1; edition1 = edition1; vc2 = vc2; edition2 = edition2; hits = hits; laps = laps; tolerance = t }

-- both outlines, the intersections, the overlaps with the edition beside each, and the numbers beside them
pub record Given : Type 0 where
  pub job : Job
  pub outline1 : List Float
  pub outline2 : List Float
  pub hit_at : List ℕ
  pub hit : List Float
  pub lap_at : List ℕ
  pub lap : List Float
  pub lap_edition : List ℕ

abbrev pub given : Job → List Float → List Float → List ℕ → List Float → List ℕ → List Float → List ℕ → Given
given job o p ha h la l le = record { job = job; outline1 = o; outline2 = p; hit_at = ha; hit = h; lap_at = la; lap = l; lap_edition = le }

-- the same, as the code holds them
abbrev pub handed : Handed → Given
handed h = given h.job h.outline1.now h.outline2.now h.hit_at.now h.hit.now h.lap_at.now h.lap.now h.lap_edition.now

-- the two calls of `mask_candidates`
abbrev pub first_case : Job → Case
first_case j = case_of j.vc1 1 j.hits j.laps j.tolerance

abbrev pub second_case : Job → Case
second_case j = case_of j.vc2 2 j.hits j.laps j.tolerance

abbrev pub first_cuts : Given → cuts.Given
first_cuts g = cuts.given g.outline1 g.hit_at g.hit g.lap_at g.lap (first_case g.job)

abbrev pub second_cuts : Given → cuts.Given
second_cuts g = cuts.given g.outline2 g.hit_at g.hit g.lap_at g.lap (second_case g.job)

-- the turn of each outline beside the other, and from which slice number on
abbrev pub first_side : Job → Part → Side
first_side j part = record { other_vc = j.vc2; edition = j.edition1; part = part; from = 0 }

abbrev pub second_side : Job → Part → ℕ → Side
second_side j part from = record { other_vc = j.vc1; edition = j.edition2; part = part; from = from }

-- their candidates, each asked whether it is inside the OTHER outline
abbrev pub first_cands : Given → prune.Cands
first_cands g = side_cands (first_cuts g) g.outline2 g.job.vc2 g.job.edition1

abbrev pub second_cands : Given → prune.Cands
second_cands g = side_cands (second_cuts g) g.outline1 g.job.vc1 g.job.edition2

-- the call of `mask_prune`
abbrev pub pruning : Given → prune.Given
pruning g =
    let j = g.job in
    prune.given (call_of j.mode j.opposing j.vc1 j.vc2 (side_count (first_cuts g)) (side_count (second_cuts g)) j.laps) (first_cands g) (second_cands g)
    (overlaps g.lap_at g.lap g.lap_edition)

-- the need: that of `mask_prune` with the most candidates that the cuts allow, one a cut, of each outline
abbrev pub most_call : Job → Call
most_call j = call_of j.mode j.opposing j.vc1 j.vc2 (j.hits + 2 * j.laps) (j.hits + 2 * j.laps) j.laps

abbrev pub need_all : Job → ℕ
need_all j = need_of (most_call j)
