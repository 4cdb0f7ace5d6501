-- What a caller has shown.
use Rattle.std.specs.Prelude.{ℕ, ◌+◌, ◌*◌, ◌≤◌, ◌<◌, List, length, take, ℤ, Float, Option}
use Rattle.basis.specs.Sizes.{most_candidates, most_slices}
use Rattle.straight.specs.Ready.{Outline}
use Rattle.cut.specs.declared.arrival.Case.{Case}
use Rattle.candidate.specs.declared.at_cut.Candidate.{Candidate}
use Rattle.candidate.specs.Candidates as slices
use Rattle.candidate.specs.Ready.{Sound}
use Rattle.slice.specs.Ready.{Rooms, Roomy}
use Rattle.straight_cut.specs.declared.at_cut.Ordered.{Ordered}
use Rattle.straight_cut.specs.Splits.{straight_given}
use Rattle.straight_cut.specs.Inside.{KnownProbe}
use Rattle.straight_along.specs.declared.along.Sieve.{Sieve}

-- a candidate of a straight mask, the other outline in whole microdegrees, and room for slice number n
pub record StayFit (c : Option Candidate) (other : List ℤ) (vc : ℕ) (room : Rooms) (n : ℕ) : Type 0 where
  pub known : KnownProbe c
  pub outline : Outline other vc
  pub low : n < most_slices
  pub roomy : Roomy (n + 1) room

-- cuts that are in order, their candidates too, the other outline, and room for one slice a cut from number m on
pub record PlacesRoom (g : slices.Given) (other : List ℤ) (vc : ℕ) (room : Rooms) (m : ℕ) : Type 0 where
  pub sound : Sound g
  pub known : (p : ℕ) → p < g.count → KnownProbe (slices.candidate_at g p)
  pub outline : Outline other vc
  pub low : m ≤ most_candidates
  pub roomy : Roomy (m + g.count) room

-- the front of each list that holds the cuts, and that holds the other outline
abbrev pub ordered_front : Ordered → slices.Given
ordered_front c =
    straight_given c.outline.now (take (3 * (c.case.hits + 2 * c.case.laps)) c.cut_at.now) (take (2 * (c.case.hits + 2 * c.case.laps)) c.cut.now) c.case

abbrev pub other_front : Sieve → List ℤ
other_front s = take (2 * s.other_vc) s.other.now

-- the same where cuts and whole microdegrees stand in front of their lists
pub record FrontsRoom (o : List Float) (cut_at : List ℕ) (cut : List Float) (s : Case) (other : List ℤ) (vc : ℕ) (room : Rooms) (m : ℕ) : Type 0 where
  pub few : s.hits + 2 * s.laps ≤ most_candidates
  pub few_vertices : vc ≤ 1024
  pub numbers : 3 * (s.hits + 2 * s.laps) ≤ length cut_at
  pub points : 2 * (s.hits + 2 * s.laps) ≤ length cut
  pub wide : 2 * vc ≤ length other
  pub ready : PlacesRoom (straight_given o (take (3 * (s.hits + 2 * s.laps)) cut_at) (take (2 * (s.hits + 2 * s.laps)) cut) s) (take (2 * vc) other) vc room m
