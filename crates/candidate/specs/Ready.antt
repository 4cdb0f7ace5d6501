-- What the caller of `write_candidates` has shown, and what it leaves.
use Rattle.std.specs.Prelude.{ℕ, ◌*◌, ◌≤◌, ◌<◌, ◌≡◌, List, length, Float}
use Rattle.basis.specs.Number.{+0}
use Rattle.basis.specs.Room.{room_of}
use Rattle.basis.specs.Sizes.{most_candidates}
use Rattle.outline.specs.Outline.{Whole}
use Rattle.candidate.specs.Candidates.{Given, segment_at, cand_count, cand_numbers, cand_shapes, probe_numbers}

-- the lengths fit the counts, each cut is on a segment of the outline, and they go by segment. The lists of the cuts may be longer than the cuts
pub record Sound (g : Given) : Type 0 where
  pub whole : Whole g.outline g.vc
  pub few : g.count ≤ most_candidates
  pub at : 3 * g.count ≤ length g.cut_at
  pub points : 2 * g.count ≤ length g.cut
  pub nine : length g.splits ≡ 9 * g.count
  pub inside : (p : ℕ) → p < g.count → segment_at g.cut_at p < g.vc
  pub ascend : (p q : ℕ) → p ≤ q → q < g.count → segment_at g.cut_at p ≤ segment_at g.cut_at q

-- the lent lists
pub record Rooms : Type 0 where
  pub at : List ℕ
  pub cand : List Float
  pub probe : List Float

abbrev pub rooms : List ℕ → List Float → List Float → Rooms
rooms at cand probe = record { at = at; cand = cand; probe = probe }

-- "Room needed: one candidate per cut."
pub record Roomy (count : ℕ) (l : Rooms) : Type 0 where
  pub at : 2 * count ≤ length l.at
  pub cand : 6 * count ≤ length l.cand
  pub probe : 6 * count ≤ length l.probe

pub record Ready (g : Given) (l : Rooms) : Type 0 where
  pub sound : Sound g
  pub roomy : Roomy g.count l

-- what `write_candidates` leaves: by the room rule, width 2, 6 and 6, and one candidate per cut as the need
pub record Written (g : Given) (l : Rooms) (r : ℕ) (l' : Rooms) : Type 0 where
  pub counted : r ≡ cand_count g
  pub at : l'.at ≡ room_of 0 2 g.count (cand_numbers g) l.at
  pub cand : l'.cand ≡ room_of +0 6 g.count (cand_shapes g) l.cand
  pub probe : l'.probe ≡ room_of +0 6 g.count (probe_numbers g) l.probe
