-- What the crate's functions ask of each other and leave: one record for each contract.
use Rattle.std.specs.Prelude.{ℕ, ◌+◌, ◌-◌, ◌*◌, ◌≤◌, ◌<◌, false, cond, ◌≡◌, List, ◌++◌, length, drop, Float, ltb, Option}
use Rattle.std.proofs.lemmas.List.Edits.{sets}
use Rattle.basis.specs.Number.{+0}
use Rattle.basis.specs.Room.{cleared}
use Rattle.basis.specs.Sizes.{most_vertices, most_candidates}
use Rattle.outline.specs.declared.point.Point.{Point}
use Rattle.outline.specs.Outline.{wrap, point_at}
use Rattle.view.specs.declared.create.Walk.{Walk}
use Rattle.view.specs.Create.{WalkFit}
use Rattle.candidate.specs.declared.next.Next.{Next}
use Rattle.candidate.specs.declared.at_cut.Candidate.{Candidate}
use Rattle.candidate.specs.Candidates.{Given, segment_at, same_next, start_part, whole_split, first_cut, traverse_of, kept, numbers_of, shape_of, probe_of, cand_count, cand_numbers, cand_shapes, probe_numbers}
use Rattle.candidate.specs.Ready.{Sound, Rooms, Roomy}

-- ---- a place

-- it is one of the cuts
pub record NextFit (cut_at : List ℕ) (count p : ℕ) : Type 0 where
  pub inside : 3 * count ≤ length cut_at
  pub here : p < count
  pub few : count ≤ most_candidates

pub record Place (g : Given) (p : ℕ) : Type 0 where
  pub sound : Sound g
  pub here : p < g.count

-- and its segment's last
pub record LastPlace (g : Given) (p : ℕ) : Type 0 where
  pub place : Place g p
  pub alone : same_next g.cut_at g.count p ≡ false

-- ---- the next segment that has a cut

-- one of so many places
pub record Among (count p : ℕ) : Type 0 where
  pub here : p < count

-- the next place in the order: after the last cut comes the first
unfoldable pub next_place : ℕ → ℕ → ℕ
next_place count p = cond (ltb (p + 1) count) (p + 1) 0

pub record NextPlace (count p r : ℕ) : Type 0 where
  pub is : r ≡ next_place count p
  pub below : r < count

-- how many segments on from s the segment `to` is: the whole way round where they are one
unfoldable pub segments_on : ℕ → ℕ → ℕ → ℕ
segments_on vc s to = cond (ltb s to) (to - s) (vc + to - s)

-- two segments of an outline
pub record Segments (vc s to : ℕ) : Type 0 where
  pub most : vc ≤ most_vertices
  pub begins : s < vc
  pub ends : to < vc

-- the cuts go by segment, and the one at place p is its segment's last
pub record LastCut (vc : ℕ) (cut_at : List ℕ) (count p : ℕ) : Type 0 where
  pub most : vc ≤ most_vertices
  pub fit : NextFit cut_at count p
  pub inside : (q : ℕ) → q < count → segment_at cut_at q < vc
  pub ascend : (q r : ℕ) → q ≤ r → r < count → segment_at cut_at q ≤ segment_at cut_at r
  pub alone : same_next cut_at count p ≡ false

-- where the walk from there ends: its traverse count, the segment there, and that segment's first cut
pub record NextCut (vc : ℕ) (cut_at : List ℕ) (count p : ℕ) (r : Next) : Type 0 where
  pub traverses : r.traverse ≡ traverse_of vc cut_at count (segment_at cut_at p)
  pub wraps : r.index ≡ wrap vc (segment_at cut_at p + r.traverse)
  pub first_there : r.cut ≡ first_cut cut_at count r.index
  pub least : 1 ≤ r.traverse
  pub most : r.traverse ≤ vc
  pub inside : r.index < vc
  pub below : r.cut < count

-- the walk on a segment from place p to there, where the point is `end`
abbrev pub walk_with : Point → List Float → ℕ → ℕ → Next → Walk
walk_with end splits segment p next =
    record {
      start_index = segment;
      end_intersect = end;
      intersect_index = next.index;
      updated_start = whole_split splits p;
      traverse_count = next.traverse;
      split_bulge = (start_part splits next.cut).bulge;
    }

-- the same where the points are a list
abbrev pub walk_by : List Float → List Float → ℕ → ℕ → Next → Walk
walk_by cut splits segment p next = walk_with (point_at cut (2 * next.cut)) splits segment p next

-- the splits that it reads are there
pub record WalkParts (splits : List Float) (p : ℕ) (next : Next) : Type 0 where
  pub few : next.cut < most_candidates
  pub here : p < most_candidates
  pub part : 9 * next.cut + 2 < length splits
  pub whole : 9 * p + 8 < length splits

-- a walk that `create` takes, with its start index
pub record WalkReady (o : List Float) (vc : ℕ) (w : Walk) : Type 0 where
  pub fit : WalkFit o vc w
  pub starts : w.start_index < vc

-- ---- writing

-- room for one candidate after m others
pub record PutFit (l : Rooms) (m : ℕ) : Type 0 where
  pub low : m < most_candidates
  pub at : 2 * m + 2 ≤ length l.at
  pub cand : 6 * m + 6 ≤ length l.cand
  pub probe : 6 * m + 6 ≤ length l.probe

-- a candidate written after m others
pub record Put (c : Option Candidate) (m : ℕ) (l : Rooms) (r : ℕ) (l' : Rooms) : Type 0 where
  pub counted : r ≡ m + length (kept c)
  pub at : l'.at ≡ sets l.at (2 * m) (numbers_of c)
  pub cand : l'.cand ≡ sets l.cand (6 * m) (shape_of c)
  pub probe : l'.probe ≡ sets l.probe (6 * m) (probe_of c)

-- the candidates in front of each list, and behind them what it held
pub record Items (g : Given) (l : Rooms) (r : ℕ) (l' : Rooms) : Type 0 where
  pub counted : r ≡ cand_count g
  pub few : r ≤ g.count
  pub at : l'.at ≡ cand_numbers g ++ drop (2 * r) l.at
  pub cand : l'.cand ≡ cand_shapes g ++ drop (6 * r) l.cand
  pub probe : l'.probe ≡ probe_numbers g ++ drop (6 * r) l.probe

-- the lists have room for the need, and m candidates are within it
pub record ClearFit (l : Rooms) (m need : ℕ) : Type 0 where
  pub within : m ≤ need
  pub roomy : Roomy need l

-- cleared from candidate number m up to the need
pub record Cleared (l : Rooms) (m need : ℕ) (l' : Rooms) : Type 0 where
  pub at : l'.at ≡ cleared 0 (2 * m) (2 * need) l.at
  pub cand : l'.cand ≡ cleared +0 (6 * m) (6 * need) l.cand
  pub probe : l'.probe ≡ cleared +0 (6 * m) (6 * need) l.probe
