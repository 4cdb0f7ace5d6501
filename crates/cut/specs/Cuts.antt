-- Document 01, "Cuts and candidates": the cuts of one outline, in their order of arrival.
use Rattle.std.specs.Prelude.{ℕ, ◌+◌, ◌-◌, ◌*◌, ◌/◌, ◌%◌, ◌^◌, ◌≤◌, ◌<◌, false, cond, ◌≡◌, List, length, get_or, ltb, eqb, Float}
use Rattle.basis.specs.declared.number.Tolerance.{Tolerance}
use Rattle.basis.specs.Sizes.{most_hits, most_laps}
use Rattle.outline.specs.declared.point.Point.{Point}
use Rattle.outline.specs.Outline.{Whole, wrap, point_at}
use Rattle.view.specs.Create.{near_vertex}
use Rattle.cut.specs.declared.arrival.Case.{Case}
use Rattle.cut.specs.declared.arrival.Cut.{Cut}
use Rattle.cut.specs.declared.arrival.Cuts.{Cuts}

-- What a call has: an outline and its vertex count; which outline it is, source 1 or 2; the intersections and the overlaps, each as a list of indexes, a list of numbers
-- and a count; the tolerance.
pub record Given : Type 0 where
  pub outline : List Float
  pub vc : ℕ
  pub source : ℕ
  pub hit_at : List ℕ
  pub hit : List Float
  pub hits : ℕ
  pub lap_at : List ℕ
  pub lap : List Float
  pub laps : ℕ
  pub tolerance : Tolerance

-- its lists, with what stands beside them
abbrev pub given : List Float → List ℕ → List Float → List ℕ → List Float → Case → Given
given o ha h la l s =
    record { outline = o; vc = s.vc; source = s.source; hit_at = ha; hit = h; hits = s.hits; lap_at = la; lap = l; laps = s.laps; tolerance = s.tolerance }

-- the same, of the references that a function is handed
abbrev pub held : Cuts → Given
held c = given c.outline.now c.hit_at.now c.hit.now c.lap_at.now c.lap.now c.case

-- what stands beside them, of an entry's parameters in their order
abbrev pub case_of : ℕ → ℕ → ℕ → ℕ → Tolerance → Case
case_of vc source hits laps t = record { vc = vc; source = source; hits = hits; laps = laps; tolerance = t }

-- which of two indexes, the one on outline 1 and the one on outline 2, is of the outline that a source names
unfoldable pub which_of : ℕ → ℕ
which_of source = cond (eqb source 2) 1 0

-- "A basic intersection is a cut at its start index on that outline." Intersection i has two indexes, one for each outline, and two numbers.
unfoldable pub hit_cut : List ℕ → List Float → ℕ → ℕ → Cut
hit_cut ha h source i = record { segment = get_or ha (2 * i + which_of source) 0; mark = false; point = point_at h (2 * i) }

-- "each index moves to the next if its point agrees with the next vertex"
unfoldable pub moved : List Float → ℕ → ℕ → Point → Tolerance → ℕ
moved o vc i p t = cond (near_vertex o vc (i + 1) p t) (wrap vc (i + 1)) i

-- "On outline 2 the start carries the overlap mark; on outline 1 also, unless the overlap is opposing, when the end carries it." 0 is the start, 1 the end.
unfoldable pub marked_end : ℕ → ℕ → ℕ
marked_end source opposing = cond (eqb source 2) 0 (cond (eqb opposing 1) 1 0)

-- "An overlap gives its start then its end": its cut at an end, 0 or 1. Overlap j has seven indexes, of which the start's stand at 0 and 1, the end's
-- at 2 and 3 and the yes or no of opposing at 4; and six numbers, of which the start point stands at 0 and the end point at 4.
unfoldable pub lap_cut : List Float → ℕ → ℕ → List ℕ → List Float → Tolerance → ℕ → ℕ → Cut
lap_cut o vc source la l t j end =
    record {
      segment = moved o vc (get_or la (7 * j + 2 * end + which_of source) 0) (point_at l (6 * j + 4 * end)) t;
      mark = eqb end (marked_end source (get_or la (7 * j + 4) 0));
      point = point_at l (6 * j + 4 * end);
    }

-- the number of cuts is a number of the machine
abbrev pub Countable : Case → Type 0
Countable s = s.hits + 2 * s.laps < 2 ^ 64

-- one cut for each intersection, two for each overlap
abbrev pub cut_count : Given → ℕ
cut_count g = g.hits + 2 * g.laps

-- the cut of an arrival number: "(intersections first)", then start and end of each overlap in turn
unfoldable pub cut_of : Given → ℕ → Cut
cut_of g n =
    cond (ltb n g.hits) (hit_cut g.hit_at g.hit g.source n)
    (lap_cut g.outline g.vc g.source g.lap_at g.lap g.tolerance ((n - g.hits) / 2) ((n - g.hits) % 2))

-- ---- what a caller has shown

-- lengths and counts are as document 01 has them, and every index of this outline is below its vertex count
pub record Ready (g : Given) : Type 0 where
  pub whole : Whole g.outline g.vc
  pub hit_pairs : length g.hit_at ≡ 2 * g.hits
  pub hit_points : length g.hit ≡ 2 * g.hits
  pub few_hits : g.hits ≤ most_hits
  pub lap_sevens : length g.lap_at ≡ 7 * g.laps
  pub lap_sixes : length g.lap ≡ 6 * g.laps
  pub few_laps : g.laps ≤ most_laps
  pub hits_inside : (i : ℕ) → i < g.hits → get_or g.hit_at (2 * i + which_of g.source) 0 < g.vc
  pub laps_inside : (j end : ℕ) → j < g.laps → end < 2 → get_or g.lap_at (7 * j + 2 * end + which_of g.source) 0 < g.vc

-- a number of arrival
pub record Arrival (g : Given) (n : ℕ) : Type 0 where
  pub ready : Ready g
  pub arrives : n < cut_count g

-- an intersection of the lists
pub record HitFit (ha : List ℕ) (h : List Float) (i : ℕ) : Type 0 where
  pub indexed : 2 * i + 1 < length ha
  pub pointed : 2 * i + 1 < length h

-- an overlap of the lists, and one of its ends
pub record LapFit (o : List Float) (vc source : ℕ) (la : List ℕ) (l : List Float) (j end : ℕ) : Type 0 where
  pub whole : Whole o vc
  pub either : end < 2
  pub few : j < most_laps
  pub indexed : 7 * j + 6 < length la
  pub pointed : 6 * j + 5 < length l
  pub inside : get_or la (7 * j + 2 * end + which_of source) 0 < vc

-- ---- what a function gives

-- which of two indexes it is
pub record Which (source r : ℕ) : Type 0 where
  pub is : r ≡ which_of source
  pub either : r < 2
