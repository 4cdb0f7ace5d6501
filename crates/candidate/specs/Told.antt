-- The cuts of a call in an order that a list tells, three numbers a cut; each cut's point is that of its number of arrival.
use Rattle.std.specs.Prelude.{ℕ, ◌+◌, ◌*◌, ◌<◌, ◌≡◌, List, get_or, Float}
use Rattle.outline.specs.Outline.{point_at}
use Rattle.cut.specs.Cuts as cuts
use Rattle.cut.specs.Cuts.{cut_count, cut_of}
use Rattle.cut.specs.Order.{cut_points}
use Rattle.candidate.specs.declared.at_cut.Along.{Along}
use Rattle.candidate.specs.Candidates.{Given}
use Rattle.candidate.specs.Ready.{Rooms, Ready}
use Rattle.candidate.specs.Steps.{Place, LastPlace}

-- what the candidates are made from: the cuts in the order told, with the points that the cuts have in their order, and the splits along them
abbrev pub along : cuts.Given → List ℕ → List Float → Given
along g cut_at splits =
    record { outline = g.outline; vc = g.vc; cut_at = cut_at; cut = cut_points g; count = cut_count g; splits = splits; tolerance = g.tolerance }

-- the same, of the references that a function is handed
abbrev pub told : Along → Given
told a = along (cuts.held a.cuts) a.cut_at.now a.splits.now

-- each place has the number of a cut, and the point there is that cut's
pub record Told (g : cuts.Given) (cut_at : List ℕ) : Type 0 where
  pub ready : cuts.Ready g
  pub arrives : (q : ℕ) → q < cut_count g → get_or cut_at (3 * q + 2) 0 < cut_count g
  pub point : (q : ℕ) → q < cut_count g → point_at (cut_points g) (2 * q) ≡ (cut_of g (get_or cut_at (3 * q + 2) 0)).point

-- a place of it, and one that is its segment's last
pub record ToldPlace (g : cuts.Given) (cut_at : List ℕ) (splits : List Float) (p : ℕ) : Type 0 where
  pub told : Told g cut_at
  pub place : Place (along g cut_at splits) p

pub record ToldLast (g : cuts.Given) (cut_at : List ℕ) (splits : List Float) (p : ℕ) : Type 0 where
  pub told : Told g cut_at
  pub last : LastPlace (along g cut_at splits) p

-- what the caller of `write_candidates` has shown
pub record ToldReady (g : cuts.Given) (cut_at : List ℕ) (splits : List Float) (l : Rooms) : Type 0 where
  pub told : Told g cut_at
  pub ready : Ready (along g cut_at splits) l
