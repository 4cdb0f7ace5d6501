-- Document 02, K8: "the report: given the vertices of up to 4,096 such outlines, the count, the number with area zero, and the total of the absolute doubled areas".
-- The vertices lie one outline after the other; an end says how many vertices all outlines up to and with its own have.
use Rattle.std.specs.Prelude.{ℕ, ◌+◌, ◌-◌, ◌*◌, ◌≤◌, ◌≡◌, Bool, false, ◌||◌, List, [], ◌∷◌, eqb, length, get_or, take, drop, ℤ, pos, nat_abs}
use Rattle.basis.specs.Refuse.{size_fault}
use Rattle.whole.specs.Fit.{Near}
use Rattle.whole.specs.Two.{two}
use Rattle.basis.specs.Choice.{code_of}
use Rattle.straight.specs.Plane.{Spot, spots, area}
use Rattle.straight_report.specs.declared.Report.{Report}

-- the numbers of the outline from vertex `from` to the end e
abbrev pub part : List ℤ → ℕ → ℕ → List ℤ
part l from e = take (2 * e - 2 * from) (drop (2 * from) l)

unfoldable pub outlines : List ℤ → ℕ → List ℕ → List (List Spot)
outlines l from [] = []
outlines l from (e ∷ es) = spots (part l from e) ∷ outlines l e es

-- "the number with area zero"
unfoldable pub zeros : List (List Spot) → ℕ
zeros [] = 0
zeros (o ∷ os) = code_of (eqb (nat_abs (area o)) 0) + zeros os

-- "the total of the absolute doubled areas"
unfoldable pub sizes : List (List Spot) → ℕ
sizes [] = 0
sizes (o ∷ os) = nat_abs (area o) + sizes os

-- both
abbrev pub report_of : List (List Spot) → Report
report_of os = record { zero = zeros os; total = two (sizes os) }

-- where the last outline ends
unfoldable pub last_of : ℕ → List ℕ → ℕ
last_of d [] = d
last_of d (e ∷ es) = last_of e es

-- 2: some outline is too short or too long. An end below the one before it gives an outline that is too short
unfoldable pub sizes_fault : ℕ → List ℕ → Bool
sizes_fault from [] = false
sizes_fault from (e ∷ es) = size_fault (e - from) || sizes_fault e es

-- ---- what the code asks

-- one outline of the list
pub record Cut (l : List ℤ) (from e : ℕ) : Type 0 where
  pub least : 2 ≤ e - from
  pub most : e - from ≤ 1024
  pub fits : 2 * e ≤ length l
  pub close : (k : ℕ) → Near 400000000 (get_or l k (pos 0))

-- outlines that are accepted
pub record Loops (l : List ℤ) (ends : List ℕ) : Type 0 where
  pub sized : sizes_fault 0 ends ≡ false
  pub whole : length l ≡ 2 * last_of 0 ends
  pub few : length ends ≤ 4096
  pub close : (k : ℕ) → Near 400000000 (get_or l k (pos 0))
