-- The order as a caller says it: three numbers a cut, as `mask_cut_order` writes them. What the code that looks at it is given, and what it tells.
use Rattle.std.specs.Prelude.{ℕ, ◌+◌, ◌*◌, ◌≤◌, Bool, true, not, ◌&&◌, ◌||◌, ◌≡◌, List, length, get_or, ltb, eqb, Float}
use Rattle.basis.specs.Choice.{code_of}
use Rattle.cut.specs.declared.arrival.Cut.{Cut}
use Rattle.cut.specs.Cuts.{Given}
use Rattle.cut.specs.Order.{distance, cut_numbers}
use Rattle.cut_runs.specs.Sooner.{sooner}
use Rattle.cut_order.specs.declared.along.Key.{Key}

-- what a cut of an arrival number is sorted by
unfoldable pub key_by : List Float → Cut → ℕ → Key
key_by o c n = record { segment = c.segment; distance = distance o c; arrival = n }

-- the one goes in front of the other: it is before it, or it is not behind it and arrived first
unfoldable pub goes_by : Key → Key → Bool
goes_by k l = sooner k.segment l.segment k.distance l.distance || (ltb k.arrival l.arrival && not (sooner l.segment k.segment l.distance k.distance))

-- the first of all has none in front of it
unfoldable pub goes_on : ℕ → Key → Key → Bool
goes_on i last key = eqb i 0 || goes_by last key

-- what is said at place i is the cut's segment and mark, and it goes on from the one in front of it
unfoldable pub follows_by : List ℕ → ℕ → Cut → Key → Key → Bool
follows_by cut_at i c last key = eqb (get_or cut_at (3 * i) 0) c.segment && (eqb (get_or cut_at (3 * i + 1) 0) (code_of c.mark) && goes_on i last key)

-- ---- what a caller has shown

-- three numbers at place i
pub record Third (cut_at : List ℕ) (i : ℕ) : Type 0 where
  pub inside : 3 * i + 3 ≤ length cut_at

-- ---- what it tells: where yes, the list is the numbers of the cuts in their order
pub record Followed (g : Given) (cut_at : List ℕ) (r : Bool) : Type 0 where
  pub yes : r ≡ true → cut_at ≡ cut_numbers g
