-- What the code that writes the cuts is given.
use Rattle.std.specs.Prelude.{ℕ, ◌≤◌, List, length, Float}
use Rattle.cut.specs.Cuts.{Given, cut_count}
use Rattle.cut.specs.Order.{Roomy}
use Rattle.cut_order.specs.Sort.{Ordered}

-- the order is known, and there is room
pub record Known (g : Given) (order cut_at : List ℕ) (cut : List Float) : Type 0 where
  pub roomy : Roomy g cut_at cut
  pub sorted : Ordered g order

-- a list for the order of all cuts, and room
pub record WriteRoom (g : Given) (order cut_at : List ℕ) (cut : List Float) : Type 0 where
  pub roomy : Roomy g cut_at cut
  pub long : cut_count g ≤ length order
