-- What a look is for, and what it leaves.
use Rattle.std.specs.Prelude.{ℕ, zero, suc, ◌≤◌, ◌<◌, Bool, true, false, cond, ◌&&◌, List, ◌≡◌, eqb, Float}
use Rattle.std.specs.Float.{binary64}
use Rattle.std.specs.Float.Ieee.{add, sub}
use Rattle.select.specs.Select.{no_number}
use Rattle.basis.specs.declared.number.Tolerance.{Tolerance}
use Rattle.outline.specs.declared.point.Point.{Point}
use Rattle.stitch_run.specs.Run.{free}
use Rattle.stitch_cell.specs.Cell.{cell_of}
use Rattle.stitch_layout.specs.declared.layout.Layout.{Layout}
use Rattle.stitch_layout.specs.declared.layout.Query.{Query}
use Rattle.stitch_layout.specs.Slices.{column_of, line_of, home_of, meets_of}
use Rattle.stitch_layout.specs.Links.{Linked}
use Rattle.stitch_links.specs.declared.look.Cells.{Cells}
use Rattle.stitch_links.specs.declared.look.Look.{Look}

-- slice j is looked for
abbrev pub hit_of : List Float → List Bool → Layout → Query → ℕ → Bool
hit_of points visited w q j = free visited q.first j && meets_of points w q j

-- the lowest number below n that passes, or no_number: the plain definition
unfoldable pub lowest_of : (ℕ → Bool) → ℕ → ℕ
lowest_of p zero = no_number
lowest_of p (suc j) = cond (eqb (lowest_of p j) no_number) (cond (p j) j no_number) (lowest_of p j)

-- the cells of a box's sides
abbrev pub cells_of : Layout → Query → Cells
cells_of w q =
    record {
      x0 = cell_of w.x q.left;
      x1 = cell_of w.x q.right;
      y0 = cell_of w.y q.bottom;
      y1 = cell_of w.y q.top;
    }

-- the box around an end, with a tolerance for each axis
abbrev pub query_of : Point → Tolerance → ℕ → ℕ → Query
query_of e t g first =
    record {
      left = sub binary64 e.x t.x;
      right = add binary64 e.x t.x;
      bottom = sub binary64 e.y t.y;
      top = add binary64 e.y t.y;
      group = g;
      first = first;
    }

-- r is a hit, or no_number; among the slices of C there is no lower one
pub record Found (hit : ℕ → Bool) (C : ℕ → Type 0) (n r : ℕ) : Type 0 where
  pub most : r ≤ no_number
  pub found : r < no_number → (r < n) × (hit r ≡ true)
  pub passed : (j : ℕ) → j < n → j < r → C j → hit j ≡ false

-- what a look leaves: the invariant of the lists, and the slice that it found
pub record Looked (free hit : ℕ → Bool) (L : ℕ → ℕ) (meets : Query → ℕ → Bool) (C : ℕ → Type 0) (lists n : ℕ) (link : List ℕ) (r : ℕ) : Type 0 where
  pub linked : Linked free L meets lists n link
  pub found : Found hit C n r

-- slice j's cells are in a block: columns from x0 on, below x1; lines from y0 on, below y1
pub record Block (points : List Float) (w : Layout) (x0 x1 y0 y1 j : ℕ) : Type 0 where
  pub left : x0 ≤ column_of points w j
  pub right : column_of points w j < x1
  pub bottom : y0 ≤ line_of points w j
  pub top : line_of points w j < y1

-- ---- the same of what a look goes through
abbrev pub LookedBy : Look → (ℕ → Type 0) → List ℕ → ℕ → Type 0
LookedBy k C link r =
    Looked (free k.visited.now k.query.first) (hit_of k.points.now k.visited.now k.layout k.query) (home_of k.points.now k.layout) (meets_of k.points.now k.layout) C k.layout.lists k.layout.count link r

abbrev pub ListOf : Look → ℕ → ℕ → Type 0
ListOf k h j = home_of k.points.now k.layout j ≡ h

abbrev pub BlockOf : Look → ℕ → ℕ → ℕ → ℕ → ℕ → Type 0
BlockOf k x0 x1 y0 y1 j = Block k.points.now k.layout x0 x1 y0 y1 j
