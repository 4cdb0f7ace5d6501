-- What each function requires.
use Rattle.std.specs.Prelude.{ℕ, ◌*◌, ◌≤◌, ◌<◌, Bool, List, ◌≡◌, length, Float}
use Rattle.basis.specs.Sizes.{most_slices}
use Rattle.stitch_cell.specs.Cell.{Steady}
use Rattle.stitch_layout.specs.declared.layout.Layout.{Layout}
use Rattle.stitch_layout.specs.declared.layout.Query.{Query}
use Rattle.stitch_links.specs.declared.look.Cells.{Cells}
use Rattle.stitch_run.specs.Run.{free}
use Rattle.stitch_layout.specs.Slices.{home_of, meets_of}
use Rattle.stitch_layout.specs.Links.{Linked}
use Rattle.stitch_layout.specs.Ready.{Fit}
use Rattle.stitch_links.specs.Looks.{hit_of, lowest_of, cells_of}

pub record Marked (visited : List Bool) (j : ℕ) : Type 0 where
  pub inside : j < length visited

-- start points and marks, which a scan looks through too
pub record ScanFit (points : List Float) (visited : List Bool) (n : ℕ) : Type 0 where
  pub size : 2 * n ≤ length points
  pub marks : length visited ≡ n
  pub few : n ≤ most_slices

-- slices that hang on their lists
pub record Lookable (points : List Float) (visited : List Bool) (w : Layout) (first : ℕ) (link : List ℕ) : Type 0 where
  pub fit : Fit points w
  pub marks : w.count ≤ length visited
  pub linked : Linked (free visited first) (home_of points w) (meets_of points w) w.lists w.count link

-- a list to be looked through
pub record OnList (points : List Float) (visited : List Bool) (w : Layout) (first : ℕ) (link : List ℕ) (h : ℕ) : Type 0 where
  pub ready : Lookable points visited w first link
  pub inside : h < w.lists

-- a column of cells, up to a line; and columns
pub record Row (points : List Float) (visited : List Bool) (w : Layout) (first : ℕ) (link : List ℕ) (y1 : ℕ) : Type 0 where
  pub ready : Lookable points visited w first link
  pub low : y1 < 9223372036854775808

pub record Rows (points : List Float) (visited : List Bool) (w : Layout) (first : ℕ) (link : List ℕ) (c : Cells) : Type 0 where
  pub ready : Lookable points visited w first link
  pub low : c.y1 < 9223372036854775808
  pub low_x : c.x1 < 9223372036854775808

-- axes that have cells
pub record Sides (w : Layout) : Type 0 where
  pub x : Steady w.x
  pub y : Steady w.y

-- a box, with the cells of its sides
pub record Asked (points : List Float) (visited : List Bool) (w : Layout) (q : Query) (link : List ℕ) (c : Cells) : Type 0 where
  pub ready : Lookable points visited w q.first link
  pub cells : c ≡ cells_of w q

-- the lowest slice that is looked for, by the plain definition; and the invariant of the lists still holds
pub record Lowest (points : List Float) (visited : List Bool) (w : Layout) (q : Query) (link : List ℕ) (r : ℕ) : Type 0 where
  pub is : r ≡ lowest_of (hit_of points visited w q) w.count
  pub linked : Linked (free visited q.first) (home_of points w) (meets_of points w) w.lists w.count link
