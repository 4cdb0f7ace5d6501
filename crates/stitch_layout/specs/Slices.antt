-- Slices, their groups and their lists.
use Rattle.std.specs.Prelude.{ℕ, ◌+◌, ◌-◌, ◌*◌, ◌/◌, ◌%◌, Bool, cond, ◌&&◌, List, ◌≡◌, eqb, ltb, get_or, Float}
use Rattle.std.specs.Int.Bits.{bit_and}
use Rattle.std.specs.Float.{nan}
use Rattle.std.specs.Float.Ieee.{eq, le}
use Rattle.stitch_cell.specs.Cell.{cell_of}
use Rattle.stitch_layout.specs.declared.layout.Layout.{Layout}
use Rattle.stitch_layout.specs.declared.layout.Query.{Query}

abbrev pub x_of : List Float → ℕ → Float
x_of points j = get_or points (2 * j) nan

abbrev pub y_of : List Float → ℕ → Float
y_of points j = get_or points (2 * j + 1) nan

-- 0: outline 1; 1: outline 2; 2: overlaps of either
unfoldable pub group_of : Layout → ℕ → ℕ
group_of w j = cond (ltb j w.two) 0 (cond (ltb j w.over) 1 2)

-- the list of a cell and a group
unfoldable pub list_of : ℕ → ℕ → ℕ → ℕ → ℕ
list_of lists cx cy g = bit_and ((cx % 4294967296 * 1327217885 + cy % 4294967296 * 1737350767 + g % 4 * 699050000) / 1048576) (lists - 1)

-- slice j's cells, and its list
abbrev pub column_of : List Float → Layout → ℕ → ℕ
column_of points w j = cell_of w.x (x_of points j)

abbrev pub line_of : List Float → Layout → ℕ → ℕ
line_of points w j = cell_of w.y (y_of points j)

unfoldable pub home_of : List Float → Layout → ℕ → ℕ
home_of points w j = list_of w.lists (column_of points w j) (line_of points w j) (group_of w j)

-- slice j starts in the closed box
abbrev pub starts_in : List Float → Query → ℕ → Bool
starts_in points q j =
    (((le q.left (x_of points j)) && (le (x_of points j) q.right)) && (le q.bottom (y_of points j))) && (le (y_of points j) q.top)

unfoldable pub meets_of : List Float → Layout → Query → ℕ → Bool
meets_of points w q j = starts_in points q j && eqb (group_of w j) q.group

-- slices i and j begin at one point
abbrev pub same_start : List Float → ℕ → ℕ → Bool
same_start points i j = (eq (x_of points i) (x_of points j)) && (eq (y_of points i) (y_of points j))

-- a query meets both or neither
abbrev pub Alike : List Float → Layout → ℕ → ℕ → Type 0
Alike points w i j = (q : Query) → meets_of points w q i ≡ meets_of points w q j
