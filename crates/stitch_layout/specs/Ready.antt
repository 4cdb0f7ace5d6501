-- What each function requires.
use Rattle.std.specs.Prelude.{ℕ, suc, ◌+◌, ◌*◌, ◌≤◌, ◌<◌, List, length, get_or, Float}
use Rattle.basis.specs.Sizes.{most_slices}
use Rattle.stitch_cell.specs.Cell.{Steady}
use Rattle.stitch_layout.specs.declared.layout.Layout.{Layout}
use Rattle.stitch_layout.specs.Slices.{home_of, meets_of}
use Rattle.stitch_layout.specs.Links.{Next, Run, ever_free}

pub record Masked (lists : ℕ) : Type 0 where
  pub some : 0 < lists
  pub small : lists ≤ 4096

pub record There (points : List Float) (j : ℕ) : Type 0 where
  pub inside : 2 * j + 1 < length points

pub record Both (points : List Float) (i j : ℕ) : Type 0 where
  pub one : There points i
  pub other : There points j

pub record Home (points : List Float) (w : Layout) (j : ℕ) : Type 0 where
  pub there : There points j
  pub lists : Masked w.lists
  pub x : Steady w.x
  pub y : Steady w.y

-- a layout of slices with start points; what the start points are does not matter
pub record Fit (points : List Float) (w : Layout) : Type 0 where
  pub lists : Masked w.lists
  pub few : w.count ≤ most_slices
  pub size : 2 * w.count ≤ length points
  pub x : Steady w.x
  pub y : Steady w.y

-- links before any slice is put on: every list is empty
pub record Empty (points : List Float) (w : Layout) (link : List ℕ) : Type 0 where
  pub fit : Fit points w
  pub size : w.lists + w.count + w.count ≤ length link
  pub none : (h : ℕ) → h < w.lists → w.lists + w.count ≤ get_or link h 0

-- the runs of the slices from `from` on
pub record Runs (points : List Float) (w : Layout) (link : List ℕ) (from : ℕ) : Type 0 where
  pub fit : Fit points w
  pub size : w.lists + w.count + w.count ≤ length link
  pub run : (k : ℕ) → from ≤ k → k < w.count → Run (home_of points w) (meets_of points w) w.lists w.count k (get_or link (w.lists + k + w.count) 0)

-- the first on slice i's list, before i is put in front of it
pub record Before (points : List Float) (w : Layout) (link : List ℕ) (i next : ℕ) : Type 0 where
  pub runs : Runs points w link (suc i)
  pub here : i < w.count
  pub first : Next ever_free (home_of points w) w.lists w.count (home_of points w i) (suc i) next

-- a slice that was not met, after another
pub record Passed (points : List Float) (w : Layout) (link : List ℕ) (seen j : ℕ) : Type 0 where
  pub runs : Runs points w link 0
  pub here : j < w.count
  pub before : seen < w.count
