-- What a caller has shown, and what the functions leave: one record for each contract.
use Rattle.std.specs.Prelude.{ℕ, ◌+◌, ◌*◌, ◌≤◌, ◌<◌, ◌≡◌, List, length, Float}
use Rattle.outline.specs.Outline.{point_at}
use Rattle.basis.specs.Sizes.{most_slices}
use Rattle.view.specs.View.{Fit}
use Rattle.stitch_vertices.specs.Held.{chain_of, Grown}
use Rattle.stitch_run.specs.Stitch.{Given, slice_outline, slice_count, start_point_of, add_slice}
use Rattle.slice.specs.Slice.{code_width, shape_width, slice_view, slice_offset}

-- the lists are as long as the count says, and each slice's view fits its outline
pub record Sound (g : Given) : Type 0 where
  pub at : length g.slice_at ≡ code_width * g.slices
  pub numbers : length g.slice ≡ shape_width * g.slices
  pub few : g.slices ≤ most_slices
  pub selectors : g.selector < 2
  pub views : (i : ℕ) → i < g.slices → Fit (slice_outline g i) (slice_count g i) (slice_view g.slice_at g.slice i)

-- ---- slices

pub record SliceFit (g : Given) (i : ℕ) : Type 0 where
  pub sound : Sound g
  pub here : i < g.slices

-- the room holds n vertices and has room for all of the slice's
pub record SliceMore (g : Given) (i : ℕ) (room : List Float) (n : ℕ) : Type 0 where
  pub slice : SliceFit g i
  pub fits : 3 * (n + (slice_offset g.slice_at i + 2)) ≤ length room

pub record SliceAdded (g : Given) (i n : ℕ) (room : List Float) (r : ℕ) (room' : List Float) : Type 0 where
  pub grown : Grown (add_slice g i (chain_of room n)) (slice_offset g.slice_at i + 2) n room r room'
  pub some : 0 < r

-- ---- the slices' start points, x and y of each

pub record PointsFit (g : Given) (points : List Float) : Type 0 where
  pub sound : Sound g
  pub size : 2 * g.slices ≤ length points

pub record Points (g : Given) (points : List Float) : Type 0 where
  pub size : 2 * g.slices ≤ length points
  pub holds : (j : ℕ) → j < g.slices → point_at points (2 * j) ≡ start_point_of g j
