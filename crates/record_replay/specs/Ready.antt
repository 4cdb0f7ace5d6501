-- The lists that a record is read to, and the part of them that a plan names.
use Rattle.std.specs.Prelude.{ℕ, ◌*◌, ◌≤◌, List, length, take, Float}
use Rattle.slice.specs.Slice.{code_width, shape_width}
use Rattle.stitch_run.specs.declared.plan.Plan.{Plan}
use Rattle.record.specs.Record.{Lists, lists}

abbrev pub reading : List Float → List Float → List ℕ → List Float → List ℕ → Lists
reading o1 o2 at s dates = lists o1 o2 at s dates

-- the fronts of the lists, as long as the counts say
abbrev pub fronts : Plan → Lists → Lists
fronts p l =
    lists (take (3 * p.vc1) l.outline1) (take (3 * p.vc2) l.outline2) (take (code_width * p.slices) l.slice_at) (take (shape_width * p.slices) l.slice)
    (take p.slices l.slice_edition)

-- what was read is there
pub record Held (p : Plan) (l : Lists) : Type 0 where
  pub first : 3 * p.vc1 ≤ length l.outline1
  pub second : 3 * p.vc2 ≤ length l.outline2
  pub codes : code_width * p.slices ≤ length l.slice_at
  pub shapes : shape_width * p.slices ≤ length l.slice
  pub dates : p.slices ≤ length l.slice_edition
