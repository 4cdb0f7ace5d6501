-- The table of a call of the stitch by tolerances, of what is handed in.
use Rattle.std.specs.Prelude.{ℕ, List, ◌++◌, length}
use Rattle.basis.specs.Refuse.{Row, first_of}
use Rattle.slice.specs.Editions.{Editions, edition_list_rows, edition_rows}
use Rattle.stitch_run.specs.Stitch.{Given}
use Rattle.stitch_faults.specs.declared.faults.Lengths.{Lengths}
use Rattle.stitch_faults.specs.StitchRows.{list_rows, code_rows, number_rows, index_rows, room_rows}

-- a call's table, part by part
abbrev pub list_part : Given → List Row
list_part g = list_rows (length g.outline1) g.vc1 (length g.outline2) g.vc2 (length g.slice_at) (length g.slice) g.slices

abbrev pub code_part : Given → List Row
code_part g = code_rows g.vc1 g.vc2 g.selector g.slice_at

abbrev pub number_part : Given → List Row
number_part g = number_rows g.tolerance g.outline1 g.outline2 g.slice

abbrev pub index_part : Given → List Row
index_part g = index_rows g.vc1 g.vc2 g.slice_at g.starts g.slices

-- 1 to 8, but for the list of editions
abbrev pub shape_rows : Given → List Row
shape_rows g = list_part g ++ (code_part g ++ (number_part g ++ index_part g))

-- 1 to 8, with so many editions of slices
abbrev pub input_rows : Given → ℕ → List Row
input_rows g len = edition_list_rows len g.slices ++ shape_rows g

-- 14
abbrev pub edition_part : Given → Editions → List Row
edition_part g e = edition_rows e g.slice_at

-- 9
abbrev pub room_part : Given → Lengths → List Row
room_part g l = room_rows g.slice_at g.slices l

-- "14 edition differs, after 8 and before 9"
abbrev pub stitch_rows : Given → Editions → Lengths → List Row
stitch_rows g e l = input_rows g (length e.slices) ++ (edition_part g e ++ room_part g l)

unfoldable pub stitch_refusal : Given → Editions → Lengths → ℕ
stitch_refusal g e l = first_of (stitch_rows g e l)
