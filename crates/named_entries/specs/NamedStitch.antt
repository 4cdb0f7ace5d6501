-- The entry `mask_stitch`: it names a setting, whose tolerances it uses.
use Rattle.std.specs.Prelude.{ℕ, true, ◌≡◌, List, ◌++◌, length}
use Rattle.basis.specs.Number.{tolerance_of}
use Rattle.basis.specs.declared.number.Tolerance.{Tolerance}
use Rattle.basis.specs.Refuse.{Row, first_of}
use Rattle.settings.specs.Settings.{Held, Sized, known, asked_of}
use Rattle.slice.specs.Editions.{Editions, edition_list_rows}
use Rattle.stitch_run.specs.Stitch.{Given}
use Rattle.stitch.specs.Lent.{Lists}
use Rattle.stitch_entries.specs.declared.answer.StitchAnswer.{StitchAnswer}
use Rattle.stitch_faults.specs.declared.faults.Lengths.{Lengths}
use Rattle.stitch_entries.specs.StitchEntry.{lengths_of, StitchBy}
use Rattle.stitch_faults.specs.StitchTable.{list_part, code_part, number_part, index_part, edition_part, room_part}
use Rattle.named_entries.specs.Named.{named_rows}

-- the setting's tolerances; its limit is not looked at
abbrev pub tolerance_in : Held → ℕ → Tolerance
tolerance_in h k = tolerance_of (asked_of h k).tolerance_x (asked_of h k).tolerance_y

-- the table of a stitch: 1 to 3, and from 4 on
abbrev pub early_part : Given → Editions → List Row
early_part g e = edition_list_rows (length e.slices) g.slices ++ (list_part g ++ code_part g)

abbrev pub late_part : Given → Editions → Lengths → List Row
late_part g e l = number_part g ++ (index_part g ++ (edition_part g e ++ room_part g l))

abbrev pub named_stitch_rows : Held → ℕ → Given → Editions → Lengths → List Row
named_stitch_rows h k g e l = named_rows h k (early_part g e) (late_part g e l)

unfoldable pub named_stitch_refusal : Held → ℕ → Given → Editions → Lengths → ℕ
named_stitch_refusal h k g e l = first_of (named_stitch_rows h k g e l)

-- a record that holds a setting with these tolerances
pub record Holding (h : Held) (k : ℕ) (t : Tolerance) : Type 0 where
  pub sized : Sized h
  pub there : known h.entered k ≡ true
  pub tolerances : tolerance_in h k ≡ t

-- the answer and the lent lists, by that number
abbrev pub NamedStitch : Held → ℕ → Given → Editions → Lists → StitchAnswer → Lists → Type 0
NamedStitch h k g e x r left = StitchBy (named_stitch_refusal h k g e (lengths_of x)) g x r left
