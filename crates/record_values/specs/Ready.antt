-- What the functions that list values require.
use Rattle.std.specs.Prelude.{ℕ, ◌+◌, ◌*◌, ◌≤◌, List, length, Float}
use Rattle.basis.specs.declared.number.Tolerance.{Tolerance}
use Rattle.fields.specs.Ready.{Number, NoNan}
use Rattle.slice.specs.Slice.{code_width, shape_width}
use Rattle.record_form.specs.Form.{entry_width}

-- tolerances that are numbers
pub record Numbers (t : Tolerance) : Type 0 where
  pub x : Number t.x
  pub y : Number t.y

-- codes, numbers and editions of so many slices, and room for them from `to` on in a list of m
pub record MixFit (codes : ℕ) (numbers : List Float) (dates count m to : ℕ) : Type 0 where
  pub first : count * code_width ≤ codes
  pub second : count * shape_width ≤ length numbers
  pub third : count ≤ dates
  pub target : to + count * entry_width ≤ m
  pub plain : NoNan numbers

-- all numbers of a stitch, and room for all values
pub record ValuesFit (o1 o2 : List Float) (codes : ℕ) (numbers : List Float) (dates count m : ℕ) : Type 0 where
  pub first : count * code_width ≤ codes
  pub second : count * shape_width ≤ length numbers
  pub third : count ≤ dates
  pub target : length o1 + length o2 + count * entry_width ≤ m
  pub plain1 : NoNan o1
  pub plain2 : NoNan o2
  pub plain3 : NoNan numbers
