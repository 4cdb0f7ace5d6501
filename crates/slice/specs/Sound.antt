-- Slices to which a stitch's numbers 1, 3, 5, 6 and 7 do not apply: one, and lists of them.
use Rattle.std.specs.Prelude.{ℕ, ◌*◌, ◌≤◌, true, ◌≡◌, List, length, Float}
use Rattle.basis.specs.Number.{all_within}
use Rattle.basis.specs.Each.{choices_known}
use Rattle.slice.specs.Slice.{code_width, shape_width, Slice, shape_of}
use Rattle.slice.specs.Faults.{source_known, start_inside, offset_inside, sources_known, starts_inside, offsets_inside}

-- one slice, for outlines of vc1 and vc2 vertices: 3, 5, 6 and 7 do not apply
pub record SliceSound (vc1 vc2 : ℕ) (s : Slice) : Type 0 where
  pub source : source_known s.codes ≡ true
  pub turned : s.codes.inverted ≤ 1
  pub starts : start_inside vc1 vc2 s.codes ≡ true
  pub reaches : offset_inside vc1 vc2 s.codes ≡ true
  pub numbers : all_within (shape_of s) ≡ true

-- lists of n slices: 1, 3, 5, 6 and 7 do not apply
pub record Accepted (vc1 vc2 n : ℕ) (at : List ℕ) (shape : List Float) : Type 0 where
  pub codes : length at ≡ code_width * n
  pub shapes : length shape ≡ shape_width * n
  pub sources : sources_known at ≡ true
  pub turned : choices_known code_width 1 at ≡ true
  pub starts : starts_inside vc1 vc2 at ≡ true
  pub reaches : offsets_inside vc1 vc2 at ≡ true
  pub numbers : all_within shape ≡ true
