-- Document 02, K11: masks of K8 come as f64 "whose cuts are whole microdegrees too". What number an f64 is, exactly.
use Rattle.std.specs.Prelude.{◌≡◌, ℕ, ◌+◌, ◌*◌, ◌<◌, ◌≤◌, Bool, true, false, cond, ◌&&◌, ◌||◌, List, [], ◌∷◌, length, ℤ, pos, Float}
use Rattle.std.specs.Float.{fin, binary64}
use Rattle.std.specs.Float.Ieee.{le, lt, eq, of_int, to_signed}
use Rattle.basis.specs.Number.{+0}
use Rattle.basis.specs.All.{all_of}
use Rattle.basis.specs.Items.{first_items}
use Rattle.outline.specs.Outline.{vertex_at, Whole}
use Rattle.straight_entries.specs.Range.{in_reach}

-- -2^63 ≤ x < 2^63
unfoldable pub reach : Float → Bool
reach x = le (fin true 1 (pos 63)) x && lt x (fin false 1 (pos 63))

-- x compares equal to the float of its own whole part, which is of "magnitude at most 400,000,000" (K8). -0 is 0; NaN, infinities and fractions are not whole
unfoldable pub is_whole : Float → Bool
is_whole x = reach x && (eq (of_int binary64 (to_signed 63 x)) x && in_reach 400000000 (to_signed 63 x))

-- which number it is, and 0 where it is none
unfoldable pub value_of : Float → ℤ
value_of x = cond (is_whole x) (to_signed 63 x) (pos 0)

-- a whole number or a zero: what every number of a straight mask is, bulges among them
unfoldable pub readable : Float → Bool
readable x = is_whole x || eq x +0

-- an outline as K8 has it: x and y of each vertex in turn
abbrev pub whole_vertex : List Float → ℕ → List ℤ
whole_vertex o i = value_of (vertex_at o i).x ∷ value_of (vertex_at o i).y ∷ []

unfoldable pub wholes_of : List Float → ℕ → List ℤ
wholes_of o vc = first_items (whole_vertex o) vc

-- ---- what a caller has shown

-- a vertex of the outline, and room for two numbers
pub record WholesFit (o : List Float) (i : ℕ) (room : List ℤ) (at : ℕ) : Type 0 where
  pub there : 3 * i + 2 < length o
  pub x-ok : readable (vertex_at o i).x ≡ true
  pub y-ok : readable (vertex_at o i).y ≡ true
  pub fits : at + 2 ≤ length room

-- room for two numbers a vertex
pub record WholesRoom (o : List Float) (vc : ℕ) (room : List ℤ) : Type 0 where
  pub whole : Whole o vc
  pub all : all_of readable o ≡ true
  pub fits : 2 * vc ≤ length room
