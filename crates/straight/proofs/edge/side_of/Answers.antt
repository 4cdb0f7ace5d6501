use mathlib.Core.Path.{◌≡◌, ◌∙◌}
use lib.IntN.{ℤ, ◌*ℤ◌, ◌-ℤ◌}
use mir.Syntax.{w64}
use mir.Val.{SFits, to_z, of_z}
use mir.Facts.{to_z-of_z}
use Rattle.whole.specs.Fit.{Near}
use Rattle.whole.specs.FitLaws.{got, fit, sub-near, as-near, sub_fit, sub_read}
use Rattle.straight.proofs.edge.side_of.Goals as goal

-- Four differences of doubled coordinates, and `gap` of them.

-- a - b, of what is read back

diff : {a b : ℤ} → SFits w64 a → SFits w64 b → Near 800000000 a → Near 800000000 b → SFits w64 (to_z w64 (of_z w64 a) -ℤ to_z w64 (of_z w64 b))
diff f g h k = sub_fit (to_z-of_z f) (to_z-of_z g) (fit (sub-near h k) tt)

is : {a b : ℤ} → SFits w64 a → SFits w64 b → Near 800000000 a → Near 800000000 b → to_z w64 (of_z w64 (to_z w64 (of_z w64 a) -ℤ to_z w64 (of_z w64 b))) ≡ a -ℤ b
is f g h k = sub_read (to_z-of_z f) (to_z-of_z g) (fit (sub-near h k) tt)

pub overflow_sub-bx : goal.overflow_sub-bx
overflow_sub-bx c = diff c.ranges.bx c.ranges.ax c.requires.bx-ok c.requires.ax-ok

pub overflow_sub-y : goal.overflow_sub-y
overflow_sub-y c = diff c.ranges.y c.ranges.ay c.requires.y-ok c.requires.ay-ok

pub overflow_sub-x : goal.overflow_sub-x
overflow_sub-x c = diff c.ranges.x c.ranges.ax c.requires.x-ok c.requires.ax-ok

pub overflow_sub-by : goal.overflow_sub-by
overflow_sub-by c = diff c.ranges.by c.ranges.ay c.requires.by-ok c.requires.ay-ok

pub gap-requires : goal.gap-requires
gap-requires c =
    record {
      a-ok = as-near (is c.ranges.bx c.ranges.ax c.requires.bx-ok c.requires.ax-ok) (sub-near c.requires.bx-ok c.requires.ax-ok);
      b-ok = as-near (is c.ranges.y c.ranges.ay c.requires.y-ok c.requires.ay-ok) (sub-near c.requires.y-ok c.requires.ay-ok);
      c-ok = as-near (is c.ranges.x c.ranges.ax c.requires.x-ok c.requires.ax-ok) (sub-near c.requires.x-ok c.requires.ax-ok);
      d-ok = as-near (is c.ranges.by c.ranges.ay c.requires.by-ok c.requires.ay-ok) (sub-near c.requires.by-ok c.requires.ay-ok);
    }

pub returns : goal.returns
returns c =
    got c.gap.result c.gap.type_inv ∙ c.gap.ensures
    ∙ (λ i.
    is c.ranges.bx c.ranges.ax c.requires.bx-ok c.requires.ax-ok i *ℤ is c.ranges.y c.ranges.ay c.requires.y-ok c.requires.ay-ok i
    -ℤ is c.ranges.x c.ranges.ax c.requires.x-ok c.requires.ax-ok i *ℤ is c.ranges.by c.ranges.ay c.requires.by-ok c.requires.ay-ok i)
