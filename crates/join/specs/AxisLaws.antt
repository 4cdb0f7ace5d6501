-- Where a tolerance is opened: what the box and number 4 say of each axis, with that axis' own tolerance.
use Rattle.std.specs.Prelude.{true, ◌≡◌, Float}
use Rattle.std.specs.Float.Ieee.{lt, le}
use Rattle.basis.specs.Choice.{and_left, and_right}
use Rattle.basis.specs.Number.{+0, one, in_span, tolerable_on, tolerable}
use Rattle.basis.specs.declared.number.Tolerance.{Tolerance}
use Rattle.outline.specs.declared.point.Point.{Point}
use Rattle.outline.specs.Points.{in_box}
use Rattle.stitch_run.specs.Stitch.{Given}
use Rattle.stitch_run.specs.Doubles.{Double, Doubles}
use Rattle.join.specs.BoxLaws.{InTolerance, in-tolerance}

pub box-axes : (t : Tolerance) (e p : Point) → in_box t e p ≡ true → (in_span t.x e.x p.x ≡ true) × (in_span t.y e.y p.y ≡ true)
unfolding in_box
box-axes t e p h = (and_left _ _ h, and_right (in_span t.x e.x p.x) _ h)

-- tolerances that number 4 lets through
pub record Tolerances (t : Tolerance) : Type 0 where
  pub x : InTolerance t.x
  pub y : InTolerance t.y

tolerance-in : (t : Float) → Double t → tolerable_on t ≡ true → InTolerance t
unfolding tolerable_on
tolerance-in t d h = in-tolerance t d (and_left (lt +0 t) (le t one) h) (and_right (lt +0 t) (le t one) h)

pub tolerances-in : (g : Given) → Doubles g → tolerable g.tolerance ≡ true → Tolerances g.tolerance
unfolding tolerable
tolerances-in g d h =
    let t = g.tolerance in
    record {
      x = tolerance-in t.x d.tolerance_x (and_left (tolerable_on t.x) (tolerable_on t.y) h);
      y = tolerance-in t.y d.tolerance_y (and_right (tolerable_on t.x) (tolerable_on t.y) h);
    }
