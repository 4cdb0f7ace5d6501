use lib.IntN.{ℤ, ◌*ℤ◌, ◌-ℤ◌}
use mir.Syntax.{w64}
use mir.Val.{SFits}
use mir.Facts.{to_z-of_z}
use Rattle.whole.specs.FitLaws.{fit, mul-near, sub-near, mul_fit, sub_fit, mul-read, sub_read}
use Rattle.straight.specs.Ready.{Four}
use Rattle.straight.proofs.edge.gap.Goals as goal

-- The tree of the expression a b - c d: each operand as it is read back, and that each result fits.

ab-fits : {a b c d : ℤ} → Four a b c d → SFits w64 (a *ℤ b)
ab-fits p = fit (mul-near p.a-ok p.b-ok) tt

cd-fits : {a b c d : ℤ} → Four a b c d → SFits w64 (c *ℤ d)
cd-fits p = fit (mul-near p.c-ok p.d-ok) tt

all-fits : {a b c d : ℤ} → Four a b c d → SFits w64 (a *ℤ b -ℤ c *ℤ d)
all-fits p = fit (sub-near (mul-near p.a-ok p.b-ok) (mul-near p.c-ok p.d-ok)) tt

pub overflow_mul-result : goal.overflow_mul-result
overflow_mul-result c = mul_fit (to_z-of_z c.ranges.a) (to_z-of_z c.ranges.b) (ab-fits c.requires)

pub overflow_mul-result-2 : goal.overflow_mul-result-2
overflow_mul-result-2 c = mul_fit (to_z-of_z c.ranges.c) (to_z-of_z c.ranges.d) (cd-fits c.requires)

pub overflow_sub-result : goal.overflow_sub-result
overflow_sub-result c =
    sub_fit
    (mul-read (to_z-of_z c.ranges.a) (to_z-of_z c.ranges.b) (ab-fits c.requires))
    (mul-read (to_z-of_z c.ranges.c) (to_z-of_z c.ranges.d) (cd-fits c.requires))
    (all-fits c.requires)

pub returns : goal.returns
returns c =
    sub_read
    (mul-read (to_z-of_z c.ranges.a) (to_z-of_z c.ranges.b) (ab-fits c.requires))
    (mul-read (to_z-of_z c.ranges.c) (to_z-of_z c.ranges.d) (cd-fits c.requires))
    (all-fits c.requires)
