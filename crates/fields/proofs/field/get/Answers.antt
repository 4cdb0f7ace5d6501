use native.Mathlib.Omega.{arith}
use Rattle.fields.proofs.Getting.{getting-none, getting-fits, getting-at}
use Rattle.fields.proofs.field.get.Goals as goal

pub loop-i-init : goal.loop-i-init
loop-i-init c = getting-none _ _ _ c.requires

pub overflow_mul-v : goal.overflow_mul-v
overflow_mul-v c = omega (arith, getting-fits _ _ _ _ _ c.loop-i.invariant c.loop-i-test.true 0 (omega arith))

pub overflow_add-v : goal.overflow_add-v
overflow_add-v c = omega (arith, getting-fits _ _ _ _ _ c.loop-i.invariant c.loop-i-test.true _ c.wide.ensures.1)

pub loop-i-preserved : goal.loop-i-preserved
loop-i-preserved c = getting-at _ _ _ _ _ c.loop-i.invariant c.loop-i-test.true _ _ c.byte_at.ensures c.wide.ensures.0 c.wide.ensures.1
