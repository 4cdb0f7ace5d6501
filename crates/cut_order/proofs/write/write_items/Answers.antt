use native.Mathlib.Omega.{arith}
use Rattle.cut_order.proofs.Writing.{known-arrival, write-none, write-more, write-end}
use Rattle.cut_order.proofs.write.write_items.Goals as goal

pub loop-i-init : goal.loop-i-init
loop-i-init c = write-none _ _ _

pub cut_of-c-requires : goal.cut_of-c-requires
cut_of-c-requires c = known-arrival _ _ _ _ c.requires _ (omega (arith, c.loop-i-test.true, c.count-i-end.ensures))

pub loop-i-preserved : goal.loop-i-preserved
loop-i-preserved c = write-more _ _ _ _ c.requires _ (omega (arith, c.loop-i-test.true, c.count-i-end.ensures)) _ _ _ _ _ c.loop-i.invariant c.cut_of-c.ensures c.put_numbers.ensures c.put_point.ensures

pub returns : goal.returns
returns c = write-end _ _ _ _ _ _ c.loop-i.invariant (omega (arith, c.loop-i-test.false, c.count-i-end.ensures))
