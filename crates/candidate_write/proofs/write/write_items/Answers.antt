use native.Mathlib.Omega.{arith}
use Rattle.candidate_write.specs.Lent.{same_self, same_on}
use Rattle.candidate_write.proofs.Writing.{upto-none, upto_turn, upto-end}
use Rattle.candidate_write.proofs.write.write_items.Goals as goal

pub loop-p-init : goal.loop-p-init
loop-p-init c = (same_self _, upto-none _ _ c.requires.ready)

pub loop-p-preserved : goal.loop-p-preserved
loop-p-preserved c = (
  same_on _ _ _ c.loop-p.invariant.0 c.put-m.ensures.same,
  upto_turn _ _ _ _ _ _ _ _ c.loop-p.invariant.1 (omega (arith, c.loop-p-test.true, c.count-p-end.ensures)) c.candidate_at-c.ensures c.put-m.ensures.written,
)

pub returns : goal.returns
returns c = record { same = c.loop-p.invariant.0; written = upto-end _ _ _ _ _ c.loop-p.invariant.1 (omega (arith, c.loop-p-test.false, c.count-p-end.ensures)) }
