use Rattle.slice.proofs.Looking.{look_none, look-more, look-end}
use Rattle.slice.proofs.faults.all_slices.Goals as goal

pub loop-i-init : goal.loop-i-init
loop-i-init g c = λ q t. look_none q _

pub loop-i-preserved : goal.loop-i-preserved
loop-i-preserved g c =
    λ q t. look-more _ _ _ _ _ _ (c.loop-i.invariant q t) c.loop-i-test.true c.codes_at.ensures (t.told _ _ c.test-ok.ensures)

pub returns : goal.returns
returns g c = λ q t. look-end _ _ _ _ (c.loop-i.invariant q t) c.loop-i-test.false
