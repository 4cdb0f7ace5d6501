use Rattle.std.proofs.Common.{rules}
use Rattle.record_read.proofs.Gathering.{target, gathering-none, gathering-row, gathering-more}
use Rattle.record_read.proofs.body.gather.Goals as goal

pub loop-i-init : goal.loop-i-init
loop-i-init g c = gathering-none _ _ _ _ _

pub offset_bounds-out-i : goal.offset_bounds-out-i
offset_bounds-out-i g c = search (rules, target)

pub loop-j-preserved : goal.loop-j-preserved
loop-j-preserved g c = gathering-more _ c.requires.places c.loop-j.invariant c.loop-i-test.true c.loop-j-test.true c.change.ensures

pub loop-i-preserved : goal.loop-i-preserved
loop-i-preserved g c = gathering-row c.loop-j.invariant c.loop-j-test.false
