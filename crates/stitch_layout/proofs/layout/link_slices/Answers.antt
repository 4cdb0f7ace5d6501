use Rattle.stitch_layout.specs.PuttingLaws.{putting-before, putting-more, putting-end}
use Rattle.stitch_layout.proofs.layout.link_slices.Goals as goal

pub last_of_run-last-requires : goal.last_of_run-last-requires
last_of_run-last-requires c =
    putting-before _ _ _ _ _ _ c.loop-i.invariant c.loop-i-test.true c.home_of-h.ensures

pub loop-i-preserved : goal.loop-i-preserved
loop-i-preserved c =
    putting-more _ _ _ _ _ _ _ c.loop-i.invariant c.loop-i-test.true c.home_of-h.ensures c.last_of_run-last.ensures

pub returns : goal.returns
returns c = putting-end _ _ _ _ _ c.loop-i.invariant c.loop-i-test.false
