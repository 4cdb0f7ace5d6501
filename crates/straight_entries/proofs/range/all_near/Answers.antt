use lib.IntN.{pos}
use lib.ListN.{get_or}
use Rattle.basis.specs.All.{all_more}
use Rattle.straight_entries.specs.Range.{in_reach}
use Rattle.straight_entries.specs.RangeLaws.{reach-got}
use Rattle.straight_entries.proofs.range.all_near.Goals as goal

pub loop-z-preserved : goal.loop-z-preserved
loop-z-preserved c =
    let l = c.args.l.now in
    let z = get_or l c.loop-z.z-index (pos 0) in
    let tested = reach-got 400000000 c.near_vertex-ok.result z c.near_vertex-arg-1.given c.near_vertex-ok.ensures in
    all_more (in_reach 400000000) l c.loop-z.z-index c.loop-z.ok (pos 0) c.near_vertex-ok.result c.loop-z-test.true c.loop-z.invariant tested
