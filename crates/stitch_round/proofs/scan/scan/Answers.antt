use Rattle.stitch_round.proofs.Scanning.{meet-none, meet-more, meet-skip}
use Rattle.stitch_round.proofs.scan.scan.Goals.{then-is_candidate, else-is_candidate}
use Rattle.stitch_round.proofs.scan.scan.Goals as goal

pub loop-j-init : goal.loop-j-init
loop-j-init c = meet-none _ _ _

pub loop-j-preserved : goal.loop-j-preserved
loop-j-preserved c =
    elim c.if-is_candidate.branch [
      | then-is_candidate w ↦ rw w.met-is (meet-more _ _ _ _ _ _ c.loop-j.invariant c.is_candidate.ensures _ _ _ _ w.if-is_candidate.true w.none_yet.ensures w.unwrap_or-best.ensures w.class_of.ensures w.offer.ensures)
      | else-is_candidate w ↦ rw w.met-is (meet-skip _ _ _ _ _ _ c.loop-j.invariant c.is_candidate.ensures w.if-is_candidate.false)
    ]
