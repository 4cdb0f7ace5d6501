use Rattle.candidate.specs.PlaceLaws.{place-last}
use Rattle.straight_cut.proofs.at_cut.Ordered.candidate.Goals as goal

pub walk-requires : goal.walk-requires
walk-requires c = place-last _ _ _ (search c) (rw c.count.ensures at c.same_next.ensures) c.if-same_next.false
