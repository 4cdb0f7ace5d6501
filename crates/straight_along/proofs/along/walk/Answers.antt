use Rattle.straight_along.proofs.Walking.{walk_none, walk_more}
use borrow.Author.Rules.{rules}
use Rattle.straight_along.proofs.along.walk.Goals as goal

pub loop-p-init : goal.loop-p-init
loop-p-init c = record { same = search rules; walked = walk_none _ _ _ _ _ _ _ c.requires }

pub loop-p-preserved : goal.loop-p-preserved
loop-p-preserved c =
    record {
      same = search rules;
      walked = walk_more _ _ _ _ _ _ _ _ _ _ c.loop-p.invariant.walked _ _ _ (search rules) c.candidate.ensures c.put_stay-n.ensures.placed;
    }
