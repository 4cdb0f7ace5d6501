use Rattle.store_gather.proofs.Gathering.{GatheringOf}
use Rattle.store_gather.proofs.gather.Given as goal

abbrev pub invariant-loop-k : goal.invariant-loop-k
invariant-loop-k g l = GatheringOf g.row.WIDTH l.src l.marks l.initial.dst l.dst l.k
