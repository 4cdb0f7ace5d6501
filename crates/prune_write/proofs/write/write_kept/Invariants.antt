use Rattle.slice.specs.Ready.{rooms_in, Same}
use Rattle.prune.specs.Prune.{cands_in}
use Rattle.prune_write.specs.WriteLaws.{Keeping}
use Rattle.prune_write.proofs.write.write_kept.Given as goal

abbrev pub invariant-loop-k : goal.invariant-loop-k
invariant-loop-k l = record { same : Same l.initial.lent l.lent; kept : Keeping (cands_in l.cands) l.count l.part (rooms_in l.initial.lent) l.m (rooms_in l.lent) l.n l.k }
