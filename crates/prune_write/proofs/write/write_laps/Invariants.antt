use Rattle.slice.specs.Ready.{rooms_in, Same}
use Rattle.prune.specs.Prune.{laps_in}
use Rattle.prune_write.specs.WriteLaws.{Lapping}
use Rattle.prune_write.proofs.write.write_laps.Given as goal

abbrev pub invariant-loop-j : goal.invariant-loop-j
invariant-loop-j l = record { same : Same l.initial.lent l.lent; lapped : Lapping (laps_in l.laps) l.count l.first (rooms_in l.initial.lent) l.m (rooms_in l.lent) l.n l.j }
