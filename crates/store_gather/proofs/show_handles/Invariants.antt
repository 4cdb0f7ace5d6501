use Rattle.store_gather.proofs.Gathering.{Handing}
use Rattle.store_gather.proofs.show_handles.Given as goal

abbrev pub invariant-loop-k : goal.invariant-loop-k
invariant-loop-k l = Handing l.marks l.initial.dst l.dst l.k
