use Rattle.store.proofs.Looking.{Others}
use Rattle.store.proofs.marks.set_others.Given as goal

abbrev pub invariant-loop-m : goal.invariant-loop-m
invariant-loop-m l = Others l.marks l.h l.initial.held l.held l.k l.m-index
