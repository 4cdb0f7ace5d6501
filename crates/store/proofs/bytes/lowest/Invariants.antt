use Rattle.store.proofs.LookingBytes.{Lowest}
use Rattle.store.proofs.bytes.lowest.Given as goal

abbrev pub invariant-loop-k : goal.invariant-loop-k
invariant-loop-k l = Lowest l.flags l.cap l.k
