use Prim.Native.Nat.{◌-◌}
use Rattle.candidate.proofs.Seeking.{Seeking}
use Rattle.candidate.proofs.next.traverse_count.Given as goal

abbrev pub invariant-loop-i : goal.invariant-loop-i
invariant-loop-i l = Seeking l.vc l.s l.to l.k l.i

abbrev pub decreases-loop-i : goal.decreases-loop-i
decreases-loop-i l = l.vc - l.k
