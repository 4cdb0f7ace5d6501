use Rattle.area.proofs.Listing.{Listing}
use Rattle.area.proofs.write_kept.Given as goal

abbrev pub invariant-loop-i : goal.invariant-loop-i
invariant-loop-i l = Listing l.areas l.limit l.initial.kept l.kept l.n l.i
