use Rattle.view.proofs.Listing.{Listing}
use Rattle.view.proofs.list.write_vertices.Given as goal

abbrev pub invariant-loop-k : goal.invariant-loop-k
invariant-loop-k l = Listing l.outline l.vc l.v l.initial.room l.room l.k
