use Rattle.slice.specs.Editions.{editions}
use Rattle.slice.proofs.Comparing.{Compared}
use Rattle.slice.proofs.edition.editions_differ.Given as goal

abbrev pub invariant-loop-i : goal.invariant-loop-i
invariant-loop-i l = Compared (editions l.edition1 l.edition2 l.slice_edition) l.slice_at l.same l.i
