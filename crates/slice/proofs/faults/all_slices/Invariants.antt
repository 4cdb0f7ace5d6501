use Rattle.slice.specs.Faults.{Tests}
use Rattle.slice.proofs.Looking.{Looked}
use Rattle.slice.proofs.faults.all_slices.Given as goal

abbrev pub invariant-loop-i : goal.invariant-loop-i
invariant-loop-i g l = (q : _) → Tests (goal.F-post g l.test) q → Looked q l.slice_at l.ok l.i
