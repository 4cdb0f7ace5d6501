use Prim.Native.Nat.{◌+◌, ◌≤◌}
use mathlib.Core.Bool.{true}
use mathlib.Core.Path.{◌≡◌}
use Rattle.basis.specs.Each.{each_to}
use Rattle.unmoved.specs.Unmoved.{same_at}
use Rattle.unmoved.proofs.moved.first_moved.Given as goal

abbrev pub invariant-loop-k : goal.invariant-loop-k
invariant-loop-k l = (l.k ≤ l.v.end_index_offset + 1) × (each_to (same_at l.outline1 l.vc1 l.outline2 l.vc2 l.v) l.k ≡ true)
