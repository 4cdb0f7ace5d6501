use Prim.Native.Nat.{◌+◌, ◌*◌}
use mathlib.Core.Bool.{true}
use mathlib.Core.Path.{◌≡◌}
use lib.ListN.{get_or}
use lib.Dec.{leb}
use Rattle.basis.specs.Each.{each_to}
use Rattle.basis.proofs.items.all_at_most.Given as goal

abbrev pub invariant-loop-i : goal.invariant-loop-i
invariant-loop-i l = true ≡ each_to (λ j. leb (get_or l.list (l.width * j + l.place) 0) l.most) l.i
