use Prim.Native.Nat.{◌+◌, ◌*◌}
use mathlib.Core.Path.{◌≡◌}
use lib.ListN.{get_or}
use lib.Dec.{leb}
use Rattle.basis.specs.Each.{each_to}
use Rattle.basis.proofs.items.answers_known.Given as goal

abbrev pub invariant-loop-code : goal.invariant-loop-code
invariant-loop-code l = l.ok ≡ each_to (λ j. leb (get_or l.list (1 * j + 0) 0) 1) l.code-index
