use mathlib.Core.Path.{◌≡◌}
use lib.ListN.{take}
use Rattle.straight_entries.specs.Range.{all_in_reach}
use Rattle.straight_entries.proofs.range.all_near.Given as goal

abbrev pub invariant-loop-z : goal.invariant-loop-z
invariant-loop-z l = l.ok ≡ all_in_reach (take l.z-index l.l)
