use mathlib.Core.Path.{◌≡◌}
use Rattle.std.proofs.Common.{take}
use Rattle.basis.specs.Number.{all_within}
use Rattle.basis.proofs.number.all_in_range.Given as goal

abbrev pub invariant-loop-x : goal.invariant-loop-x
invariant-loop-x l = l.ok ≡ all_within (take l.x-index l.s)
