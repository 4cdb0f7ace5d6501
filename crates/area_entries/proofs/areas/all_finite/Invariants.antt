use mathlib.Core.Path.{◌≡◌}
use Rattle.std.proofs.Common.{take}
use Rattle.basis.specs.All.{all_of}
use Rattle.basis.specs.Number.{finite}
use Rattle.area_entries.proofs.areas.all_finite.Given as goal

abbrev pub invariant-loop-area : goal.invariant-loop-area
invariant-loop-area l = l.ok ≡ all_of finite (take l.area-index l.areas)
