use Prim.Native.Nat.{ℕ}
use native.Mathlib.Nat.{le_refl}
use mathlib.Core.Path.{refl}
use mathlib.Core.List.{List}
use lib.IntN.{ℤ, pos, ◌*ℤ◌}
use lib.ListN.{get_or}
use mir.Syntax.{w64}
use mir.Val.{SFits}
use Rattle.whole.specs.FitLaws.{fit, read, mul-near, mul_fit, mul-read}
use Rattle.straight.specs.Ready.{Held}
use Rattle.straight.proofs.edge.doubled.Goals as goal

doubles : {l : List ℤ} {k : ℕ} → Held l k → SFits w64 (pos 2 *ℤ get_or l k (pos 0))
doubles {l} {k} h = fit (mul-near {a = pos 2} (record { near = le_refl 2 }) h.close) tt

pub overflow_mul-result : goal.overflow_mul-result
overflow_mul-result c = mul_fit {r = pos 2} refl (read c.requires.close tt) (doubles c.requires)

pub returns : goal.returns
returns c = mul-read {r = pos 2} refl (read c.requires.close tt) (doubles c.requires)
