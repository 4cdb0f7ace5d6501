use Rattle.std.proofs.Common.{T, ℤ, sym, ap, subst, to_z-of_z}
use lib.Ieee.{binary64, in_float, of_int}
use Rattle.straight_cut.specs.MicrodegreesLaws.{near-held}
use Rattle.straight_cut.proofs.microdegrees.float_of.Goals as goal

pub int_to_float-result : goal.int_to_float-result
int_to_float-result c = subst (λ (z : ℤ). T (in_float binary64 z)) (sym (to_z-of_z c.ranges.z)) (near-held _ c.requires)

pub returns : goal.returns
returns c = ap (of_int binary64) (to_z-of_z c.ranges.z)
