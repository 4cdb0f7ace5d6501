use native.Mathlib.Omega.{arith}
use Rattle.basis.specs.Each.{places_at_most}
use Rattle.basis.specs.EachLaws.{each-end}
use Rattle.basis.proofs.items.answers_known.Goals as goal

pub returns : goal.returns
unfolding places_at_most
returns c = each-end _ _ _ _ (omega arith) (omega arith) c.loop-code.invariant
