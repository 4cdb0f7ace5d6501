use mathlib.Core.Path.{ap, ◌∙◌}
use lib.Ieee.{Float, lt}
use Rattle.basis.specs.Number.{agree}
use Rattle.basis.specs.NumberLaws.{abs-lt}
use Rattle.basis.proofs.number.agrees.Goals as goal

pub returns : goal.returns
unfolding agree
returns c = ap (λ (x : Float). lt x c.args.t) c.magnitude.ensures ∙ abs-lt _ _
