use mathlib.Core.Path.{ap, ◌∙◌}
use lib.Ieee.{Float, le}
use Rattle.basis.specs.NumberLaws.{abs-le}
use Rattle.basis.specs.Number.{largest, finite}
use Rattle.basis.proofs.number.is_finite.Goals as goal

pub returns : goal.returns
unfolding finite
returns c = ap (λ (x : Float). le x largest) c.magnitude.ensures ∙ abs-le _ _
