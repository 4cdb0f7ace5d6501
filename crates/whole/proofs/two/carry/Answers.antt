use Rattle.whole.specs.Two.{carry_of}
use Rattle.whole.specs.TwoLaws.{byte-code}
use mathlib.Core.Path.{◌∙◌}
use Rattle.whole.proofs.two.carry.Goals as goal

pub returns : goal.returns
unfolding carry_of
returns c = c.from.ensures ∙ byte-code _
