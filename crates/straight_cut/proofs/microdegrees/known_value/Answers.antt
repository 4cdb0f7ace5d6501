use Rattle.straight_cut.specs.KnownLaws.{known-zero, known_in, known_read, known-other}
use Rattle.straight_cut.proofs.microdegrees.known_value.Goals as goal

pub returns-then-x : goal.returns-then-x
returns-then-x c = known-zero _ c.if-x.true

pub float_to_int-result : goal.float_to_int-result
float_to_int-result c = known_in _ (known-other _ c.requires c.if-x.false) c.if-x.false

pub returns : goal.returns
returns c = known_read _ (known-other _ c.requires c.if-x.false)
