use mathlib.Core.Path.{refl}
use Rattle.straight_entries.specs.RangeLaws.{reach-both, reach-under}
use Rattle.straight_entries.proofs.range.near_vertex.Goals as goal

pub returns-then-z-geminus400000000 : goal.returns-then-z-geminus400000000
returns-then-z-geminus400000000 c = reach-both c.args.z c.ranges.z 400000000 _ refl _ refl c.if-z-geminus400000000.true

pub returns-else-z-geminus400000000 : goal.returns-else-z-geminus400000000
returns-else-z-geminus400000000 c = reach-under c.args.z c.ranges.z 400000000 _ refl c.if-z-geminus400000000.false
