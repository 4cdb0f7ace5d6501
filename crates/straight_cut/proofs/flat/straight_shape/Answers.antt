use Rattle.straight_cut.proofs.StraightLaws.{shape_is}
use Rattle.std.proofs.Common.{rules}
use Rattle.straight_cut.proofs.flat.straight_shape.Goals as goal

pub returns : goal.returns
returns c = search (rules, shape_is)
