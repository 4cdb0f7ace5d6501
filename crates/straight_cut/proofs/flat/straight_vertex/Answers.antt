use Rattle.straight_cut.proofs.StraightLaws.{vertex-is}
use Rattle.std.proofs.Common.{rules}
use Rattle.straight_cut.proofs.flat.straight_vertex.Goals as goal

pub returns : goal.returns
returns c = search (rules, vertex-is)
