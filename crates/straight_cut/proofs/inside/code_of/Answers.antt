use Rattle.straight_cut.specs.InsideLaws.{code-is}
use Rattle.straight_cut.proofs.inside.code_of.Goals as goal

pub returns : goal.returns
returns c = code-is c.args.w c.from.result c.ranges.w c.from.ensures
