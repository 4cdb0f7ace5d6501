use Rattle.std.proofs.Common.{rules}
use Rattle.straight_cut.specs.MicrodegreesLaws.{wholes}
use Rattle.straight_cut.proofs.microdegrees.write_wholes.Goals as goal

pub loop-i-init : goal.loop-i-init
loop-i-init c = search (rules, wholes)

pub put_vertex-requires : goal.put_vertex-requires
put_vertex-requires c = search (rules, wholes)

pub loop-i-preserved : goal.loop-i-preserved
loop-i-preserved c = search (rules, wholes)

pub returns : goal.returns
returns c = search (rules, wholes)
