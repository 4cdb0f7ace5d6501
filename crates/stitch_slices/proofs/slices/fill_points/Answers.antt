use borrow.Author.Rules.{rules}
use Rattle.stitch_slices.proofs.Slicing.{pointing}
use Rattle.stitch_slices.proofs.slices.fill_points.Goals as goal

pub loop-i-init : goal.loop-i-init
loop-i-init c = search (rules, pointing)

pub loop-i-preserved : goal.loop-i-preserved
loop-i-preserved c = search (rules, pointing)

pub returns : goal.returns
returns c = search (rules, pointing)
