use borrow.Author.Rules.{rules}
use Rattle.basis.specs.All.{scan}
use Rattle.basis.proofs.number.all_in_range.Goals as goal

pub loop-x-init : goal.loop-x-init
loop-x-init c = search (rules, scan)

pub loop-x-preserved : goal.loop-x-preserved
loop-x-preserved c = search (rules, scan)
