use borrow.Author.Rules.{rules}
use Rattle.basis.specs.All.{all_of, scan}
use Rattle.area_entries.proofs.areas.all_finite.Goals as goal

pub loop-area-init : goal.loop-area-init
unfolding all_of
loop-area-init c = search rules

pub loop-area-preserved : goal.loop-area-preserved
loop-area-preserved c = search (rules, scan)
