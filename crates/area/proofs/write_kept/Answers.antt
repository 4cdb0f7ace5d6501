use Rattle.std.proofs.Common.{rules}
use Rattle.area.proofs.Listing.{listing}
use Rattle.area.proofs.write_kept.Goals as goal

pub loop-i-init : goal.loop-i-init
loop-i-init c = search (rules, listing)

pub is_kept-requires : goal.is_kept-requires
is_kept-requires c = search (rules, listing)

pub loop-i-preserved : goal.loop-i-preserved
loop-i-preserved c = search (rules, listing)

pub returns-then-n-areas : goal.returns-then-n-areas
returns-then-n-areas c = search (rules, listing)

pub returns-else-n-areas : goal.returns-else-n-areas
returns-else-n-areas c = search (rules, listing)
