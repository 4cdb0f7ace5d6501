use borrow.Author.Rules.{rules}
use Rattle.slice.specs.SliceLaws.{codes-there}
use Rattle.slice.proofs.Comparing.{compare-none, compare-more, compare-end}
use Rattle.slice.proofs.edition.editions_differ.Goals as goal

pub loop-i-init : goal.loop-i-init
loop-i-init c = compare-none _ _

pub codes_at-c-requires : goal.codes_at-c-requires
codes_at-c-requires c = codes-there _ _ c.loop-i-test.true

pub loop-i-preserved : goal.loop-i-preserved
loop-i-preserved c = search (rules, compare-more)

pub returns : goal.returns
returns c = search (rules, compare-end)
