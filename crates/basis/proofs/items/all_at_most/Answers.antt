use borrow.Author.Rules.{rules}
use borrow.Author.Tests.{le-leb, lt-leb}
use Rattle.basis.specs.Each.{places_at_most}
use Rattle.basis.specs.EachLaws.{each, each-passed, each-fails, none-most}
use Rattle.basis.proofs.items.all_at_most.Goals as goal

pub returns-then-list-width : goal.returns-then-list-width
unfolding places_at_most
returns-then-list-width c = search (rules, none-most)

pub returns-then-most-list : goal.returns-then-most-list
unfolding places_at_most
returns-then-most-list c = search (rules, each-fails, lt-leb)

pub loop-i-preserved : goal.loop-i-preserved
loop-i-preserved c = search (rules, each-passed, le-leb)

pub returns : goal.returns
unfolding places_at_most
returns c = search (rules, each)
