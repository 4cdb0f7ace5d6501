use borrow.Author.Rules.{rules}
use Rattle.basis.specs.Choice.{cases}
use Rattle.record_write.proofs.Keeping.{axes}
use Rattle.record_write.proofs.write.axes_differ.Goals as goal

pub returns-then-v-ne0 : goal.returns-then-v-ne0
returns-then-v-ne0 c = search (rules, axes, cases)

pub returns-then-not-in_tolerance : goal.returns-then-not-in_tolerance
returns-then-not-in_tolerance c = search (rules, axes, cases)

pub bits-requires : goal.bits-requires
bits-requires c = search (rules, axes, cases)

pub bits-requires-2 : goal.bits-requires-2
bits-requires-2 c = search (rules, axes, cases)

pub returns : goal.returns
returns c = search (rules, axes, cases)
