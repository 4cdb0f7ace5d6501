use Rattle.whole.specs.TwoLaws.{words, carry-most}
use Rattle.std.proofs.Common.{rules}
use Rattle.whole.proofs.two.add.Goals as goal

pub overflow_add-high-2 : goal.overflow_add-high-2
overflow_add-high-2 c = let few = carry-most _ _ _ c.carry.ensures in search rules

pub returns : goal.returns
returns c = search (rules, words)
