use Rattle.stitch_round.proofs.Rounding.{rounding}
use borrow.Author.Rules.{rules}
use Rattle.stitch_round.proofs.step.next_of.Goals as goal

pub returns : goal.returns
returns c = search (rules, rounding)
