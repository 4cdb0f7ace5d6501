use Rattle.stitch_round.proofs.Rounding.{rounding}
use borrow.Author.Rules.{rules}
use Rattle.stitch_round.proofs.step.look.Goals as goal

pub returns-then-round-eq0 : goal.returns-then-round-eq0
returns-then-round-eq0 c = search (rules, rounding)

pub answer_of-requires-else-round-eq0 : goal.answer_of-requires-else-round-eq0
answer_of-requires-else-round-eq0 c = search (rules, rounding)

pub returns-else-round-eq0 : goal.returns-else-round-eq0
returns-else-round-eq0 c = search (rules, rounding)
