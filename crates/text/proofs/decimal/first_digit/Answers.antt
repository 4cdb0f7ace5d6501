use Rattle.text.proofs.DecimalLaws.{trimming}
use borrow.Author.Rules.{rules}
use Rattle.text.proofs.decimal.first_digit.Goals as goal

pub loop-i-init : goal.loop-i-init
loop-i-init c = search (rules, trimming)

pub returns-then-text-i-ne48 : goal.returns-then-text-i-ne48
returns-then-text-i-ne48 c = search (rules, trimming)

pub loop-i-preserved : goal.loop-i-preserved
loop-i-preserved c = search (rules, trimming)

pub returns : goal.returns
returns c = search (rules, trimming)
