use Rattle.text.proofs.DecimalLaws.{digit-small, spelling}
use borrow.Author.Rules.{rules}
use Rattle.text.proofs.decimal.spell.Goals as goal

pub loop-i-init : goal.loop-i-init
loop-i-init c = search (rules, spelling)

pub glyph-requires : goal.glyph-requires
glyph-requires c = search (rules, digit-small)

pub loop-i-preserved : goal.loop-i-preserved
loop-i-preserved c = search (rules, spelling)

pub returns : goal.returns
returns c = search (rules, spelling)
