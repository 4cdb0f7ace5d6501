use mathlib.Core.Path.{sym}
use Rattle.outline.specs.OutlineLaws.{wrap-same, wrap-less}
use borrow.Author.Rules.{rules}
use Rattle.outline.proofs.read.wrapped.Goals as goal

pub returns-then-i-vc : goal.returns-then-i-vc
returns-then-i-vc c = sym (wrap-same _ _ c.if-i-vc.true)

pub returns : goal.returns
returns c = sym (wrap-less _ _ c.if-i-vc.false (search rules))
