use borrow.Author.Tests.{eqb-true}
use mathlib.Core.Path.{sym, ◌∙◌}
use Rattle.stitch_layout.proofs.AlikeLaws.{alike_of}
use Rattle.stitch_layout.proofs.layout.alike.Goals as goal

pub returns-then-same_start : goal.returns-then-same_start
returns-then-same_start c = λ e.
    alike_of _ _ _ _ (sym c.same_start.ensures ∙ c.if-same_start.true)
    (sym c.group_of.ensures ∙ eqb-true _ _ e ∙ c.group_of-then-same_start.ensures)
