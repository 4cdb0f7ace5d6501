use mathlib.Core.Path.{◌∙◌}
use Rattle.whole.specs.FitLaws.{got}
use Rattle.text.proofs.LinesLaws.{coordinate-minus, coordinate-plus, minus-fits}
use Rattle.text.proofs.lines.coordinate.Goals as goal

pub minus-requires : goal.minus-requires
minus-requires c =
    let s = c.args in
    let k = c.capped in
    let w = c.signed-n in
    minus-fits s.negative s.size k.result _ k.ensures (got w.result w.type_inv ∙ w.ensures)

pub returns-then-negative : goal.returns-then-negative
returns-then-negative c =
    let s = c.args in
    let k = c.capped in
    let w = c.signed-n in
    coordinate-minus s.negative s.size k.result _ k.ensures (got w.result w.type_inv ∙ w.ensures) _ c.if-negative.true (got c.minus.result c.minus.type_inv ∙ c.minus.ensures)

pub returns : goal.returns
returns c =
    let s = c.args in
    let k = c.capped in
    let w = c.signed-n in
    coordinate-plus s.negative s.size k.result _ k.ensures (got w.result w.type_inv ∙ w.ensures) c.if-negative.false
