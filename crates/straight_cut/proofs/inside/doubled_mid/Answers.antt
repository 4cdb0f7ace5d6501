use Rattle.std.proofs.Common.{◌∙◌}
use Rattle.whole.specs.FitLaws.{got}
use Rattle.straight_cut.specs.InsideLaws.{mid-fits, mid-read}
use Rattle.straight_cut.proofs.inside.doubled_mid.Goals as goal

pub overflow_add-result : goal.overflow_add-result
overflow_add-result c = let a = c.known_value in
    let b = c.known_value-2 in
    mid-fits _ _ (got a.result a.type_inv ∙ a.ensures) (got b.result b.type_inv ∙ b.ensures)

pub returns : goal.returns
returns c = let a = c.known_value in
    let b = c.known_value-2 in
    mid-read _ _ (got a.result a.type_inv ∙ a.ensures) (got b.result b.type_inv ∙ b.ensures)
