use Rattle.std.proofs.Common.{◌∙◌, rules}
use Rattle.whole.specs.FitLaws.{got}
use Rattle.straight_cut.specs.InsideLaws.{probed, inside_is}
use Rattle.straight_cut.proofs.inside.inside_of.Goals as goal

pub winding_of-requires : goal.winding_of-requires
winding_of-requires c = let x = c.doubled_mid-x in
    let y = c.doubled_mid-y in
    probed _ _ c.args.a c.args.b _ _ (got x.result x.type_inv ∙ x.ensures) (got y.result y.type_inv ∙ y.ensures) (search rules)

pub returns : goal.returns
returns c = let w = c.winding_of in
    let y = c.doubled_mid-y in
    let x = c.doubled_mid-x in
    inside_is _ 0 c.args.a c.args.b _ _ (got x.result x.type_inv ∙ x.ensures) (got y.result y.type_inv ∙ y.ensures)
    w.result _ _ w.ensures (got w.result w.type_inv) c.code_of.ensures
