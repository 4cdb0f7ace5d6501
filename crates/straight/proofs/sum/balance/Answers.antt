use mathlib.Core.Path.{◌∙◌}
use lib.IntN.{pos, ◌-ℤ◌}
use Rattle.whole.specs.FitLaws.{fit, got, sub-near, sub_fit}
use Rattle.straight.proofs.sum.balance.Goals as goal

pub minus-requires : goal.minus-requires
minus-requires c =
    let a = c.signed in
    let b = c.signed-2 in
    record {
      fits = sub_fit (got a.result a.type_inv ∙ a.ensures) (got b.result b.type_inv ∙ b.ensures)
          (fit (sub-near {a = pos c.args.up} {b = pos c.args.down} (record { near = c.requires.up-most }) (record { near = c.requires.down-most })) tt);
    }

pub returns : goal.returns
returns c =
    let a = c.signed in
    let b = c.signed-2 in
    got c.minus.result c.minus.type_inv ∙ c.minus.ensures ∙ (λ i. (got a.result a.type_inv ∙ a.ensures) i -ℤ (got b.result b.type_inv ∙ b.ensures) i)
