use Rattle.std.proofs.Common.{refl, ap, ◌∙◌, arith, rules}
use Rattle.basis.specs.Each.{each_to}
use Rattle.basis.specs.EachLaws.{item_in, each_more, each-end}
use Rattle.straight_cut.specs.Straight.{straight_shape, straight_laps}
use Rattle.straight_cut.proofs.flat.straight_laps.Goals as goal

pub loop-i-init : goal.loop-i-init
unfolding each_to
loop-i-init c = refl

pub shape_at-requires : goal.shape_at-requires
shape_at-requires c = record { inside = item_in 6 5 _ _ (omega arith) c.loop-i-test.true }

pub loop-i-preserved : goal.loop-i-preserved
loop-i-preserved c = each_more _ _ _ _ c.loop-i.invariant (c.straight_shape-ok.ensures ∙ ap straight_shape c.shape_at.ensures)

pub returns : goal.returns
unfolding straight_laps
returns c = each-end _ _ _ _ (search rules) c.loop-i-test.false c.loop-i.invariant
