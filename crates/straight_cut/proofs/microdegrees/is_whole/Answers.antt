use mir.Syntax.{w64}
use Rattle.std.proofs.Common.{T, sym, ap, ◌∙◌, subst, to_z-of_z}
use lib.Ieee.{of_bits, neg, of_int, binary64}
use Rattle.straight_entries.specs.Range.{in_reach}
use Rattle.straight_cut.specs.MicrodegreesLaws.{near-yes, whole-near, whole-far, whole_above, whole_below}
use Rattle.straight_cut.proofs.microdegrees.is_whole.Goals as goal

pub truncating_f64_to_i64-z-requires : goal.truncating_f64_to_i64-z-requires
unfolding of_bits neg
truncating_f64_to_i64-z-requires c = record { lower_bound = subst T (sym c.if-x.true) tt; upper_bound = subst T (sym c.if-x-2.true) tt }

pub float_of-requires : goal.float_of-requires
float_of-requires c = near-yes _ _ c.near_vertex.ensures c.if-near_vertex.true

pub returns-then-near_vertex : goal.returns-then-near_vertex
unfolding of_bits neg
returns-then-near_vertex c =
    let z = c.truncating_f64_to_i64-z in
    let back = to_z-of_z {w = w64} {z = z.result} (record { sfits = z.type_inv }) in
    whole-near c.args.x z.result c.if-x.true c.if-x-2.true z.ensures _
    (c.near_vertex.ensures ∙ ap (in_reach 400000000) back) c.if-near_vertex.true _ (c.float_of.ensures ∙ ap (of_int binary64) back)

pub returns-else-near_vertex : goal.returns-else-near_vertex
unfolding of_bits neg
returns-else-near_vertex c =
    let z = c.truncating_f64_to_i64-z in
    let back = to_z-of_z {w = w64} {z = z.result} (record { sfits = z.type_inv }) in
    whole-far c.args.x z.result c.if-x.true c.if-x-2.true z.ensures _
    (c.near_vertex.ensures ∙ ap (in_reach 400000000) back) c.if-near_vertex.false

pub returns-else-x-2 : goal.returns-else-x-2
unfolding of_bits neg
returns-else-x-2 c = whole_above c.args.x c.if-x.true c.if-x-2.false

pub returns-else-x : goal.returns-else-x
unfolding of_bits neg
returns-else-x c = whole_below c.args.x c.if-x.false
