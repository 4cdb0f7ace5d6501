use Rattle.std.proofs.Common.{ap, ◌∙◌, rules}
use Rattle.outline.specs.declared.point.Vertex.{Vertex}
use Rattle.whole.specs.FitLaws.{got}
use Rattle.straight_cut.specs.Microdegrees.{value_of}
use Rattle.straight_cut.specs.MicrodegreesLaws.{spot-put}
use Rattle.straight_cut.specs.KnownLaws.{knowns}
use Rattle.straight_cut.proofs.microdegrees.put_vertex.Goals as goal

pub known_value-requires : goal.known_value-requires
known_value-requires c = search (rules, knowns)

pub known_value-requires-2 : goal.known_value-requires-2
known_value-requires-2 c = search (rules, knowns)

pub returns : goal.returns
returns c =
    let y = c.known_value-2 in
    let x = c.known_value in
    let v = c.vertex_at-v in
    spot-put c.args.room.now _ _ _ _ _ _ _ (got x.result x.type_inv ∙ x.ensures ∙ ap (λ (w : Vertex). value_of w.x) v.ensures) (got y.result y.type_inv ∙ y.ensures ∙ ap (λ (w : Vertex). value_of w.y) v.ensures)
    c.put.ensures c.put-2.ensures
