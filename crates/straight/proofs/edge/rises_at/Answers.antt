use mathlib.Core.Path.{◌∙◌, sym}
use mathlib.Core.Bool.{◌&&◌}
use mir.Facts.{to_z-of_z}
use Rattle.straight.specs.Plane.{left, spans, twice}
use Rattle.straight.specs.Ready.{spot_at}
use Rattle.straight.proofs.edge.rises_at.Goals as goal

pub returns-then-spans_at : goal.returns-then-spans_at
returns-then-spans_at c =
    let a = twice (spot_at c.args.l.now c.args.i) in
    let b = twice (spot_at c.args.l.now c.args.j) in
    c.left_at.ensures
    ∙ (λ i. left a b (record { x = to_z-of_z c.ranges.x i; y = to_z-of_z c.ranges.y i }))
    ∙ (λ i. (sym c.if-spans_at.true ∙ c.spans_at.ensures ∙ (λ i. spans a b (record { x = to_z-of_z c.ranges.x i; y = to_z-of_z c.ranges.y i }))) i && left a b (record { x = c.args.x; y = c.args.y }))

pub returns-else-spans_at : goal.returns-else-spans_at
returns-else-spans_at c =
    let a = twice (spot_at c.args.l.now c.args.i) in
    let b = twice (spot_at c.args.l.now c.args.j) in
    c.if-spans_at.false
    ∙ (λ i. (sym c.if-spans_at.false ∙ c.spans_at.ensures ∙ (λ i. spans a b (record { x = to_z-of_z c.ranges.x i; y = to_z-of_z c.ranges.y i }))) i && left a b (record { x = c.args.x; y = c.args.y }))
