use Prim.Native.Nat.{◌+◌, ◌*◌}
use lib.IntN.{pos, ◌*ℤ◌}
use lib.ListN.{get_or}
use mathlib.Core.Path.{◌∙◌, sym}
use mathlib.Core.Bool.{◌&&◌}
use lib.Signed.{le_z, lt_z}
use mir.Facts.{to_z-of_z}
use Rattle.whole.specs.FitLaws.{got}
use Rattle.straight.specs.Plane.{spans, twice}
use Rattle.straight.proofs.EdgeLaws.{from-y, to-y}
use Rattle.straight.proofs.edge.spans_at.Goals as goal

pub doubled-requires : goal.doubled-requires
doubled-requires c = from-y c.requires.edge

pub doubled-requires-then-doubled-y : goal.doubled-requires-then-doubled-y
doubled-requires-then-doubled-y c = to-y c.requires.edge

pub returns-then-doubled-y : goal.returns-then-doubled-y
unfolding spans twice
returns-then-doubled-y c =
    let e = c.doubled in
    let f = c.doubled-then-doubled-y in
    (λ i. lt_z (to_z-of_z c.ranges.y i) ((got f.result f.type_inv ∙ f.ensures) i))
    ∙ (λ i. (sym c.if-doubled-y.true ∙ (λ i. le_z ((got e.result e.type_inv ∙ e.ensures) i) (to_z-of_z c.ranges.y i))) i && lt_z c.args.y (pos 2 *ℤ get_or c.args.l.now (2 * c.args.j + 1) (pos 0)))

pub returns-else-doubled-y : goal.returns-else-doubled-y
unfolding spans twice
returns-else-doubled-y c =
    let e = c.doubled in
    c.if-doubled-y.false
    ∙ (λ i. (sym c.if-doubled-y.false ∙ (λ i. le_z ((got e.result e.type_inv ∙ e.ensures) i) (to_z-of_z c.ranges.y i))) i && lt_z c.args.y (pos 2 *ℤ get_or c.args.l.now (2 * c.args.j + 1) (pos 0)))
