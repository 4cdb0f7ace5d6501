use mathlib.Core.Path.{◌∙◌, ap}
use lib.IntN.{ℤ}
use mir.Syntax.{w64}
use mir.Val.{to_z, of_z}
use Rattle.whole.specs.FitLaws.{got}
use Rattle.straight.specs.Ready.{above}
use Rattle.straight.proofs.EdgeLaws.{above-yes, above-no}
use Rattle.straight.proofs.edge.gain_at.Goals as goal

abbrev seen : ℤ → ℤ
seen z = to_z w64 (of_z w64 z)

pub unsigned-requires : goal.unsigned-requires
unsigned-requires c = (above-yes (seen c.cross_at-z.result) c.if-z-gt0.true).0

pub returns-then-z-gt0 : goal.returns-then-z-gt0
returns-then-z-gt0 c =
    let z = c.cross_at-z in
    c.unsigned.ensures ∙ (above-yes (seen z.result) c.if-z-gt0.true).1 ∙ ap above (got z.result z.type_inv ∙ z.ensures)

pub returns-else-z-gt0 : goal.returns-else-z-gt0
returns-else-z-gt0 c =
    let z = c.cross_at-z in
    above-no (seen z.result) c.if-z-gt0.false ∙ ap above (got z.result z.type_inv ∙ z.ensures)
