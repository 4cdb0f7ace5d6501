use mathlib.Core.Path.{◌≡◌, sym, ap, ◌∙◌}
use mir.Syntax.{w64}
use mir.Val.{to_z, of_z, SFits}
use lib.IntN.{ℤ}
use mathlib.Core.List.{List}
use Prim.Native.Nat.{ℕ}
use mir.Facts.{to_z-of_z}
use Rattle.basis.specs.RefusalLaws.{number-some, found-number, found-none}
use Rattle.basis.specs.RefuseLaws.{answer-no, answer-yes}
use Rattle.whole.specs.FitLaws.{got}
use Rattle.straight.specs.Plane.{spots, winding}
use Rattle.straight.specs.SumLaws.{probed-as}
use Rattle.straight_entries.specs.Answers.{winding_refused, winding_found}
use Rattle.straight_entries.specs.WindingEntry.{winding_refusal, winding-accepted}
use Rattle.straight_entries.proofs.winding.entry.Goals as goal

-- the probe that is handed on is the one that was handed in

plain : (o : List ℤ) (vc : ℕ) {x y : ℤ} → SFits w64 x → SFits w64 y
    → winding_refusal o vc (to_z w64 (of_z w64 x)) (to_z w64 (of_z w64 y)) ≡ winding_refusal o vc x y
plain o vc fx fy = λ i. winding_refusal o vc (to_z-of_z fx i) (to_z-of_z fy i)

pub returns-in-Err : goal.returns-in-Err
returns-in-Err c =
    let r = c.in-Err.refusal in
    answer-no winding_refused _ _ _ _
    (c.number.ensures ∙ sym (found-number _ r c.in-Err.is) ∙ c.refusal.ensures ∙ plain c.args.outline.now c.args.vc c.ranges.x c.ranges.y)
    (λ z. number-some r (sym c.number.ensures ∙ z)) c.winding_refused.ensures

pub winding_of-requires : goal.winding_of-requires
winding_of-requires c =
    probed-as (to_z-of_z c.ranges.x) (to_z-of_z c.ranges.y)
    (winding-accepted c.args.outline.now c.args.vc c.args.x c.args.y _ (c.refusal.ensures ∙ plain c.args.outline.now c.args.vc c.ranges.x c.ranges.y) (found-none _ _ c.in-Ok.is))

pub returns-in-Ok : goal.returns-in-Ok
returns-in-Ok c =
    let w = c.winding_of in
    answer-yes winding_refused _ _ _ _ (c.refusal.ensures ∙ plain c.args.outline.now c.args.vc c.ranges.x c.ranges.y) (found-none _ _ c.in-Ok.is)
    (c.winding_found.ensures
    ∙ ap winding_found
    (got w.result w.type_inv ∙ w.ensures ∙ (λ i. winding (spots c.args.outline.now) (record { x = to_z-of_z c.ranges.x i; y = to_z-of_z c.ranges.y i }))))
