use Prim.Native.Nat.{ℕ}
use native.Mathlib.Omega.{arith}
use mathlib.Core.Path.{◌∙◌, ap}
use mir.Syntax.{w64}
use mir.Val.{to_z, of_z, SFits}
use lib.IntN.{ℤ}
use mathlib.Core.List.{List}
use mir.Facts.{to_z-of_z}
use Rattle.whole.specs.FitLaws.{got}
use Rattle.basis.specs.Choice.{code_of}
use Rattle.whole.specs.TwoLaws.{byte-code}
use Rattle.straight.specs.PartLaws.{part_none, part_end}
use Rattle.straight.specs.Ready.{Probed}
use Rattle.straight.specs.SumLaws.{winds, code-most, probed-as, seen-on, seen_back, wind-more, wound}
use Rattle.straight.proofs.sum.winding_of.Goals as goal

-- the probe as the loop reads it back
probed : {l : List ℤ} {n : ℕ} {x y : ℤ} → SFits w64 x → SFits w64 y → Probed l n x y → Probed l n (to_z w64 (of_z w64 x)) (to_z w64 (of_z w64 y))
probed fx fy p = probed-as (to_z-of_z fx) (to_z-of_z fy) p

pub loop-i-init : goal.loop-i-init
loop-i-init c = part_none (winds _) 1 c.requires.outline

pub after-j-requires : goal.after-j-requires
after-j-requires c = c.loop-i-test.true

pub rises_at-requires : goal.rises_at-requires
rises_at-requires c = seen-on (probed c.ranges.x c.ranges.y c.requires) c.loop-i-test.true c.after-j.ensures

pub overflow_add-up : goal.overflow_add-up
overflow_add-up c =
    record { fits = omega (arith, c.loop-i.invariant.up-most, c.requires.outline.most, c.from-up.ensures, byte-code c.rises_at.result, code-most c.rises_at.result) }

pub rises_at-requires-in-loop-i : goal.rises_at-requires-in-loop-i
rises_at-requires-in-loop-i c =
    seen_back (probed c.ranges.x c.ranges.y c.requires) c.loop-i-test.true c.after-j.ensures

pub overflow_add-down : goal.overflow_add-down
overflow_add-down c =
    record { fits = omega (arith, c.loop-i.invariant.down-most, c.requires.outline.most, c.from-down.ensures, byte-code c.rises_at-in-loop-i.result, code-most c.rises_at-in-loop-i.result) }

pub loop-i-preserved : goal.loop-i-preserved
loop-i-preserved c =
    let k = c.loop-i in
    let j = c.after-j in
    wind-more (probed c.ranges.x c.ranges.y c.requires) c.loop-i-test.true j.ensures k.invariant
    (c.from-up.ensures ∙ byte-code c.rises_at.result ∙ ap code_of c.rises_at.ensures)
    (c.from-down.ensures ∙ byte-code c.rises_at-in-loop-i.result ∙ ap code_of c.rises_at-in-loop-i.ensures)

pub balance-requires : goal.balance-requires
balance-requires c =
    record { up-most = omega (arith, c.loop-i.invariant.up-most, c.requires.outline.most); down-most = omega (arith, c.loop-i.invariant.down-most, c.requires.outline.most) }

pub returns : goal.returns
returns c =
    got c.balance.result c.balance.type_inv ∙ c.balance.ensures
    ∙ part_end (winds _) 1 c.requires.outline c.loop-i.invariant c.loop-i-test.false
    ∙ wound c.args.l.now (to_z-of_z c.ranges.x) (to_z-of_z c.ranges.y)
