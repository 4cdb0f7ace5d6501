use Rattle.straight.specs.SumLaws.{high_small, word-added}
use Rattle.straight.specs.Words.{area_words}
use Rattle.straight.specs.PartLaws.{same-part}
use native.Mathlib.Omega.{arith}
use mathlib.Core.Path.{◌≡◌, ◌∙◌, ap}
use Rattle.whole.specs.declared.two.Two.{Two}
use Rattle.whole.specs.Two.{value}
use Rattle.straight.specs.Plane.{cross}
use Rattle.straight.specs.PartLaws.{part_none, part_end}
use Rattle.straight.specs.SumLaws.{on, back, area-more, summed}
use Rattle.straight.proofs.sum.area_of.Goals as goal

-- two words that are 0 have the value 0

none : (t : Two) → t.high ≡ 0 → t.low ≡ 0 → value t ≡ 0
none t h k = omega arith

pub loop-i-init : goal.loop-i-init
loop-i-init c =
    let a = c.from-up in
    let b = c.from-down in
    same-part (none a.result a.ensures.0 a.ensures.1) (none b.result b.ensures.0 b.ensures.1) (part_none cross 320000000000000000 c.requires)

pub after-j-requires : goal.after-j-requires
after-j-requires c = c.loop-i-test.true

pub gain_at-requires : goal.gain_at-requires
gain_at-requires c = on c.requires c.loop-i-test.true c.after-j.ensures

pub add-up-requires : goal.add-up-requires
add-up-requires c =
    high_small c.loop-i.up c.from.result c.loop-i.i c.loop-i.invariant.up-most
    (omega (arith, c.requires.most)) c.from.ensures.0

pub gain_at-requires-in-loop-i : goal.gain_at-requires-in-loop-i
gain_at-requires-in-loop-i c = back c.requires c.loop-i-test.true c.after-j.ensures

pub add-down-requires : goal.add-down-requires
add-down-requires c =
    high_small c.loop-i.down c.from-in-loop-i.result c.loop-i.i c.loop-i.invariant.down-most
    (omega (arith, c.requires.most)) c.from-in-loop-i.ensures.0

pub loop-i-preserved : goal.loop-i-preserved
loop-i-preserved c =
    let k = c.loop-i in
    let v = c.from in
    let w = c.from-in-loop-i in
    same-part
    (word-added k.up v.result c.gain_at.result c.add-up.result c.add-up.ensures v.ensures.0 v.ensures.1)
    (word-added k.down w.result c.gain_at-in-loop-i.result c.add-down.result c.add-down.ensures w.ensures.0 w.ensures.1)
    (area-more c.requires c.loop-i-test.true c.after-j.ensures k.invariant
    c.gain_at.ensures c.gain_at-in-loop-i.ensures)

pub returns : goal.returns
returns c =
    c.apart.ensures ∙ ap area_words (part_end cross 320000000000000000 c.requires c.loop-i.invariant c.loop-i-test.false ∙ summed c.args.l.now)
