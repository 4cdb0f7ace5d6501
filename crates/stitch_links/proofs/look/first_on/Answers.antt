use native.Mathlib.Omega.{arith}
use Rattle.basis.specs.Choice.{told-yes, told-no}
use Rattle.stitch_links.specs.LoopLaws.{seeking-none, onward, seeking-skip, seeking-pass, last-inside, last-further, seeking-on, seeking-found, seeking-end}
use Rattle.stitch_layout.specs.PuttingLaws.{there}
use Rattle.stitch_links.proofs.look.first_on.Goals as goal

pub loop-next-init : goal.loop-next-init
loop-next-init c = seeking-none _ _ _ _ _ _ c.requires

pub overflow_sub-j : goal.overflow_sub-j
overflow_sub-j c = omega (arith, (onward _ _ _ _ _ _ _ _ _ _ _ _ c.loop-next.invariant c.loop-next-test.true).under)

pub is_free-requires : goal.is_free-requires
is_free-requires c = record { inside = omega (arith, (onward _ _ _ _ _ _ _ _ _ _ _ _ c.loop-next.invariant c.loop-next-test.true).slice, c.loop-next.invariant.marks) }

pub loop-next-smaller-then-not-is_free : goal.loop-next-smaller-then-not-is_free
loop-next-smaller-then-not-is_free c = omega (arith, (onward _ _ _ _ _ _ _ _ _ _ _ _ c.loop-next.invariant c.loop-next-test.true).higher)

pub loop-next-preserved-then-not-is_free : goal.loop-next-preserved-then-not-is_free
loop-next-preserved-then-not-is_free c = seeking-skip _ _ _ _ _ _ _ _ _ _ _ _ c.loop-next.invariant c.loop-next-test.true (told-no _ _ c.is_free.ensures c.if-not-is_free.true)

pub meets-requires : goal.meets-requires
meets-requires c = there _ _ _ c.loop-next.invariant.fit (onward _ _ _ _ _ _ _ _ _ _ _ _ c.loop-next.invariant c.loop-next-test.true).slice

pub returns-then-meets : goal.returns-then-meets
returns-then-meets c = seeking-found _ _ _ _ _ _ _ _ _ _ _ _ c.loop-next.invariant c.loop-next-test.true (told-yes _ _ c.is_free.ensures c.if-not-is_free.false) (told-yes _ _ c.meets.ensures c.if-meets.true)

pub passed_to-at-requires : goal.passed_to-at-requires
passed_to-at-requires c =
    seeking-pass _ _ _ _ _ _ _ _ _ _ _ _ c.loop-next.invariant c.loop-next-test.true

pub offset_bounds-link-at-in-loop-next : goal.offset_bounds-link-at-in-loop-next
offset_bounds-link-at-in-loop-next c =
    omega (arith, last-inside _ _ _ _ _ _ _ _ _ _ _ _ c.loop-next.invariant c.loop-next-test.true _ c.passed_to-at.ensures)

pub bounds-link-at-in-loop-next : goal.bounds-link-at-in-loop-next
bounds-link-at-in-loop-next c =
    last-inside _ _ _ _ _ _ _ _ _ _ _ _ c.loop-next.invariant c.loop-next-test.true _ c.passed_to-at.ensures

pub loop-next-smaller : goal.loop-next-smaller
loop-next-smaller c =
    omega (arith, last-further _ _ _ _ _ _ _ _ _ _ _ _ c.loop-next.invariant c.loop-next-test.true _ c.passed_to-at.ensures)

pub loop-next-preserved : goal.loop-next-preserved
loop-next-preserved c =
    seeking-on _ _ _ _ _ _ _ _ _ _ _ _ c.loop-next.invariant c.loop-next-test.true _ c.passed_to-at.ensures (told-no _ _ c.meets.ensures c.if-meets.false)

pub returns : goal.returns
returns c = seeking-end _ _ _ _ _ _ _ _ _ _ _ _ c.loop-next.invariant c.loop-next-test.false
