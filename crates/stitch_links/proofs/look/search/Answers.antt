use native.Mathlib.Omega.{arith}
use Rattle.stitch_links.proofs.RowLaws.{swept-rows, swept-on, rows_end}
use Rattle.stitch_links.proofs.look.search.Goals as goal

pub loop-cx-init : goal.loop-cx-init
loop-cx-init c = swept-rows _ _ _ _ _ _ c.requires

pub row-r-requires : goal.row-r-requires
row-r-requires c = record { ready = c.loop-cx.invariant.ready; low = c.requires.low }

pub loop-cx-preserved : goal.loop-cx-preserved
loop-cx-preserved c = swept-on _ _ _ _ _ _ _ _ _ _ _ _ _ _ c.loop-cx.invariant c.row-r.ensures c.row-r.auto.link c.lesser-best.ensures

pub shape_of-link : goal.shape_of-link
shape_of-link c = c.loop-cx.invariant.same

pub returns : goal.returns
returns c = rows_end _ _ _ _ _ _ _ _ _ _ _ _ c.loop-cx.invariant (omega (arith, c.loop-cx-test.false))

pub returns-2 : goal.returns-2
returns-2 c =
    rows_end _ _ _ _ _ _ _ _ _ _ _ _
    (swept-on _ _ _ _ _ _ _ _ _ _ _ _ _ _ c.loop-cx.invariant c.row-r.ensures c.row-r.auto.link c.lesser-best.ensures)
    (omega (arith, c.loop-cx-test.true))
