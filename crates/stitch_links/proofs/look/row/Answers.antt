use native.Mathlib.Omega.{arith}
use Rattle.stitch_links.proofs.RowLaws.{swept-row, swept-list, swept-up, row-end}
use Rattle.stitch_links.proofs.look.row.Goals as goal

pub loop-cy-init : goal.loop-cy-init
loop-cy-init c = swept-row _ _ _ _ _ _ _ _ c.requires

pub list_of-h-requires : goal.list_of-h-requires
list_of-h-requires c = c.loop-cy.invariant.ready.fit.lists

pub first_on-r-requires : goal.first_on-r-requires
first_on-r-requires c = swept-list _ _ _ _ _ _ _ _ _ _ _ c.loop-cy.invariant _ _ _ c.list_of-h.ensures

pub loop-cy-preserved : goal.loop-cy-preserved
loop-cy-preserved c = swept-up _ _ _ _ _ _ _ _ _ _ _ _ _ _ c.loop-cy.invariant c.list_of-h.ensures c.first_on-r.ensures c.first_on-r.auto.link c.lesser-best.ensures

pub shape_of-link : goal.shape_of-link
shape_of-link c = c.loop-cy.invariant.same

pub returns : goal.returns
returns c = row-end _ _ _ _ _ _ _ _ _ _ _ c.loop-cy.invariant (omega (arith, c.loop-cy-test.false))

pub returns-2 : goal.returns-2
returns-2 c =
    row-end _ _ _ _ _ _ _ _ _ _ _
    (swept-up _ _ _ _ _ _ _ _ _ _ _ _ _ _ c.loop-cy.invariant c.list_of-h.ensures c.first_on-r.ensures c.first_on-r.auto.link c.lesser-best.ensures)
    (omega (arith, c.loop-cy-test.true))
