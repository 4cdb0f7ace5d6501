use native.Mathlib.Omega.{arith}
use Rattle.stitch_answer.proofs.LookLaws.{asked-first, asked-again, chosen-first, chosen-second, none-chosen, overlap-refused, overlap-chosen, first-few}
use Rattle.stitch_answer.proofs.answer.by_groups.Goals as goal

pub lowest-a-requires : goal.lowest-a-requires
lowest-a-requires c =
    asked-first _ _ _ _ _ _ _ _ _ _ c.requires c.of_group.ensures c.cells_of-c.ensures

pub returns-then-a-ne-NO_NUMBER : goal.returns-then-a-ne-NO_NUMBER
returns-then-a-ne-NO_NUMBER c =
    chosen-first _ _ _ _ _ _ _ _ _ _ c.requires c.class_of-class.ensures c.group_first-g.ensures
    _ _ _ c.of_group.ensures c.lowest-a.ensures c.if-a-ne-NO_NUMBER.true

pub overflow_sub-g : goal.overflow_sub-g
overflow_sub-g c =
    omega (arith, first-few c.class_of-class.result _ c.group_first-g.ensures)

pub lowest-b-requires : goal.lowest-b-requires
lowest-b-requires c =
    asked-again _ _ _ _ _ _ _ _ _ _ _ _ _ _ c.requires c.of_group.ensures c.lowest-a.ensures c.of_group-2.ensures c.cells_of-c.ensures

pub returns-then-b-ne-NO_NUMBER : goal.returns-then-b-ne-NO_NUMBER
returns-then-b-ne-NO_NUMBER c =
    chosen-second _ _ _ _ _ _ _ _ _ _ c.requires c.class_of-class.ensures c.group_first-g.ensures
    _ _ _ c.of_group.ensures c.lowest-a.ensures c.if-a-ne-NO_NUMBER.false
    _ _ _ c.of_group-2.ensures c.lowest-b.ensures c.if-b-ne-NO_NUMBER.true

pub lowest-o-requires : goal.lowest-o-requires
lowest-o-requires c =
    asked-again _ _ _ _ _ _ _ _ _ _ _ _ _ _ c.requires c.of_group-2.ensures c.lowest-b.ensures c.of_group-3.ensures c.cells_of-c.ensures

pub returns-then-o-eq-NO_NUMBER : goal.returns-then-o-eq-NO_NUMBER
returns-then-o-eq-NO_NUMBER c =
    none-chosen _ _ _ _ _ _ _ _ _ _ c.requires c.class_of-class.ensures c.group_first-g.ensures
    _ _ _ c.of_group.ensures c.lowest-a.ensures c.if-a-ne-NO_NUMBER.false
    _ _ _ c.of_group-2.ensures c.lowest-b.ensures c.if-b-ne-NO_NUMBER.false
    _ _ _ c.of_group-3.ensures c.lowest-o.ensures c.if-o-eq-NO_NUMBER.true

pub returns-then-is_refused : goal.returns-then-is_refused
returns-then-is_refused c =
    overlap-refused _ _ _ _ _ _ _ _ _ _ c.requires c.class_of-class.ensures c.group_first-g.ensures
    _ _ _ c.of_group.ensures c.lowest-a.ensures c.if-a-ne-NO_NUMBER.false
    _ _ _ c.of_group-2.ensures c.lowest-b.ensures c.if-b-ne-NO_NUMBER.false
    _ _ _ c.of_group-3.ensures c.lowest-o.ensures _ c.if-o-eq-NO_NUMBER.false c.is_refused.ensures c.if-is_refused.true

pub returns : goal.returns
returns c =
    overlap-chosen _ _ _ _ _ _ _ _ _ _ c.requires c.class_of-class.ensures c.group_first-g.ensures
    _ _ _ c.of_group.ensures c.lowest-a.ensures c.if-a-ne-NO_NUMBER.false
    _ _ _ c.of_group-2.ensures c.lowest-b.ensures c.if-b-ne-NO_NUMBER.false
    _ _ _ c.of_group-3.ensures c.lowest-o.ensures _ c.if-o-eq-NO_NUMBER.false c.is_refused.ensures c.if-is_refused.false
