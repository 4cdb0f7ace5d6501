use Rattle.straight_slices.proofs.Making.{finish-fit, finish-written}
use Rattle.straight_slices.proofs.slicing.sliced.Goals as goal

pub finish-requires : goal.finish-requires
finish-requires c =
    finish-fit _ _ _ _ _ c.requires c.both_sides-kept.ensures.written

pub returns-clause-written : goal.returns-clause-written
returns-clause-written c =
    finish-written _ _ _ _ _ c.requires c.both_sides-kept.ensures.written _ _ c.finish.ensures.finished
