use mathlib.Core.Path.{refl}
use Rattle.straight_slices.proofs.Making.{first-room, second-room, both-made}
use Rattle.straight_slices.proofs.slicing.both_sides.Goals as goal

pub kept-a-requires : goal.kept-a-requires
kept-a-requires c =
    first-room _ _ c.requires _ _ c.first_side-one.ensures _ c.first_cuts-own.ensures

pub kept-b-requires : goal.kept-b-requires
kept-b-requires c =
    second-room _ _ c.requires _ _ c.first_side-one.ensures _ c.first_cuts-own.ensures _ _ c.kept-a.ensures.kept _ _ c.second_side-two.ensures _ c.second_cuts-others.ensures

pub returns-clause-written : goal.returns-clause-written
returns-clause-written c =
    both-made _ _ c.requires _ _ c.first_side-one.ensures _ c.first_cuts-own.ensures _ _ c.kept-a.ensures.kept _ _ c.second_side-two.ensures _ c.second_cuts-others.ensures
    c.parts_of-parts.result c.parts_of-parts.ensures refl refl _ _ c.kept-b.ensures.kept
