use Rattle.straight_side.proofs.Fronting.{fronts-room, fronts-kept}
use Rattle.straight_side.proofs.keeping.kept_with.Goals as goal

pub walk_fronts-requires : goal.walk_fronts-requires
walk_fronts-requires c =
    fronts-room _ _ _ _ _ _ _ _ _ _ _ _ _ c.requires _ _ c.write_order.ensures _ c.write_wholes.ensures

pub returns-clause-kept : goal.returns-clause-kept
returns-clause-kept c =
    fronts-kept _ _ _ _ _ _ _ _ _ _ _ _ _ c.requires _ _ c.write_order.ensures _ c.write_wholes.ensures _ _ c.walk_fronts.ensures.wrote
