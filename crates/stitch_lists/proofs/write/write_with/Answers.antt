use Rattle.stitch_lists.proofs.Writing.{rest-fit, written_of, begin-turns, need-fit}
use borrow.Author.Rules.{rules}
use Rattle.stitch_lists.proofs.write.write_with.Goals as goal

pub take_turns-w-requires : goal.take_turns-w-requires
take_turns-w-requires c =
    begin-turns _ _ _ _ _ _ _ _ _ _ _ _ _ c.requires c.fill_points.ensures c.hang-layout.ensures

pub room_need-need-requires : goal.room_need-need-requires
room_need-need-requires c =
    need-fit _ _ c.requires.fit

pub clear_rest-requires : goal.clear_rest-requires
clear_rest-requires c =
    rest-fit _ _ _ _ _ c.requires.fit c.take_turns-w.ensures.turned c.room_need-need.ensures

pub shape_of-points : goal.shape_of-points
shape_of-points c =
    search (rules, c.points-1)

pub shape_of-link : goal.shape_of-link
shape_of-link c =
    search (rules, c.link-2-1, c.link-1)

pub returns-clause-written : goal.returns-clause-written
returns-clause-written c =
    written_of _ _ _ _ _ _ c.take_turns-w.ensures.turned c.room_need-need.ensures c.clear_rest.ensures.cleared
