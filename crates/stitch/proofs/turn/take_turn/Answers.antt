use mathlib.Core.Path.{refl}
use Rattle.stitch.proofs.Turning.{turn-skip, turn-behind, turn-open, turn-listed, turn-looped, turn-taken}
use borrow.Author.Rules.{rules}
use Rattle.stitch.proofs.turn.take_turn.Goals as goal

pub returns-then-t-i-clause-turned : goal.returns-then-t-i-clause-turned
returns-then-t-i-clause-turned c =
    turn-skip c.requires c.if-t-i.true

pub overflow_mul-a : goal.overflow_mul-a
overflow_mul-a c =
    let h = turn-behind c.requires c.if-t-i.false in
    search rules

pub slice_bounds-walk_chain-count : goal.slice_bounds-walk_chain-count
slice_bounds-walk_chain-count c =
    let h = turn-behind c.requires c.if-t-i.false in
    search rules

pub slice_bounds-walk_chain-start : goal.slice_bounds-walk_chain-start
slice_bounds-walk_chain-start c =
    let h = turn-behind c.requires c.if-t-i.false in
    search rules

pub walk_chain-e-requires : goal.walk_chain-e-requires
walk_chain-e-requires c =
    turn-open c.requires c.if-t-i.false refl

pub list_chain-requires : goal.list_chain-requires
list_chain-requires c =
    turn-listed c.requires c.if-t-i.false

pub list_loop-requires : goal.list_loop-requires
list_loop-requires c =
    turn-looped c.requires c.if-t-i.false c.walk_chain-e.ensures.walked

pub returns-clause-turned : goal.returns-clause-turned
returns-clause-turned c =
    turn-taken c.requires c.if-t-i.false refl c.walk_chain-e.ensures.walked c.list_chain.ensures c.list_loop.ensures
