use borrow.Author.Rules.{rules}
use Rattle.stitch.proofs.Writing.{turns-turn, turning}
use Rattle.stitch.proofs.turn.take_turns.Goals as goal

pub loop-i-init : goal.loop-i-init
loop-i-init c = search (rules, turning)

pub take_turn-w-requires : goal.take_turn-w-requires
take_turn-w-requires c =
    turns-turn _ _ _ _ _ _ _ _ _ _ c.loop-i.invariant.turning c.loop-i-test.true

pub loop-i-preserved : goal.loop-i-preserved
loop-i-preserved c = search (rules, turning)

pub returns : goal.returns
returns c = search (rules, turning)
