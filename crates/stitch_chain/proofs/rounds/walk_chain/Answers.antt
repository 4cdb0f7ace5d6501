use borrow.Author.Rules.{rules}
use Rattle.stitch_chain.proofs.Walking.{walk-look, walk-place, walk_end, walk-whole, walking}
use Rattle.stitch_chain.proofs.rounds.walk_chain.Goals as goal

pub place-n-requires : goal.place-n-requires
place-n-requires c = search (rules, walking)

pub loop-j-init : goal.loop-j-init
loop-j-init c = search (rules, walking)

pub next_of-requires : goal.next_of-requires
next_of-requires c = walk-look _ _ _ _ _ _ _ _ c.loop-j.invariant

pub place-n-requires-in-Onto : goal.place-n-requires-in-Onto
place-n-requires-in-Onto c =
    walk-place _ _ _ _ _ _ _ _ c.loop-j.invariant c.next_of.ensures c.in-Onto.is

pub loop-j-preserved : goal.loop-j-preserved
loop-j-preserved c = search (rules, walking)

pub shape_of-room-in-Ends : goal.shape_of-room-in-Ends
shape_of-room-in-Ends c = search (rules, walking)

pub shape_of-chain-in-Ends : goal.shape_of-chain-in-Ends
shape_of-chain-in-Ends c = search (rules, walking)

pub returns-in-Ends-clause-walked : goal.returns-in-Ends-clause-walked
returns-in-Ends-clause-walked c =
    walk-whole _ _ _ _ _ _ _ _ c.requires c.place-n.ensures (walk_end _ _ _ _ _ _ _ _ c.loop-j.invariant c.next_of.ensures c.in-Ends.is)
