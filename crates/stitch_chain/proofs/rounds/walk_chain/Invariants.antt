use Prim.Native.Nat.{◌-◌}
use Rattle.stitch_run.specs.Stitch.{given_of}
use Rattle.stitch_chain.proofs.Walking.{Walking}
use Rattle.stitch_chain.proofs.rounds.walk_chain.Given as goal

abbrev pub invariant-loop-j : goal.invariant-loop-j
invariant-loop-j l = Walking (given_of l.s) l.first l.points l.layout l.initial.link l.initial.room l.initial.chain l.visited l.link l.room l.chain l.n l.current l.rounds

abbrev pub decreases-loop-j : goal.decreases-loop-j
decreases-loop-j l = l.s.plan.slices - l.rounds
