use Rattle.stitch_answer.specs.Answer.{near_end}
use Rattle.stitch_round.specs.Ready.{Met}
use Rattle.stitch_round.proofs.scan.scan.Given as goal

abbrev pub invariant-loop-j : goal.invariant-loop-j
invariant-loop-j l = Met (near_end l.round.points.now l.round.visited.now l.round.first l.end l.round.plan.tolerance) l.round.plan.starts l.choices l.j l.met
