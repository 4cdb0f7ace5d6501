use Prim.Native.Nat.{◌-◌}
use Rattle.stitch_links.specs.LoopLaws.{Seeking}
use Rattle.stitch_links.proofs.look.first_on.Given as goal

abbrev pub invariant-loop-next : goal.invariant-loop-next
invariant-loop-next l = Seeking l.look.points.now l.look.visited.now l.look.layout l.look.query l.initial.link l.h l.lists l.end l.link l.at l.next l.seen

abbrev pub decreases-loop-next : goal.decreases-loop-next
decreases-loop-next l = l.end - l.next
