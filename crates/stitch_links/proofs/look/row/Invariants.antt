use Prim.Native.Nat.{◌+◌}
use Rattle.stitch_links.proofs.RowLaws.{Swept}
use Rattle.stitch_links.proofs.look.row.Given as goal

abbrev pub invariant-loop-cy : goal.invariant-loop-cy
invariant-loop-cy l = Swept l.look.points.now l.look.visited.now l.look.layout l.look.query l.initial.link l.link l.cx (l.cx + 1) l.y0 l.cy l.best
