use Prim.Native.Nat.{◌+◌}
use Rattle.stitch_links.proofs.RowLaws.{Swept}
use Rattle.stitch_links.proofs.look.search.Given as goal

abbrev pub invariant-loop-cx : goal.invariant-loop-cx
invariant-loop-cx l = Swept l.look.points.now l.look.visited.now l.look.layout l.look.query l.initial.link l.link l.c.x0 l.cx l.c.y0 (l.c.y1 + 1) l.best
