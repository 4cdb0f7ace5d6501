use Rattle.stitch_run.specs.Stitch.{given_of}
use Rattle.stitch_chain.specs.Ready.{SameTable}
use Rattle.stitch.specs.Lent.{lists_of, SameMemory}
use Rattle.stitch.proofs.Writing.{Turning}
use Rattle.stitch.proofs.turn.take_turns.Given as goal

abbrev pub invariant-loop-i : goal.invariant-loop-i
invariant-loop-i l =
    record {
      table : SameTable l.initial.t l.t;
      same : SameMemory l.initial.x l.x;
      turning : Turning (given_of l.s) l.t.points.now l.t.layout l.initial.t.link.now (lists_of l.initial.x) l.w l.t.visited.now l.t.link.now (lists_of l.x) l.i;
    }
