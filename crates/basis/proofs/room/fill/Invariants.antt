use Rattle.basis.specs.RoomLaws.{Clearing}
use Rattle.basis.proofs.room.fill.Given as goal

abbrev pub invariant-loop-i : goal.invariant-loop-i
invariant-loop-i g l = Clearing l.value l.initial.room l.from l.to l.room l.i
