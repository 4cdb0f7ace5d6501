use Rattle.stitch.proofs.Writing.{Summing}
use Rattle.stitch.proofs.write.room_need.Given as goal

abbrev pub invariant-loop-i : goal.invariant-loop-i
invariant-loop-i l = Summing l.slice_at l.count l.sum l.i
