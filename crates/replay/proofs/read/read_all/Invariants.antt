use Rattle.std.proofs.Common.{◌≤◌, length}
use Rattle.replay.proofs.read.read_all.Given as goal

abbrev pub invariant-turns : goal.invariant-turns
invariant-turns g l = l.done ≤ length l.bytes
