use Rattle.std.proofs.Common.{◌-◌, ◌/◌, ◌≤◌, length}
use Rattle.sheet.proofs.print.starts_and_offsets.Given as goal

abbrev pub invariant-loop-i : goal.invariant-loop-i
invariant-loop-i g l = l.i ≤ length l.at / 2

abbrev pub decreases-loop-i : goal.decreases-loop-i
decreases-loop-i g l = length l.at / 2 - l.i
