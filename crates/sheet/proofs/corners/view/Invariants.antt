use Rattle.std.proofs.Common.{◌-◌, ◌≤◌}
use Rattle.sheet.proofs.corners.view.Given as goal

abbrev pub invariant-loop-k : goal.invariant-loop-k
invariant-loop-k g l = l.k ≤ 1026

abbrev pub decreases-loop-k : goal.decreases-loop-k
decreases-loop-k g l = 1026 - l.k
