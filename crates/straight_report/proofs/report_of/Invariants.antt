use Prim.Native.Nat.{◌^◌, ◌<◌}
use Rattle.whole.specs.Two.{value}
use Rattle.straight_report.specs.ReportLaws.{Going}
use Rattle.straight_report.proofs.report_of.Given as goal

abbrev pub invariant-loop-end : goal.invariant-loop-end
invariant-loop-end l = Going l.points l.ends l.end-index l.from l.zero (value l.total) × (l.total.low < 2 ^ 64)
