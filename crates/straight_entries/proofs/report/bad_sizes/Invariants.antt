use Rattle.straight_report.specs.ReportLaws.{SizesFrom}
use Rattle.straight_entries.proofs.report.bad_sizes.Given as goal

abbrev pub invariant-loop-end : goal.invariant-loop-end
invariant-loop-end l = SizesFrom l.ends l.end-index l.from
