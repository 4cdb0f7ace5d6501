use Rattle.basis.specs.RefusalLaws.{looks}
use Rattle.basis.specs.RefuseLaws.{answers}
use Rattle.straight_entries.specs.ReportEntry.{report_laws}
use borrow.Author.Rules.{rules}
use Rattle.straight_entries.proofs.report.entry.Goals as goal

pub returns-in-Err : goal.returns-in-Err
returns-in-Err c = search (rules, answers, report_laws, looks)

pub report_of-requires : goal.report_of-requires
report_of-requires c = search (rules, answers, report_laws, looks)

pub returns-in-Ok : goal.returns-in-Ok
returns-in-Ok c = search (rules, answers, report_laws, looks)
