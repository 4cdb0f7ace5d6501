use Rattle.view_start_entries.specs.SpanEntry.{span_laws}
use Rattle.basis.specs.RefusalLaws.{looks}
use Rattle.basis.specs.RefuseLaws.{answers}
use borrow.Author.Rules.{rules}
use Rattle.view_start_entries.proofs.span.entry.Goals as goal

pub returns-in-Err : goal.returns-in-Err
returns-in-Err c = search (rules, answers, span_laws, looks)

pub span_of-requires : goal.span_of-requires
span_of-requires c = search (rules, answers, span_laws, looks)

pub returns-in-Ok : goal.returns-in-Ok
returns-in-Ok c = search (rules, answers, span_laws, looks)
