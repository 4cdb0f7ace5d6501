use Rattle.basis.specs.RefusalLaws.{looks}
use Rattle.basis.specs.RefuseLaws.{answers}
use Rattle.view_entries.specs.EntireEntry.{entire_laws}
use borrow.Author.Rules.{rules}
use Rattle.view_entries.proofs.entire.entry.Goals as goal

pub returns-in-Err : goal.returns-in-Err
returns-in-Err c = search (rules, answers, entire_laws, looks)

pub from_entire_pline-requires : goal.from_entire_pline-requires
from_entire_pline-requires c = search (rules, answers, entire_laws, looks)

pub returns-in-Ok : goal.returns-in-Ok
returns-in-Ok c = search (rules, answers, entire_laws, looks)
