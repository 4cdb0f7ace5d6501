use Rattle.view_start_entries.specs.NewStartEntry.{new_start_laws}
use Rattle.basis.specs.RefusalLaws.{looks}
use Rattle.basis.specs.RefuseLaws.{answers}
use borrow.Author.Rules.{rules}
use Rattle.view_start_entries.proofs.new_start.entry.Goals as goal

pub returns-in-Err : goal.returns-in-Err
returns-in-Err c = search (rules, answers, new_start_laws, looks)

pub from_new_start-requires : goal.from_new_start-requires
from_new_start-requires c = search (rules, answers, new_start_laws, looks)

pub returns-in-Ok : goal.returns-in-Ok
returns-in-Ok c = search (rules, answers, new_start_laws, looks)
