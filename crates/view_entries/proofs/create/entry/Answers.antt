use Rattle.basis.specs.RefusalLaws.{looks}
use Rattle.basis.specs.RefuseLaws.{answers}
use Rattle.view_entries.specs.CreateEntry.{create_laws}
use borrow.Author.Rules.{rules}
use Rattle.view_entries.proofs.create.entry.Goals as goal

pub returns-in-Err : goal.returns-in-Err
returns-in-Err c = search (rules, answers, create_laws, looks)

pub create-requires : goal.create-requires
create-requires c = search (rules, answers, create_laws, looks)

pub returns-in-Ok : goal.returns-in-Ok
returns-in-Ok c = search (rules, answers, create_laws, looks)
