use Rattle.basis.specs.RefusalLaws.{looks}
use Rattle.basis.specs.RefuseLaws.{answers}
use Rattle.unmoved_entries.specs.UnmovedEntry.{unmoved_laws}
use borrow.Author.Rules.{rules}
use Rattle.unmoved_entries.proofs.moving.entry.Goals as goal

pub returns-in-Err : goal.returns-in-Err
returns-in-Err c = search (rules, answers, looks)

pub first_moved-requires : goal.first_moved-requires
first_moved-requires c = search (rules, unmoved_laws, looks)

pub returns-in-Ok : goal.returns-in-Ok
returns-in-Ok c = search (rules, answers, unmoved_laws, looks)
