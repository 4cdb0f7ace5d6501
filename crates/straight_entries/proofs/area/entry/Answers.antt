use Rattle.basis.specs.RefusalLaws.{looks}
use Rattle.basis.specs.RefuseLaws.{answers}
use Rattle.straight_entries.specs.AreaEntry.{area_laws}
use borrow.Author.Rules.{rules}
use Rattle.straight_entries.proofs.area.entry.Goals as goal

pub returns-in-Err : goal.returns-in-Err
returns-in-Err c = search (rules, answers, area_laws, looks)

pub area_of-requires : goal.area_of-requires
area_of-requires c = search (rules, answers, area_laws, looks)

pub returns-in-Ok : goal.returns-in-Ok
returns-in-Ok c = search (rules, answers, area_laws, looks)
