use Rattle.basis.specs.RefusalLaws.{looks}
use Rattle.basis.specs.RefuseLaws.{answers}
use Rattle.verdict_entries.specs.ValidateEntry.{validate_laws}
use borrow.Author.Rules.{rules}
use Rattle.verdict_entries.proofs.validate.entry.Goals as goal

pub returns-in-Err : goal.returns-in-Err
returns-in-Err c = search (rules, answers, validate_laws, looks)

pub validate_for_source-requires : goal.validate_for_source-requires
validate_for_source-requires c = search (rules, answers, validate_laws, looks)

pub returns-in-Ok : goal.returns-in-Ok
returns-in-Ok c = search (rules, answers, validate_laws, looks)
