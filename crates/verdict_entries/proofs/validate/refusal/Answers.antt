use Rattle.std.proofs.Common.{rules}
use Rattle.basis.specs.RefusalLaws.{looks}
use Rattle.verdict_entries.specs.ValidateEntry.{ask-found, edition-looked}
use Rattle.verdict_entries.proofs.validate.refusal.Goals as goal

pub returns-in_err-ask_refusal : goal.returns-in_err-ask_refusal
returns-in_err-ask_refusal c = search (rules, ask-found, looks)

pub returns : goal.returns
returns c = search (rules, edition-looked, looks)
