use Rattle.std.proofs.Common.{rules}
use Rattle.basis.specs.RefusalLaws.{looks}
use Rattle.unmoved_entries.specs.UnmovedEntry.{unmoved_laws}
use Rattle.unmoved_entries.proofs.moving.refusal.Goals as goal

pub returns-in_err-value_refusal : goal.returns-in_err-value_refusal
returns-in_err-value_refusal c = search (rules, unmoved_laws, looks)

pub returns : goal.returns
returns c = search (rules, unmoved_laws, looks)
