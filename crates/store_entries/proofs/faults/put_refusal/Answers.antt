use Rattle.std.proofs.Common.{rules}
use Rattle.basis.specs.RefusalLaws.{looks}
use Rattle.store_entries.proofs.StoreEntryLaws.{put-stops}
use Rattle.store_entries.proofs.faults.put_refusal.Goals as goal

pub returns-in_err-slice_refusal : goal.returns-in_err-slice_refusal
returns-in_err-slice_refusal c = search (rules, looks, put-stops)
