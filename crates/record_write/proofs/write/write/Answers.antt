use Rattle.std.proofs.Common.{rules}
use Rattle.record_write.proofs.Keeping.{table-ok, write-asked}
use Rattle.record_write.proofs.write.write.Goals as goal

pub write_form-requires : goal.write_form-requires
write_form-requires c = search (rules, table-ok)

pub returns : goal.returns
returns c = search (rules, write-asked)
