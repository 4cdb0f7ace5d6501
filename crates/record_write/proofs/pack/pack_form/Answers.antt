use borrow.Author.Rules.{rules}
use Rattle.record_write.proofs.Packing.{packing-vertices, record-packed}
use Rattle.record_write.proofs.pack.pack_form.Goals as goal

pub write_rows-requires : goal.write_rows-requires
write_rows-requires c = search (rules, packing-vertices)

pub returns : goal.returns
returns c = search (rules, record-packed)
