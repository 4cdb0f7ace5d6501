use Rattle.candidate_entries.proofs.Finding.{editions-ready}
use Rattle.candidate_entries.proofs.along.told_dated.Goals as goal

pub write_editions-requires : goal.write_editions-requires
write_editions-requires c =
    editions-ready _ _ _ _ _ _ c.count.ensures c.requires c.sought-m.ensures.written
