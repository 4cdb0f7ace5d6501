use Rattle.candidate_lists.proofs.Finding.{told-ready}
use Rattle.candidate_lists.proofs.told.sought.Goals as goal

pub write_candidates-requires : goal.write_candidates-requires
write_candidates-requires c = told-ready _ _ _ _ (c.is_along.ensures.yes c.if-is_along.true) c.requires
