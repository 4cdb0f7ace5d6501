use Rattle.candidate_lists.proofs.Finding.{told-ready}
use Rattle.candidate_lists.proofs.front.walked.Goals as goal

pub write_candidates-requires : goal.write_candidates-requires
write_candidates-requires c = told-ready _ _ _ _ (rw c.count-numbers.ensures c.requires.front) c.requires.ok
