use Rattle.candidate_lists.proofs.Finding.{in-front}
use Rattle.candidate_lists.proofs.found.found_with.Goals as goal

pub walked-requires : goal.walked-requires
walked-requires c = in-front _ _ _ _ _ _ _ c.write_order.ensures c.requires.ok c.requires.number_room c.requires.point_room
