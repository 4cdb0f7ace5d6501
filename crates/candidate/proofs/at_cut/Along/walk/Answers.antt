use Rattle.candidate.proofs.Telling.{told-walk}
use Rattle.candidate.proofs.at_cut.Along.walk.Goals as goal

pub returns : goal.returns
returns c =
    told-walk _ _ _ _ c.requires _ c.count.ensures _ c.next_cut-next.ensures _ c.cut_of-end.ensures _ c.walk_by-w.ensures _ c.walk_candidate.ensures
