use Rattle.store.proofs.LookingBytes.{free-some}
use Rattle.store.proofs.bytes.free_handle.Goals as goal

pub returns : goal.returns
returns c = free-some _ _ _ _ _ _ c.live_marks.ensures c.lowest.ensures
