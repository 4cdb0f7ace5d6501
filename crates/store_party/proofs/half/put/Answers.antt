use Rattle.store_party.proofs.Sharing.{put-fits, put-part}
use Rattle.store_party.proofs.half.put.Goals as goal

pub put_slice-requires : goal.put_slice-requires
put_slice-requires c = search put-fits

pub returns : goal.returns
returns c = search put-part
