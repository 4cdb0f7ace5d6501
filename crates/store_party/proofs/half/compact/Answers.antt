use Rattle.store_party.proofs.Sharing.{compact-fits, compact-part}
use Rattle.store_party.proofs.half.compact.Goals as goal

pub compact_slices-requires : goal.compact_slices-requires
compact_slices-requires c = search compact-fits

pub returns : goal.returns
returns c = search compact-part
