use Rattle.store_party.proofs.Sharing.{list-fits, list-part}
use Rattle.store_party.proofs.half.list.Goals as goal

pub list_slices-requires : goal.list_slices-requires
list_slices-requires c = search list-fits

pub returns : goal.returns
returns c = search list-part
