use Rattle.store_party.proofs.Sharing.{release-fits, release-part}
use Rattle.store_party.proofs.half.release.Goals as goal

pub release_slice-requires : goal.release_slice-requires
release_slice-requires c = search release-fits

pub returns : goal.returns
returns c = search release-part
