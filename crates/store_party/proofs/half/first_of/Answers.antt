use Rattle.store_party.proofs.Sharing.{begins-first, begins-second}
use Rattle.store_party.proofs.half.first_of.Goals as goal

pub returns-then-party-eq0 : goal.returns-then-party-eq0
returns-then-party-eq0 c = search begins-first

pub returns-else-party-eq0 : goal.returns-else-party-eq0
returns-else-party-eq0 c = search begins-second
