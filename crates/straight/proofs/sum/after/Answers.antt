use Rattle.straight.specs.Ready.{next}
use Rattle.straight.proofs.sum.after.Goals as goal

pub returns : goal.returns
unfolding next
returns c = c.wrapped.ensures
