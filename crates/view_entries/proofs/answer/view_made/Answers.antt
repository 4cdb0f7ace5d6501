use Rattle.view_entries.specs.Answers.{view_made}
use Rattle.view_entries.proofs.answer.view_made.Goals as goal

pub returns : goal.returns
unfolding view_made
returns c = rw c.from.ensures
