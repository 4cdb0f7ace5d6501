use mathlib.Core.Path.{sym, ap, ◌∙◌}
use Rattle.view_entries.specs.Answers.{segment_made}
use Rattle.view_entries.proofs.answer.segment_made.Goals as goal

pub returns-in-Some : goal.returns-in-Some
unfolding segment_made
returns-in-Some c = c.view_made.ensures ∙ ap segment_made (sym c.in-Some.is)

pub returns-in-None : goal.returns-in-None
unfolding segment_made
returns-in-None c = c.view_refused.ensures ∙ ap segment_made (sym c.in-None.is)
