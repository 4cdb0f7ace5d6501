use mathlib.Core.Path.{sym, ap, ◌∙◌}
use Rattle.view_entries.specs.Answers.{vertex_found}
use Rattle.view_entries.proofs.answer.vertex_found.Goals as goal

pub returns-in-Some : goal.returns-in-Some
unfolding vertex_found
returns-in-Some c = ap vertex_found (sym c.in-Some.is)

pub returns-in-None : goal.returns-in-None
unfolding vertex_found
returns-in-None c = c.vertex_refused.ensures ∙ ap vertex_found (sym c.in-None.is)
