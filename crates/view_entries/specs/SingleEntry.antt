-- The entry `mask_create_on_single_segment`: its refusals and its answer.
use Rattle.std.specs.Prelude.{ℕ, not, ◌≡◌, List, [], ◌∷◌, ◌++◌, length, leb, Float, Option}
use Rattle.std.proofs.Common.{ap, ◌∙◌}
use Rattle.basis.specs.Number.{all_within, tolerable}
use Rattle.basis.specs.declared.number.Tolerance.{Tolerance}
use Rattle.basis.specs.Refuse.{Row, row, first_of, answer, length_fault, size_fault}
use Rattle.outline.specs.declared.point.Point.{Point}
use Rattle.outline.specs.declared.point.Vertex.{Vertex}
use Rattle.outline.specs.Points.{point_numbers, vertex_numbers}
use Rattle.view.specs.declared.data.ViewData.{ViewData}
use Rattle.view.specs.Create.{single_view}
use Rattle.view_entries.specs.declared.answer.ViewAnswer.{ViewAnswer}
use Rattle.view_entries.specs.Answers.{view_refused, segment_made}

abbrev pub single_rows : List Float → ℕ → ℕ → Vertex → Point → Tolerance → List Row
single_rows o vc start first end t =
    row (length_fault 3 (length o) vc) 1
    ∷ row (size_fault vc) 2
    ∷ row (not (tolerable t)) 4
    ∷ row (not (all_within o)) 5
    ∷ row (not (all_within (vertex_numbers first ++ point_numbers end))) 5
    ∷ row (leb vc start) 6
    ∷ []

unfoldable pub single_refusal : List Float → ℕ → ℕ → Vertex → Point → Tolerance → ℕ
single_refusal o vc start first end t = first_of (single_rows o vc start first end t)

abbrev pub single_answer : List Float → ℕ → ℕ → Vertex → Point → Tolerance → ViewAnswer
single_answer o vc start first end t = answer view_refused (single_refusal o vc start first end t) (segment_made (single_view start first end t))

pub single_of : (start : ℕ) (first : Vertex) (end : Point) (t : Tolerance) (s : Option ViewData) (r : ViewAnswer)
    → s ≡ single_view start first end t → r ≡ segment_made s → r ≡ segment_made (single_view start first end t)
single_of start first end t s r e q = q ∙ ap segment_made e

pub ruleset single_laws = (single_of)
