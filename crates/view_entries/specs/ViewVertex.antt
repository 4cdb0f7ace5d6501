-- The entry `mask_view_vertex`: its refusals, its answer, and what acceptance gives.
use Rattle.std.specs.Prelude.{ℕ, not, ◌≡◌, List, [], ◌∷◌, length, ltb, leb, Float, Option}
use Rattle.std.proofs.Common.{sym, ◌∙◌}
use Rattle.std.proofs.Math.Path.{subst}
use borrow.Author.Tests.{leb-false, ltb-false}
use Rattle.basis.specs.Number.{all_within}
use Rattle.basis.specs.Refuse.{Row, row, first_of, answer, length_fault, size_fault, choice_fault}
use Rattle.basis.specs.RefuseLaws.{clear, length-ok, size_ok}
use Rattle.outline.specs.declared.point.Vertex.{Vertex}
use Rattle.view.specs.declared.data.ViewData.{ViewData}
use Rattle.view.specs.View.{Fit, get_vertex, view_numbers}
use Rattle.view_entries.specs.declared.input.View.{View}
use Rattle.view_entries.specs.declared.answer.VertexAnswer.{VertexAnswer}
use Rattle.view_entries.specs.Inputs.{view_data}
use Rattle.view_entries.specs.Answers.{vertex_refused, vertex_found}

abbrev pub view_vertex_rows : List Float → ℕ → View → List Row
view_vertex_rows o vc v =
    row (length_fault 3 (length o) vc) 1
    ∷ row (size_fault vc) 2
    ∷ row (choice_fault v.inverted_direction) 3
    ∷ row (not (all_within o)) 5
    ∷ row (not (all_within (view_numbers (view_data v)))) 5
    ∷ row (leb vc v.start_index) 6
    ∷ row (ltb vc v.end_index_offset) 7
    ∷ []

unfoldable pub view_vertex_refusal : List Float → ℕ → View → ℕ
view_vertex_refusal o vc v = first_of (view_vertex_rows o vc v)

abbrev pub view_vertex_answer : List Float → ℕ → View → ℕ → VertexAnswer
view_vertex_answer o vc v k = answer vertex_refused (view_vertex_refusal o vc v) (vertex_found (get_vertex o vc (view_data v) k))

module _ (o : List Float) (vc : ℕ) (v : View) where
  pub vertex-accepted : (number : ℕ) (w : ViewData) → number ≡ view_vertex_refusal o vc v → number ≡ 0 → w ≡ view_data v → Fit o vc w
  unfolding view_vertex_refusal
  vertex-accepted number w e z q =
      let ok = clear (view_vertex_rows o vc v) tt (sym e ∙ z) in
      let size = size_ok vc (search ok) in
      subst (λ (u : ViewData). Fit o vc u) (sym q)
      (record {
        whole = record { triples = length-ok 3 (length o) vc (search ok); least = size.0; most = size.1 };
        starts = leb-false vc v.start_index (search ok);
        reaches = ltb-false vc v.end_index_offset (search ok);
      })

  pub vertex-of : (k : ℕ) (w : ViewData) (f : Option Vertex) (r : VertexAnswer) → w ≡ view_data v → f ≡ get_vertex o vc w k → r ≡ vertex_found f → r ≡ vertex_found (get_vertex o vc (view_data v) k)
  vertex-of k w f r e q p = cc

pub ruleset vertex_laws = (vertex-accepted, vertex-of)
