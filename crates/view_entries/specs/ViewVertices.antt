-- The entry `mask_view_vertices`: all vertices of a view in one call. Vertex k is what `mask_view_vertex` answers for k.
use Rattle.std.specs.Prelude.{ℕ, ◌+◌, ◌*◌, ◌≤◌, ◌<◌, ◌≡◌, List, [], ◌∷◌, ◌++◌, length, ltb, Float, Result}
use Rattle.std.proofs.Math.Path.{refl, sym, subst}
use Rattle.std.proofs.Common.{ap, ◌∙◌}
use borrow.Author.Tests.{lt-ltb, le-ltb, ltb-false}
use Rattle.basis.specs.Number.{+0}
use Rattle.basis.specs.Room.{room_of}
use Rattle.basis.specs.declared.refuse.Refusal.{Refusal}
use Rattle.basis.specs.declared.refuse.Refusal.TheVariants.{Room}
use Rattle.basis.specs.Refusals.{when, found}
use Rattle.basis.specs.Refuse.{Row, row, first_of, answer}
use Rattle.basis.specs.RefuseLaws.{clear, none-clear, clear-left, clear-right, first_found, first-later, answer-no, answer-yes}
use Rattle.basis.specs.declared.answer.CountAnswer.{CountAnswer}
use Rattle.basis.specs.Answers.{count_refused, counted}
use Rattle.view.specs.declared.data.ViewData.{ViewData}
use Rattle.view.specs.View.{Fit, vertex_count, view_vertices, ListFit}
use Rattle.view_entries.specs.declared.input.View.{View}
use Rattle.view_entries.specs.LookLaws.{found-when}
use Rattle.view_entries.specs.Inputs.{view_data}
use Rattle.view_entries.specs.ViewVertex.{view_vertex_rows, view_vertex_refusal, vertex-accepted}

-- 9: three numbers for each of offset + 2 vertices
abbrev pub list_room_rows : View → ℕ → List Row
list_room_rows v len = row (ltb len (3 * vertex_count (view_data v))) 9 ∷ []

abbrev pub view_vertices_rows : List Float → ℕ → View → ℕ → List Row
view_vertices_rows o vc v len = view_vertex_rows o vc v ++ list_room_rows v len

unfoldable pub view_vertices_refusal : List Float → ℕ → View → ℕ → ℕ
view_vertices_refusal o vc v len = first_of (view_vertices_rows o vc v len)

-- the answer, and the lent list at exit: by the room rule where the call is accepted, untouched where it is refused
pub record VerticesLeft (o : List Float) (vc : ℕ) (v : View) (room : List Float) (r : CountAnswer) (left : List Float) : Type 0 where
  pub answers : r ≡ answer count_refused (view_vertices_refusal o vc v (length room)) (counted (vertex_count (view_data v)))
  pub vertices : left ≡ answer (λ _. room) (view_vertices_refusal o vc v (length room)) (room_of +0 3 (vertex_count (view_data v)) (view_vertices o vc (view_data v)) room)

-- the rows before 9 found nothing
pub record Shaped (o : List Float) (vc : ℕ) (v : View) : Type 0 where
  pub fit : Fit o vc (view_data v)

module _ (o : List Float) (vc : ℕ) (v : View) (len r : ℕ) (e : r ≡ view_vertex_refusal o vc v) where
  pub list-found : (r ≡ 0 → ⊥) → r ≡ view_vertices_refusal o vc v len
  unfolding view_vertex_refusal view_vertices_refusal
  list-found h = e ∙ sym (first_found (view_vertex_rows o vc v) (list_room_rows v len) (λ z. h (e ∙ z)))

  module _ (z : r ≡ 0) where
    pub list-shaped : Shaped o vc v
    list-shaped = record { fit = vertex-accepted o vc v r (view_data v) e z refl }

    later : view_vertices_refusal o vc v len ≡ first_of (list_room_rows v len)
    unfolding view_vertex_refusal view_vertices_refusal
    later = first-later (view_vertex_rows o vc v) (list_room_rows v len) (clear (view_vertex_rows o vc v) tt (sym e ∙ z))

    pub list-short : len < 3 * vertex_count (view_data v) → 9 ≡ view_vertices_refusal o vc v len
    unfolding first_of
    list-short h = sym (later ∙ rw (lt-ltb len (3 * vertex_count (view_data v)) h))

    pub list-enough : 3 * vertex_count (view_data v) ≤ len → 0 ≡ view_vertices_refusal o vc v len
    unfolding first_of
    list-enough h = sym (later ∙ rw (le-ltb len (3 * vertex_count (view_data v)) h))

    pub list-room : (w : Result Unit Refusal) → w ≡ when (ltb len (3 * vertex_count (view_data v))) Room → found w ≡ view_vertices_refusal o vc v len
    unfolding first_of
    list-room w q = ap found q ∙ found-when (ltb len (3 * vertex_count (view_data v))) Room ∙ sym later

pub ruleset list_rows = (list-found, list-shaped, list-room)

module _ (o : List Float) (vc : ℕ) (v : View) (room : List Float) (n : ℕ) (e : n ≡ view_vertices_refusal o vc v (length room)) where
  pub list-accepted : (w : ViewData) → n ≡ 0 → w ≡ view_data v → ListFit o vc w room
  unfolding view_vertices_refusal view_vertex_refusal
  list-accepted w z q =
      let ok = clear (view_vertices_rows o vc v (length room)) tt (sym e ∙ z) in
      subst (λ (u : ViewData). ListFit o vc u room) (sym q)
      (record {
        view = vertex-accepted o vc v 0 (view_data v) (sym (none-clear (view_vertex_rows o vc v) (clear-left (view_vertex_rows o vc v) (list_room_rows v (length room)) ok))) refl refl;
        fits = ltb-false (length room) (3 * vertex_count (view_data v)) (clear-right (view_vertex_rows o vc v) (list_room_rows v (length room)) ok).0;
      })

  pub list-refused : (r : CountAnswer) → (n ≡ 0 → ⊥) → r ≡ count_refused n → VerticesLeft o vc v room r room
  list-refused r h q = record { answers = answer-no count_refused n _ _ r e h q; vertices = answer-no (λ _. room) n _ _ room e h refl }

  pub list-given : (w : ViewData) (r : CountAnswer) (left : List Float) → n ≡ 0 → w ≡ view_data v → r ≡ counted (w.end_index_offset + 2)
      → left ≡ room_of +0 3 (vertex_count w) (view_vertices o vc w) room → VerticesLeft o vc v room r left
  list-given w r left z q a b =
      record {
        answers = answer-yes count_refused n _ _ r e z (a ∙ ap (λ (u : ViewData). counted (vertex_count u)) q);
        vertices = answer-yes (λ _. room) n _ _ left e z (b ∙ ap (λ (u : ViewData). room_of +0 3 (vertex_count u) (view_vertices o vc u) room) q);
      }

pub ruleset list_laws = (list-accepted, list-refused, list-given)
