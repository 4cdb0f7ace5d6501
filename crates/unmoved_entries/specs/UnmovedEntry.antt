-- The entry `mask_unmoved`: its refusals, its answer, and what acceptance gives. 6 and 7 look at both outlines.
use Rattle.std.specs.Prelude.{ℕ, not, cond, ◌≡◌, List, [], ◌∷◌, ◌++◌, length, ltb, leb, eqb, Float, Option, Some, None}
use Rattle.std.proofs.Common.{sym, ap, ◌∙◌}
use Rattle.std.proofs.Math.Path.{subst}
use borrow.Author.Tests.{leb-false, ltb-false, not-false}
use Rattle.basis.specs.Choice.{code_of, by-test}
use Rattle.basis.specs.Number.{all_within}
use Rattle.basis.specs.Refuse.{Row, row, first_of, first_from, answer, length_fault, size_fault, choice_fault}
use Rattle.basis.specs.RefuseLaws.{clear, stop-rows, go-rows, length-ok, size_ok, first-from, then-rows}
use Rattle.view.specs.declared.data.ViewData.{ViewData}
use Rattle.view.specs.View.{vertex_count, view_numbers}
use Rattle.unmoved.specs.Unmoved.{first_moved, moved, BothFit}
use Rattle.view_entries.specs.declared.input.View.{View}
use Rattle.view_entries.specs.Inputs.{view_data}
use Rattle.unmoved_entries.specs.declared.answer.UnmovedAnswer.{UnmovedAnswer}

abbrev pub value_rows : List Float → ℕ → List Float → ℕ → View → List Row
value_rows o1 vc1 o2 vc2 v =
    row (length_fault 3 (length o1) vc1) 1
    ∷ row (length_fault 3 (length o2) vc2) 1
    ∷ row (size_fault vc1) 2
    ∷ row (size_fault vc2) 2
    ∷ row (choice_fault v.inverted_direction) 3
    ∷ row (not (all_within o1)) 5
    ∷ row (not (all_within o2)) 5
    ∷ row (not (all_within (view_numbers (view_data v)))) 5
    ∷ []

abbrev pub index_rows : ℕ → ℕ → View → List Row
index_rows vc1 vc2 v =
    row (leb vc1 v.start_index) 6
    ∷ row (leb vc2 v.start_index) 6
    ∷ row (ltb vc1 v.end_index_offset) 7
    ∷ row (ltb vc2 v.end_index_offset) 7
    ∷ []

abbrev pub unmoved_rows : List Float → ℕ → List Float → ℕ → View → List Row
unmoved_rows o1 vc1 o2 vc2 v = value_rows o1 vc1 o2 vc2 v ++ index_rows vc1 vc2 v

unfoldable pub unmoved_refusal : List Float → ℕ → List Float → ℕ → View → ℕ
unmoved_refusal o1 vc1 o2 vc2 v = first_of (unmoved_rows o1 vc1 o2 vc2 v)

abbrev pub unmoved_refused : ℕ → UnmovedAnswer
unmoved_refused n = record { refusal = n; unmoved = 0; first = 0 }

-- unmoved 1 and first 0 where no vertex differs; else unmoved 0 and the lowest number of one that does
unfoldable pub unmoved_given : ℕ → ℕ → UnmovedAnswer
unmoved_given first count = record { refusal = 0; unmoved = code_of (eqb first count); first = cond (eqb first count) 0 first }

-- the same of what the code told: the lowest number of a vertex that differs, or none
abbrev pub unmoved_told : Option ℕ → UnmovedAnswer
unmoved_told None = record { refusal = 0; unmoved = 1; first = 0 }
unmoved_told (Some k) = record { refusal = 0; unmoved = 0; first = k }

abbrev pub unmoved_answer : List Float → ℕ → List Float → ℕ → View → UnmovedAnswer
unmoved_answer o1 vc1 o2 vc2 v =
    answer unmoved_refused (unmoved_refusal o1 vc1 o2 vc2 v) (unmoved_given (first_moved o1 vc1 o2 vc2 (view_data v)) (vertex_count (view_data v)))

told-given : (n count : ℕ) → unmoved_told (cond (eqb n count) None (Some n)) ≡ unmoved_given n count
unfolding unmoved_given
told-given n count = by-test (eqb n count) (λ e. rw e) (λ e. rw e)

module _ (o1 : List Float) (vc1 : ℕ) (o2 : List Float) (vc2 : ℕ) (v : View) where
  pub unmoved-rows : (p n : ℕ) → p ≡ first_from 0 (value_rows o1 vc1 o2 vc2 v) → n ≡ first_from p (index_rows vc1 vc2 v) → n ≡ unmoved_refusal o1 vc1 o2 vc2 v
  unfolding unmoved_refusal
  unmoved-rows p n e q = first-from (unmoved_rows o1 vc1 o2 vc2 v) n tt (then-rows n p 0 (value_rows o1 vc1 o2 vc2 v) (index_rows vc1 vc2 v) q e)

  -- the first part has a number, or the second is looked at
  pub unmoved-stops : (p : ℕ) → p ≡ first_from 0 (value_rows o1 vc1 o2 vc2 v) → (p ≡ 0 → ⊥) → p ≡ unmoved_refusal o1 vc1 o2 vc2 v
  unfolding unmoved_refusal
  unmoved-stops p e h = stop-rows (value_rows o1 vc1 o2 vc2 v) (index_rows vc1 vc2 v) p tt e h

  pub unmoved-goes : (p n : ℕ) → p ≡ first_from 0 (value_rows o1 vc1 o2 vc2 v) → p ≡ 0 → n ≡ first_from 0 (index_rows vc1 vc2 v) → n ≡ unmoved_refusal o1 vc1 o2 vc2 v
  unfolding unmoved_refusal
  unmoved-goes p n e z q = go-rows (value_rows o1 vc1 o2 vc2 v) (index_rows vc1 vc2 v) p n tt tt e z q

  pub unmoved-accepted : (number : ℕ) (w : ViewData) → number ≡ unmoved_refusal o1 vc1 o2 vc2 v → number ≡ 0 → w ≡ view_data v → BothFit o1 vc1 o2 vc2 w
  unfolding unmoved_refusal
  unmoved-accepted number w e z q =
      let ok = clear (unmoved_rows o1 vc1 o2 vc2 v) tt (sym e ∙ z) in
      let one = size_ok vc1 (search ok) in
      let two = size_ok vc2 (search ok) in
      subst (λ (u : ViewData). BothFit o1 vc1 o2 vc2 u) (sym q)
      (record {
        first =
            record {
              whole = record { triples = length-ok 3 (length o1) vc1 (search ok); least = one.0; most = one.1 };
              starts = leb-false vc1 v.start_index (search ok);
              reaches = ltb-false vc1 v.end_index_offset (search ok);
            };
        second =
            record {
              whole = record { triples = length-ok 3 (length o2) vc2 (search ok); least = two.0; most = two.1 };
              starts = leb-false vc2 v.start_index (search ok);
              reaches = ltb-false vc2 v.end_index_offset (search ok);
            };
        numbers1 = not-false (all_within o1) (search ok);
        numbers2 = not-false (all_within o2) (search ok);
        own = not-false (all_within (view_numbers (view_data v))) (search ok);
      })

  pub unmoved_of : (w : ViewData) (first : Option ℕ) (r : UnmovedAnswer) → w ≡ view_data v → first ≡ moved o1 vc1 o2 vc2 w → r ≡ unmoved_told first
      → r ≡ unmoved_given (first_moved o1 vc1 o2 vc2 (view_data v)) (vertex_count (view_data v))
  unfolding moved
  unmoved_of w first r e q p =
      p
      ∙ ap unmoved_told q
      ∙ told-given (first_moved o1 vc1 o2 vc2 w) (vertex_count w)
      ∙ ap (λ (u : ViewData). unmoved_given (first_moved o1 vc1 o2 vc2 u) (vertex_count u)) e

pub ruleset unmoved_laws = (unmoved-stops, unmoved-goes, unmoved-accepted, unmoved_of)
