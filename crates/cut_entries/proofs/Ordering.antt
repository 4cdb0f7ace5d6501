-- What the entry `mask_cut_order` is proved by: the two parts of its table, acceptance, working lists, and the two ways out.
use Prim.Native.Nat.{ℕ, ◌*◌}
use mathlib.Core.Path.{◌≡◌, refl, sym, ap, ◌∙◌}
use mathlib.Core.List.{List, ◌++◌}
use lib.ListN.{length}
use lib.Ieee.{Float}
use borrow.Author.Tests.{ltb-false}
use Rattle.basis.specs.Refuse.{first_from}
use Rattle.basis.specs.RefuseLaws.{Clear, clear, clear-from, clear-left, clear-right, stop-rows, go-rows, answer-no, answer-yes}
use Rattle.basis.specs.declared.answer.CountAnswer.{CountAnswer}
use Rattle.basis.specs.Answers.{count_refused, counted}
use Rattle.cut.specs.Cuts.{Given, cut_count}
use Rattle.cut.specs.Order.{Roomy}
use Rattle.cut_entries.specs.CutRows.{list_rows, value_rows, index_rows, FewCuts}
use Rattle.cut_entries.specs.CutRowsLaws.{CutsPass, cuts-pass, few-passed, cuts-accepted}
use Rattle.cut_entries.specs.CutOrder.{cut_input_rows, order_room_rows, cut_order_rows, cut_order_refusal, order_number, CutOrdered, Wrote}

-- ---- the table in two parts
input-pass : (g : Given) → Clear (cut_input_rows g) → CutsPass g
unfolding cut_input_rows
input-pass g ok =
    let later = clear-right (list_rows g) (value_rows g ++ index_rows g) ok in
    cuts-pass g (clear-left (list_rows g) (value_rows g ++ index_rows g) ok) (clear-left (value_rows g) (index_rows g) later) (clear-right (value_rows g) (index_rows g) later)

pub input-few : (g : Given) (p : ℕ) → p ≡ first_from 0 (cut_input_rows g) → p ≡ 0 → FewCuts (cut_count g)
unfolding cut_input_rows list_rows value_rows index_rows
input-few g p found z = few-passed g (input-pass g (clear-from (cut_input_rows g) p tt found z))

module _ (g : Given) (p : ℕ) (found : p ≡ first_from 0 (cut_input_rows g)) where
  pub order-stops : (numbers points : ℕ) → (p ≡ 0 → ⊥) → p ≡ cut_order_refusal g numbers points
  unfolding cut_order_refusal cut_input_rows list_rows value_rows index_rows
  order-stops numbers points h = stop-rows (cut_input_rows g) (order_room_rows (cut_count g) numbers points) p tt found h

  pub order-goes : (numbers points r : ℕ) → p ≡ 0 → r ≡ first_from 0 (order_room_rows (cut_count g) numbers points) → r ≡ cut_order_refusal g numbers points
  unfolding cut_order_refusal cut_input_rows list_rows value_rows index_rows
  order-goes numbers points r z e = go-rows (cut_input_rows g) (order_room_rows (cut_count g) numbers points) p r tt tt found z e

pub ruleset parts = (order-stops, order-goes)

-- ---- acceptance, and the two ways out
module _ (g : Given) (cut_at : List ℕ) (cut : List Float) (number : ℕ) (is : number ≡ order_number g cut_at cut) where
  pub order-accepted : number ≡ 0 → Roomy g cut_at cut
  unfolding cut_order_refusal cut_input_rows list_rows value_rows index_rows
  order-accepted z =
      let rooms = order_room_rows (cut_count g) (length cut_at) (length cut) in
      let ok = clear (cut_order_rows g (length cut_at) (length cut)) tt (sym is ∙ z) in
      let lent : Clear rooms = clear-right (cut_input_rows g) rooms ok in
      record {
        accepted = cuts-accepted g (input-pass g (clear-left (cut_input_rows g) rooms ok));
        number_room = ltb-false (length cut_at) (3 * cut_count g) lent.0;
        point_room = ltb-false (length cut) (2 * cut_count g) lent.1.0;
      }

  pub order-refused : (r : CountAnswer) → (number ≡ 0 → ⊥) → r ≡ count_refused number → CutOrdered g cut_at cut r cut_at cut
  order-refused r h q =
      record {
        answers = answer-no count_refused number _ _ r is h q;
        numbers = answer-no (λ _. cut_at) number _ _ cut_at is h refl;
        points = answer-no (λ _. cut) number _ _ cut is h refl;
      }

  pub order-given : (n : ℕ) (r : CountAnswer) (cut_at_left : List ℕ) (cut_left : List Float) → number ≡ 0 → Wrote g cut_at cut n cut_at_left cut_left → r ≡ counted n
      → CutOrdered g cut_at cut r cut_at_left cut_left
  order-given n r cut_at_left cut_left z w q =
      record {
        answers = answer-yes count_refused number _ _ r is z (q ∙ ap (λ (k : ℕ). counted k) w.counted);
        numbers = answer-yes (λ _. cut_at) number _ _ cut_at_left is z w.written.numbers;
        points = answer-yes (λ _. cut) number _ _ cut_left is z w.written.points;
      }

pub ruleset ways = (order-accepted, order-refused, order-given)
