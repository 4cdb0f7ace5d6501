-- The entry `mask_cut_order`: its refusals, its answer, and what its two lent lists hold.
use Rattle.std.specs.Prelude.{ℕ, ◌*◌, ◌≤◌, ◌≡◌, List, [], ◌∷◌, ◌++◌, length, ltb, Float}
use Rattle.basis.specs.Number.{+0}
use Rattle.basis.specs.Room.{room_of}
use Rattle.basis.specs.Refuse.{Row, row, first_of, answer}
use Rattle.cut.specs.Cuts.{Given, cut_count}
use Rattle.cut.specs.Order.{Roomy, cut_numbers, cut_points, Written}
use Rattle.basis.specs.declared.answer.CountAnswer.{CountAnswer}
use Rattle.basis.specs.Answers.{count_refused, counted}
use Rattle.cut_entries.specs.CutRows.{list_rows, value_rows, index_rows}

-- 1 to 7: what is handed in
unfoldable pub cut_input_rows : Given → List Row
cut_input_rows g = list_rows g ++ (value_rows g ++ index_rows g)

-- 9: `cut_at` has 3 elements a cut, `cut` has 2
abbrev pub order_room_rows : ℕ → ℕ → ℕ → List Row
order_room_rows count numbers points = row (ltb numbers (3 * count)) 9 ∷ row (ltb points (2 * count)) 9 ∷ []

abbrev pub cut_order_rows : Given → ℕ → ℕ → List Row
cut_order_rows g numbers points = cut_input_rows g ++ order_room_rows (cut_count g) numbers points

unfoldable pub cut_order_refusal : Given → ℕ → ℕ → ℕ
cut_order_refusal g numbers points = first_of (cut_order_rows g numbers points)

-- the number of a call with these lists lent
abbrev pub order_number : Given → List ℕ → List Float → ℕ
order_number g cut_at cut = cut_order_refusal g (length cut_at) (length cut)

-- the answer, and each lent list at exit: by the room rule where the call is accepted, untouched where it is refused
pub record CutOrdered (g : Given) (cut_at : List ℕ) (cut : List Float) (r : CountAnswer) (cut_at_left : List ℕ) (cut_left : List Float) : Type 0 where
  pub answers : r ≡ answer count_refused (order_number g cut_at cut) (counted (cut_count g))
  pub numbers : cut_at_left ≡ answer (λ _. cut_at) (order_number g cut_at cut) (room_of 0 3 (cut_count g) (cut_numbers g) cut_at)
  pub points : cut_left ≡ answer (λ _. cut) (order_number g cut_at cut) (room_of +0 2 (cut_count g) (cut_points g) cut)

-- what an accepted call says and leaves
pub record Wrote (g : Given) (cut_at : List ℕ) (cut : List Float) (r : ℕ) (cut_at_left : List ℕ) (cut_left : List Float) : Type 0 where
  pub counted : r ≡ cut_count g
  pub written : Written g cut_at cut cut_at_left cut_left

-- ---- what a caller has shown

-- so few cuts that lists for `most` of them are enough
pub record Few (most : ℕ) (g : Given) (cut_at : List ℕ) (cut : List Float) : Type 0 where
  pub roomy : Roomy g cut_at cut
  pub few : cut_count g ≤ most
