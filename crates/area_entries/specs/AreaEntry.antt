-- The area pass by a limit: its refusals, its answer, and what its lent list holds. `mask_area_pass` is this with a setting: named_entries/specs/NamedArea.antt.
use Rattle.std.specs.Prelude.{ℕ, not, ◌≡◌, List, [], ◌∷◌, ◌++◌, length, ltb, Float}
use Rattle.basis.specs.Number.{finite, limit_ok}
use Rattle.basis.specs.All.{all_of}
use Rattle.basis.specs.Room.{room_of}
use Rattle.basis.specs.Sizes.{most_slices}
use Rattle.basis.specs.Refuse.{Row, row, first_of, answer, length_fault}
use Rattle.area.specs.Area.{kept_of}
use Rattle.basis.specs.declared.answer.CountAnswer.{CountAnswer}
use Rattle.basis.specs.Answers.{count_refused, counted}

-- 1: "a list's length disagrees with its count, or a count [..] is above its most"
abbrev pub area_list_rows : List Float → ℕ → List Row
area_list_rows areas loops = row (length_fault 1 (length areas) loops) 1 ∷ row (ltb most_slices loops) 1 ∷ []

-- 5: "(areas: not finite)"; 9: "the list needs one entry per loop"
abbrev pub area_last_rows : List Float → ℕ → ℕ → List Row
area_last_rows areas loops kept = row (not (all_of finite areas)) 5 ∷ row (ltb kept loops) 9 ∷ []

abbrev pub area_rows : List Float → ℕ → Float → ℕ → List Row
area_rows areas loops limit kept = area_list_rows areas loops ++ (row (not (limit_ok limit)) 4 ∷ area_last_rows areas loops kept)

unfoldable pub area_refusal : List Float → ℕ → Float → ℕ → ℕ
area_refusal areas loops limit kept = first_of (area_rows areas loops limit kept)

-- the answer to a call with this number, and the lent list at exit: by the room rule where the call is accepted, untouched where it is refused. An accepted call has one area per loop.
pub record AreaBy (number : ℕ) (areas : List Float) (limit : Float) (kept : List ℕ) (r : CountAnswer) (left : List ℕ) : Type 0 where
  pub answers : r ≡ answer count_refused number (counted (length (kept_of areas limit)))
  pub list : left ≡ answer (λ _. kept) number (room_of 0 1 (length areas) (kept_of areas limit) kept)

abbrev pub AreaLeft : List Float → ℕ → Float → List ℕ → CountAnswer → List ℕ → Type 0
AreaLeft areas loops limit kept r left = AreaBy (area_refusal areas loops limit (length kept)) areas limit kept r left
