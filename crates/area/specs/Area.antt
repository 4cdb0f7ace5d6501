-- Document 01: "The area pass then takes one area per loop [..] Kept loops are listed by number in order; the list needs one entry per loop." Which loops are
-- dropped is said by request K2: "a loop is dropped when the absolute value of its area is below the limit, strictly".
use Rattle.std.specs.Prelude.{ℕ, zero, suc, ◌≤◌, Bool, true, not, cond, ◌≡◌, List, [], ◌∷◌, ◌++◌, length, get_or, Float}
use Rattle.std.specs.Float.{nan}
use Rattle.std.specs.Float.Ieee.{lt}
use Rattle.basis.specs.All.{all_of}
use Rattle.basis.specs.Number.{abs_f, finite, limit_ok}
use Rattle.basis.specs.Room.{room_of}
use Rattle.basis.specs.Sizes.{most_slices}

-- a loop stays: the absolute value of its area is not "below the limit, strictly". "An area of exactly minus the limit is kept."
unfoldable pub is_kept : Float → Float → Bool
is_kept limit area = not (lt (abs_f area) limit)

-- the numbers of those that stay among the first n loops
unfoldable pub kept_to : List Float → Float → ℕ → List ℕ
kept_to areas limit zero = []
kept_to areas limit (suc n) = kept_to areas limit n ++ cond (is_kept limit (get_or areas n nan)) (n ∷ []) []

unfoldable pub kept_of : List Float → Float → List ℕ
kept_of areas limit = kept_to areas limit (length areas)

-- an area and a limit that are no NaN
pub record Comparable (limit area : Float) : Type 0 where
  pub finite-area : finite area ≡ true
  pub good : limit_ok limit ≡ true

-- what a caller has shown: "the list needs one entry per loop", there are no more than the most, and every number is in range
pub record Roomy (areas : List Float) (limit : Float) (kept : List ℕ) : Type 0 where
  pub fits : length areas ≤ length kept
  pub few : length areas ≤ most_slices
  pub all-finite : all_of finite areas ≡ true
  pub good : limit_ok limit ≡ true

-- what the call leaves: by the room rule, width 1, and one entry per loop as the need
pub record Kept (areas : List Float) (limit : Float) (entry : List ℕ) (r : ℕ) (exit : List ℕ) : Type 0 where
  pub counted : r ≡ length (kept_of areas limit)
  pub list : exit ≡ room_of 0 1 (length areas) (kept_of areas limit) entry
