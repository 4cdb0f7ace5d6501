-- The rows that the table of `mask_candidates` has beside those of the cuts: of the splits, and of the four lent lists.
use Rattle.std.specs.Prelude.{ℕ, ◌*◌, ◌≤◌, not, List, [], ◌∷◌, ltb, Float}
use Rattle.basis.specs.Number.{all_within}
use Rattle.basis.specs.Refuse.{Row, row, length_fault}
use Rattle.basis.specs.Sizes.{most_candidates}
use Rattle.candidate_faults.specs.declared.Lengths.{Lengths}

-- 1: nine numbers of splits a cut
abbrev pub split_length_rows : ℕ → ℕ → List Row
split_length_rows count len = row (length_fault 9 len count) 1 ∷ []

-- 5: "a number is not finite or is too large": of the splits
abbrev pub split_rows : List Float → List Row
split_rows splits = row (not (all_within splits)) 5 ∷ []

-- 9: `cand_at` has 2 elements a cut, `cand` and `probe` have 6, `cand_edition` has 1
abbrev pub cand_room_rows : ℕ → Lengths → List Row
cand_room_rows count n =
    row (ltb n.at (2 * count)) 9 ∷ row (ltb n.cand (6 * count)) 9 ∷ row (ltb n.probe (6 * count)) 9 ∷ row (ltb n.edition count) 9 ∷ []

-- so few cuts that they can be multiplied
pub record Countable (count : ℕ) : Type 0 where
  pub few : count ≤ most_candidates
