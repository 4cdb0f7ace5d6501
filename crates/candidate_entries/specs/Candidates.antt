-- The entry `mask_candidates`: its refusals, its answer, and what its four lent lists hold. It works the order out itself, from the same lists as `mask_cut_order`.
use Rattle.std.specs.Prelude.{ℕ, ◌≤◌, ◌≡◌, List, ◌++◌, length, replicate, Float}
use Rattle.basis.specs.Number.{+0}
use Rattle.basis.specs.Room.{room_of}
use Rattle.basis.specs.Refuse.{Row, first_of, answer}
use Rattle.basis.specs.declared.answer.CountAnswer.{CountAnswer}
use Rattle.basis.specs.Answers.{count_refused, counted}
use Rattle.cut.specs.Cuts.{Given, cut_count}
use Rattle.candidate.specs.Candidates as slices
use Rattle.candidate_lists.specs.Lists.{along_cuts, Accepted}
use Rattle.candidate.specs.Ready.{Rooms, rooms, Written}
use Rattle.cut_entries.specs.CutRows.{list_rows, value_rows, index_rows, FewCuts}
use Rattle.candidate_faults.specs.declared.Lengths.{Lengths}
use Rattle.candidate_faults.specs.CandidateRows.{split_length_rows, split_rows, cand_room_rows}

-- the lent lists, the last of which is for the editions
pub record Lent : Type 0 where
  pub at : List ℕ
  pub cand : List Float
  pub probe : List Float
  pub edition : List ℕ

abbrev pub lent : List ℕ → List Float → List Float → List ℕ → Lent
lent at cand probe edition = record { at = at; cand = cand; probe = probe; edition = edition }

-- those that hold the candidates themselves
abbrev pub rooms_of : Lent → Rooms
rooms_of l = rooms l.at l.cand l.probe

-- how long the lent lists are
abbrev pub lengths : Lent → Lengths
lengths l = record { at = length l.at; cand = length l.cand; probe = length l.probe; edition = length l.edition }

-- all that is looked at behind the first lists' lengths and counts, 1 to 9
unfoldable pub later_rows : Given → List Float → Lengths → List Row
later_rows g splits n =
    split_length_rows (cut_count g) (length splits) ++ (value_rows g ++ (split_rows splits ++ (index_rows g ++ cand_room_rows (cut_count g) n)))

abbrev pub candidates_rows : Given → List Float → Lengths → List Row
candidates_rows g splits n = list_rows g ++ later_rows g splits n

unfoldable pub candidates_refusal : Given → List Float → Lengths → ℕ
candidates_refusal g splits n = first_of (candidates_rows g splits n)

-- the number of a call with these lists lent
abbrev pub cand_number : Given → List Float → Lent → ℕ
cand_number g splits l = candidates_refusal g splits (lengths l)

-- the answer, and each lent list at exit: by the room rule where the call is accepted, untouched where it is refused. Each candidate has the outline's edition, for
-- "each slice the edition it was cut from"
pub record Sliced (g : Given) (splits : List Float) (edition : ℕ) (l : Lent) (r : CountAnswer) (left : Lent) : Type 0 where
  pub answers : r ≡ answer count_refused (cand_number g splits l) (counted (slices.cand_count (along_cuts g splits)))
  pub at : left.at ≡ answer (λ _. l.at) (cand_number g splits l) (room_of 0 2 (cut_count g) (slices.cand_numbers (along_cuts g splits)) l.at)
  pub cand : left.cand ≡ answer (λ _. l.cand) (cand_number g splits l) (room_of +0 6 (cut_count g) (slices.cand_shapes (along_cuts g splits)) l.cand)
  pub probe : left.probe ≡ answer (λ _. l.probe) (cand_number g splits l) (room_of +0 6 (cut_count g) (slices.probe_numbers (along_cuts g splits)) l.probe)
  pub editions : left.edition ≡ answer (λ _. l.edition) (cand_number g splits l) (room_of 0 1 (cut_count g) (replicate (slices.cand_count (along_cuts g splits)) edition) l.edition)

-- ---- what an accepted call has, with room for the editions
pub record Roomed (g : Given) (splits : List Float) (l : Lent) : Type 0 where
  pub ok : Accepted g splits (rooms_of l)
  pub few : FewCuts (cut_count g)
  pub editions : cut_count g ≤ length l.edition

-- the candidates were written, and the edition beside each
pub record Dated (g : Given) (splits : List Float) (edition : ℕ) (l : Lent) (m : ℕ) (left : Lent) : Type 0 where
  pub written : Written (along_cuts g splits) (rooms_of l) m (rooms_of left)
  pub editions : left.edition ≡ room_of 0 1 (cut_count g) (replicate m edition) l.edition
