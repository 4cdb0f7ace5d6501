-- The refusals of the call: one table, of the parts of those of `mask_candidates` and `mask_prune`, in document 01's order, and number 18 behind 5.
use Rattle.std.specs.Prelude.{ℕ, ◌≡◌, not, List, [], ◌∷◌, ◌++◌, length, Float}
use Rattle.basis.specs.declared.number.Tolerance.{Tolerance}
use Rattle.basis.specs.Number.{+0, all_within, tolerable}
use Rattle.basis.specs.Each.{places_below, places_at_most, choices_known}
use Rattle.basis.specs.Room.{room_of}
use Rattle.basis.specs.Refuse.{Row, row, first_of, answer, length_fault, size_fault, choice_fault}
use Rattle.slice.specs.Slice.{code_width, shape_width}
use Rattle.slice.specs.Ready.{Rooms}
use Rattle.cut_entries.specs.CutRows as cuts
use Rattle.prune.specs.Prune.{pruned_of, slice_codes, slice_shapes, slice_editions}
use Rattle.prune_entries.specs.declared.answer.PruneAnswer.{PruneAnswer}
use Rattle.prune_entries.specs.Answers.{prune_refused, prune_given}
use Rattle.prune_entries.specs.PruneRows.{mode_fault, room_rows}
use Rattle.straight_cut.specs.Straight.{straight_outline, whole_points, straight_laps}
use Rattle.straight_slices.specs.declared.job.Job.{Job}
use Rattle.straight_slices.specs.Slices.{Given, first_cuts, pruning, need_all}

-- 1: the lists of a call of `mask_candidates`, outline 2, an edition an overlap
abbrev pub more_list_rows : ℕ → ℕ → ℕ → ℕ → List Row
more_list_rows len vc editions laps = row (length_fault 3 len vc) 1 ∷ row (length_fault 1 editions laps) 1 ∷ []

abbrev pub list_rows : Given → List Row
list_rows g = cuts.list_rows (first_cuts g) ++ more_list_rows (length g.outline2) g.job.vc2 (length g.lap_edition) g.job.laps

-- 2: "an outline is too short or too long"; 3: "mode, [..] or yes/no code is unknown"
abbrev pub code_rows : Job → List ℕ → List Row
code_rows j lap_at =
    row (size_fault j.vc1) 2
    ∷ row (size_fault j.vc2) 2
    ∷ row (mode_fault j.mode) 3
    ∷ row (choice_fault j.opposing) 3
    ∷ row (not (choices_known 7 4 lap_at)) 3
    ∷ []

-- 4: a tolerance "is not finite or is out of range"; 5: "a number is not finite or is too large"
abbrev pub number_rows : Tolerance → List Float → List Float → List Float → List Float → List Row
number_rows t outline1 outline2 hit lap =
    row (not (tolerable t)) 4
    ∷ row (not (all_within outline1)) 5
    ∷ row (not (all_within outline2)) 5
    ∷ row (not (all_within hit)) 5
    ∷ row (not (all_within lap)) 5
    ∷ []

-- 18: "for a vertex or cut that is not whole or has a bulge other than zero"
abbrev pub straight_rows : List Float → List Float → List Float → List Float → List Row
straight_rows outline1 outline2 hit lap =
    row (not (straight_outline outline1)) 18 ∷ row (not (straight_outline outline2)) 18 ∷ row (not (whole_points hit)) 18 ∷ row (not (straight_laps lap)) 18 ∷ []

-- 6 and 7: each index against its own outline; an overlap's view is of outline 2
abbrev pub index_rows : Job → List ℕ → List ℕ → List Row
index_rows j hit_at lap_at =
    row (not (places_below 2 0 j.vc1 hit_at)) 6
    ∷ row (not (places_below 2 1 j.vc2 hit_at)) 6
    ∷ row (not (places_below 7 0 j.vc1 lap_at)) 6
    ∷ row (not (places_below 7 1 j.vc2 lap_at)) 6
    ∷ row (not (places_below 7 2 j.vc1 lap_at)) 6
    ∷ row (not (places_below 7 3 j.vc2 lap_at)) 6
    ∷ row (not (places_below 7 5 j.vc2 lap_at)) 6
    ∷ row (not (places_at_most 7 6 j.vc2 lap_at)) 7
    ∷ []

-- all that is handed in
unfoldable pub input_rows : Given → List Row
input_rows g =
    list_rows g
    ++ (code_rows g.job g.lap_at
    ++ (number_rows g.job.tolerance g.outline1 g.outline2 g.hit g.lap
    ++ (straight_rows g.outline1 g.outline2 g.hit g.lap ++ index_rows g.job g.hit_at g.lap_at)))

-- 9: "lent room smaller than the need"
abbrev pub lent_rows : Given → ℕ → ℕ → ℕ → List Row
lent_rows g at slice edition = room_rows (need_all g.job) at slice edition

abbrev pub slices_rows : Given → ℕ → ℕ → ℕ → List Row
slices_rows g at slice edition = input_rows g ++ lent_rows g at slice edition

unfoldable pub slices_refusal : Given → ℕ → ℕ → ℕ → ℕ
slices_refusal g at slice edition = first_of (slices_rows g at slice edition)

-- the number of a call with these lists lent
abbrev pub slices_number : Given → Rooms → ℕ
slices_number g l = slices_refusal g (length l.at) (length l.shape) (length l.edition)

-- the answer, which is that of `mask_prune`, and each lent list at exit: by the room rule where the call is accepted, untouched where it is refused
pub record SlicesLeft (g : Given) (l : Rooms) (r : PruneAnswer) (left : Rooms) : Type 0 where
  pub answers : r ≡ answer prune_refused (slices_number g l) (prune_given (pruned_of (pruning g)))
  pub at : left.at ≡ answer (λ _. l.at) (slices_number g l) (room_of 0 code_width (need_all g.job) (slice_codes (pruning g)) l.at)
  pub shape : left.shape ≡ answer (λ _. l.shape) (slices_number g l) (room_of +0 shape_width (need_all g.job) (slice_shapes (pruning g)) l.shape)
  pub edition : left.edition ≡ answer (λ _. l.edition) (slices_number g l) (room_of 0 1 (need_all g.job) (slice_editions (pruning g)) l.edition)
