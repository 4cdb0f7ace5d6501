-- The entry `mask_prune`: its refusals, its answer, and what its three lent lists hold.
use Rattle.std.specs.Prelude.{ℕ, ◌≡◌, List, ◌++◌, length}
use Rattle.basis.specs.Number.{+0}
use Rattle.basis.specs.Room.{room_of}
use Rattle.basis.specs.Refuse.{Row, first_of, answer}
use Rattle.slice.specs.Slice.{code_width, shape_width}
use Rattle.slice.specs.Ready.{Rooms}
use Rattle.prune.specs.Prune.{Cands, Given, need_of, pruned_of, slice_codes, slice_shapes, slice_editions}
use Rattle.prune.specs.Sound.{CandsSound, OverlapsSound}
use Rattle.prune_entries.specs.declared.answer.PruneAnswer.{PruneAnswer}
use Rattle.prune_entries.specs.Answers.{prune_refused, prune_given}
use Rattle.prune_entries.specs.PruneRows.{cand_list_rows, lap_list_rows, code_rows, number_rows, start_rows, reach_rows, room_rows}

-- the parts of the table, over what was called
abbrev pub cands_rows : Cands → ℕ → List Row
cands_rows c count = cand_list_rows (length c.at) (length c.shape) (length c.edition) (length c.inside) count

abbrev pub laps_rows : Given → List Row
laps_rows g = lap_list_rows (length g.laps.at) (length g.laps.shape) (length g.laps.edition) g.call.laps

abbrev pub codes_rows : Given → List Row
codes_rows g = code_rows g.call g.first.inside g.second.inside g.laps.at

abbrev pub numbers_rows : Given → List Row
numbers_rows g = number_rows g.first.shape g.second.shape g.laps.shape

abbrev pub starts_rows : Given → List Row
starts_rows g = start_rows g.call g.first.at g.second.at g.laps.at

abbrev pub reaches_rows : Given → List Row
reaches_rows g = reach_rows g.call g.first.at g.second.at g.laps.at

-- 1 to 7: what is handed in
unfoldable pub input_rows : Given → List Row
input_rows g =
    cands_rows g.first g.call.count1
    ++ (cands_rows g.second g.call.count2 ++ (laps_rows g ++ (codes_rows g ++ (numbers_rows g ++ (starts_rows g ++ reaches_rows g)))))

-- 9: a lent list has no room for the need
abbrev pub lent_rows : Given → ℕ → ℕ → ℕ → List Row
lent_rows g at slice edition = room_rows (need_of g.call) at slice edition

unfoldable pub prune_refusal : Given → ℕ → ℕ → ℕ → ℕ
prune_refusal g at slice edition = first_of (input_rows g ++ lent_rows g at slice edition)

-- the number of a call with these lists lent
abbrev pub prune_number : Given → Rooms → ℕ
prune_number g l = prune_refusal g (length l.at) (length l.shape) (length l.edition)

-- the answer, and each lent list at exit: by the room rule where the call is accepted, untouched where it is refused
pub record PruneLeft (g : Given) (l : Rooms) (r : PruneAnswer) (left : Rooms) : Type 0 where
  pub answers : r ≡ answer prune_refused (prune_number g l) (prune_given (pruned_of g))
  pub at : left.at ≡ answer (λ _. l.at) (prune_number g l) (room_of 0 code_width (need_of g.call) (slice_codes g) l.at)
  pub shape : left.shape ≡ answer (λ _. l.shape) (prune_number g l) (room_of +0 shape_width (need_of g.call) (slice_shapes g) l.shape)
  pub edition : left.edition ≡ answer (λ _. l.edition) (prune_number g l) (room_of 0 1 (need_of g.call) (slice_editions g) l.edition)

-- what an accepted call's candidates and overlaps are: sound for their outlines
pub record Sound (g : Given) : Type 0 where
  pub first : CandsSound g.call.vc1 g.call.count1 g.first
  pub second : CandsSound g.call.vc2 g.call.count2 g.second
  pub laps : OverlapsSound g.call.vc2 g.call.laps g.laps
