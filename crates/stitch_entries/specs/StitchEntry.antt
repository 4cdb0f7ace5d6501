-- The stitch by tolerances: its refusals, its answer, and what its five lent lists hold. `mask_stitch` is this with a setting: named_entries/specs/NamedStitch.antt.
use Rattle.std.specs.Prelude.{ℕ, ◌≡◌, length}
use Rattle.basis.specs.Number.{+0}
use Rattle.basis.specs.Room.{room_of}
use Rattle.basis.specs.Refuse.{answer}
use Rattle.slice.specs.Editions.{Editions}
use Rattle.stitch_run.specs.Stitch.{Given, need_of, round_count, loop_count, chain_count, room_items, end_items, chain_items, chain_end_items, how_items}
use Rattle.stitch.specs.Lent.{Lists}
use Rattle.stitch_entries.specs.declared.answer.StitchAnswer.{StitchAnswer}
use Rattle.stitch_faults.specs.declared.faults.Lengths.{Lengths}
use Rattle.stitch_entries.specs.Answers.{stitch_refused, stitch_given}
use Rattle.stitch_faults.specs.StitchRows.{lengths}
use Rattle.stitch_faults.specs.StitchTable.{stitch_refusal}

-- how long the lists of a call are
abbrev pub lengths_of : Lists → Lengths
lengths_of x = lengths (length x.room) (length x.ends) (length x.chain) (length x.chain_ends) (length x.chain_how)

-- the number of a call with these lists lent
abbrev pub stitch_number : Given → Editions → Lists → ℕ
stitch_number g e x = stitch_refusal g e (lengths_of x)

-- The answer to a call with this number, and each lent list at exit: by the room rule where the call is accepted, untouched where it is refused. Editions stand in the number alone:
-- what an accepted call answers and leaves does not depend on them
pub record StitchBy (number : ℕ) (g : Given) (x : Lists) (r : StitchAnswer) (left : Lists) : Type 0 where
  pub answers : r ≡ answer stitch_refused number (stitch_given (round_count g) (loop_count g) (chain_count g))
  pub room : left.room ≡ answer (λ _. x.room) number (room_of +0 3 (need_of g.slice_at g.slices) (room_items g) x.room)
  pub ends : left.ends ≡ answer (λ _. x.ends) number (room_of 0 1 g.slices (end_items g) x.ends)
  pub chain : left.chain ≡ answer (λ _. x.chain) number (room_of 0 1 g.slices (chain_items g) x.chain)
  pub chain_ends : left.chain_ends ≡ answer (λ _. x.chain_ends) number (room_of 0 1 g.slices (chain_end_items g) x.chain_ends)
  pub chain_how : left.chain_how ≡ answer (λ _. x.chain_how) number (room_of 0 1 g.slices (how_items g) x.chain_how)

abbrev pub StitchLeft : Given → Editions → Lists → StitchAnswer → Lists → Type 0
StitchLeft g e x r left = StitchBy (stitch_number g e x) g x r left
