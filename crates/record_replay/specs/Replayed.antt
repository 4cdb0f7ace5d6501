-- Document 02, K1 and K14: what a replay answers, and what it leaves in the lists of the stitch.
use Rattle.std.specs.Prelude.{ℕ, ◌≡◌, List}
use Rattle.basis.specs.Number.{+0}
use Rattle.basis.specs.Refuse.{answer}
use Rattle.basis.specs.Room.{room_of}
use Rattle.slice.specs.Editions.{Editions}
use Rattle.stitch_run.specs.Stitch.{Given, need_of, round_count, loop_count, chain_count, room_items, end_items, chain_items, chain_end_items, how_items}
use Rattle.stitch.specs.Lent.{Lists}
use Rattle.stitch_entries.specs.declared.answer.StitchAnswer.{StitchAnswer}
use Rattle.stitch_entries.specs.StitchEntry.{stitch_number}
use Rattle.record.specs.Record.{stitch_in, editions_in, form_in, taken_lengths, read_refusal}
use Rattle.record_replay.specs.declared.replay.ReplayAnswer.{ReplayAnswer}

-- the stitch that the bytes hold, by the version that they name, and its editions
abbrev pub held_in : List ℕ → Given
held_in b = stitch_in (form_in b) b

abbrev pub dates_in : List ℕ → Editions
dates_in b = editions_in (form_in b) b

-- "11 .., 12 .., 13 .., looked at in that order, before all others"; then 1 and 2 by what the program takes. The lists that the record is read to have room for
-- all that it takes
abbrev pub form_number : List ℕ → ℕ
form_number b = read_refusal (form_in b) b taken_lengths

-- and then the numbers of the stitch itself, 14 "after 8 and before 9"
unfoldable pub replay_number : List ℕ → Lists → ℕ
replay_number b x = answer (λ (n : ℕ). n) (form_number b) (stitch_number (held_in b) (dates_in b) x)

abbrev pub replay_refused : ℕ → ReplayAnswer
replay_refused n = record { refusal = n; version = 0; slices = 0; rounds = 0; loops = 0; chains = 0 }

abbrev pub replay_given : ℕ → ℕ → ℕ → ℕ → ℕ → ReplayAnswer
replay_given version slices rounds loops chains = record { refusal = 0; version = version; slices = slices; rounds = rounds; loops = loops; chains = chains }

-- what is said of the stitch's answer
unfoldable pub replay_of : ℕ → ℕ → StitchAnswer → ReplayAnswer
replay_of version slices a = answer replay_refused a.refusal (replay_given version slices a.rounds a.loops a.chains)

-- the answer, and each lent list at exit: as the stitch leaves it where the replay is accepted, untouched where it is refused
pub record ReplayLeft (b : List ℕ) (x : Lists) (r : ReplayAnswer) (left : Lists) : Type 0 where
  pub answers : r ≡ answer replay_refused (replay_number b x) (replay_given (form_in b).number (held_in b).slices (round_count (held_in b)) (loop_count (held_in b)) (chain_count (held_in b)))
  pub room : left.room ≡ answer (λ _. x.room) (replay_number b x) (room_of +0 3 (need_of (held_in b).slice_at (held_in b).slices) (room_items (held_in b)) x.room)
  pub ends : left.ends ≡ answer (λ _. x.ends) (replay_number b x) (room_of 0 1 (held_in b).slices (end_items (held_in b)) x.ends)
  pub chain : left.chain ≡ answer (λ _. x.chain) (replay_number b x) (room_of 0 1 (held_in b).slices (chain_items (held_in b)) x.chain)
  pub chain_ends : left.chain_ends ≡ answer (λ _. x.chain_ends) (replay_number b x) (room_of 0 1 (held_in b).slices (chain_end_items (held_in b)) x.chain_ends)
  pub chain_how : left.chain_how ≡ answer (λ _. x.chain_how) (replay_number b x) (room_of 0 1 (held_in b).slices (how_items (held_in b)) x.chain_how)
