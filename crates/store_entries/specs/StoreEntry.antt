-- The entries `mask_store_put`, `mask_store_release`, `mask_store_list` and `mask_store_compact`: their refusals, their answers, and what the lent lists hold.
use Rattle.std.specs.Prelude.{ℕ, not, ◌≡◌, List, [], ◌∷◌, ◌++◌, length, eqb}
use Rattle.basis.specs.declared.answer.CountAnswer.{CountAnswer}
use Rattle.basis.specs.Refuse.{Row, row, first_of, answer}
use Rattle.store.specs.Keys.{keyed}
use Rattle.basis.specs.Machine.{Turn, turn}
use Rattle.store.specs.Slice.{Slice}
use Rattle.store.specs.Plain.{Kept, Call, put, release, list, compact, Answer, refused, given, done, listed, plain_step}
use Rattle.store.specs.Marks.{handle_of}
use Rattle.store.specs.Lists.{Lists, lives_in, list_step}
use Rattle.store_write.specs.Calls.{Rooms, shown}
use Rattle.store_party.specs.Parties.{part_of, party_step}
use Rattle.store_party.specs.Ready.{share}
use Rattle.store_entries.specs.Answers.{count_answer}
use Rattle.store_entries.specs.StoreRows.{store_rows, slice_rows, room_rows, party_rows}

-- a call of an entry: a slice as it comes; a handle; the lengths of the room lent for the list
pub data Asked : Type 0 where
  to_put : Slice → Asked
  to_release : ℕ → Asked
  to_list : ℕ → ℕ → ℕ → ℕ → Asked
  to_compact : Asked

unfoldable pub call_of : Asked → Call Slice
call_of (to_put x) = put x
call_of (to_release h) = release h
call_of (to_list h a s e) = list
call_of to_compact = compact

-- what a call is refused by, whatever the store of cap places holds
unfoldable pub own_rows : ℕ → Asked → List Row
own_rows cap (to_put x) = slice_rows x.code x.number
own_rows cap (to_release h) = []
own_rows cap (to_list h a s e) = room_rows cap h a s e
own_rows cap to_compact = []

-- a call on lists of cap places: what it answers, and the lists that it leaves. A refusal leaves all as it was
unfoldable pub asked_turn : ℕ → Lists → Asked → Turn Lists (Answer Slice)
asked_turn cap s a = answer (λ n. turn (refused n) s) (first_of (own_rows cap a)) (list_step cap s (call_of a))

-- a plain list of at most cap slices that is called in the same way
unfoldable pub plain_turn : ℕ → List (Kept Slice) → Asked → Turn (List (Kept Slice)) (Answer Slice)
plain_turn cap l a = answer (λ n. turn (refused n) l) (first_of (own_rows cap a)) (plain_step cap l (call_of a))

-- ---- the entries: a store of 1,792 places, which two parties share

-- whose call it is
pub record Called : Type 0 where
  pub party : ℕ
  pub asked : Asked

abbrev pub called : ℕ → Asked → Called
called p a = record { party = p; asked = a }

abbrev pub lists_rows : Lists → List Row
lists_rows w = store_rows (length w.held) (length w.at) (length w.shape) (length w.edition)

-- "K9's limit reads as 896 for each party"; "22 unknown party, before 20 and 21"
unfoldable pub call_rows : Lists → Called → List Row
call_rows w v = lists_rows w ++ (own_rows share v.asked ++ party_rows v.party)

unfoldable pub call_refusal : Lists → Called → ℕ
call_refusal w v = first_of (call_rows w v)

-- what a call of an entry answers, and the lists that it leaves: a call on the party's part
unfoldable pub store_turn : Lists → Called → Turn Lists (Answer Slice)
store_turn w v = answer (λ n. turn (refused n) w) (call_refusal w v) (party_step share v.party w (call_of v.asked))

-- ---- what the entries promise

-- the answer in the entry's form f, and the four lists
pub record StoreLeft {R : Type 0} (f : Answer Slice → R) (w : Lists) (v : Called) (r : R) (left : Lists) : Type 0 where
  pub answers : r ≡ f (store_turn w v).answer
  pub lists : left ≡ (store_turn w v).left

-- room lent for the list, after the call: by the room rule where the list is given, untouched where it is refused
unfoldable pub shown_by : Answer Slice → Rooms → Rooms
shown_by (refused n) o = o
shown_by (given h) o = o
shown_by done o = o
shown_by (listed l) o = shown share l o

abbrev pub list_turn : Lists → ℕ → Rooms → Turn Lists (Answer Slice)
list_turn w p o = store_turn w (called p (to_list (length o.handles) (length o.at) (length o.shape) (length o.edition)))

pub record ListLeft (w : Lists) (p : ℕ) (o : Rooms) (r : CountAnswer) (left : Rooms) : Type 0 where
  pub answers : r ≡ count_answer (list_turn w p o).answer
  pub room : left ≡ shown_by (list_turn w p o).answer o

-- ---- the whole table of a call: the store's own refusals stand last

-- "20 store full", "21 no such handle", of the lists of cap places
unfoldable pub last_rows : ℕ → Lists → Asked → List Row
last_rows cap s (to_put x) = row (eqb (length (lives_in cap s)) cap) 20 ∷ []
last_rows cap s (to_release h) = row (not (keyed handle_of (lives_in cap s) h)) 21 ∷ []
last_rows cap s (to_list h a s' e) = []
last_rows cap s to_compact = []

unfoldable pub whole_rows : Lists → Called → List Row
whole_rows w v = call_rows w v ++ last_rows share (part_of share v.party w) v.asked

-- the number that an answer holds, 0 where it is none
unfoldable pub refusal_in : Answer Slice → ℕ
refusal_in (refused n) = n
refusal_in (given h) = 0
refusal_in done = 0
refusal_in (listed l) = 0
