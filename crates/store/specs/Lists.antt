-- The store as four lent lists: what plain list they mean, and what each call makes of them. Written for any number of places; a mark can name 2,047.
use Rattle.std.specs.Prelude.{ℕ, suc, ◌*◌, cond, ◌≡◌, length, get_or, set, eqb, Float}
use mathlib.Core.List.{List, [], ◌∷◌, ◌++◌, map, flat_map}
use Rattle.std.proofs.Math.Seq.{paste}
use Rattle.basis.specs.Number.{+0}
use Rattle.store.specs.Keys.{keyed, without, lowest_from}
use Rattle.basis.specs.Machine.{Turn, turn}
use Rattle.store.specs.Slice.{Slice}
use Rattle.store.specs.Plain.{Kept, Call, put, release, list, compact, Answer, refused, given, done, listed}
use Rattle.store.specs.Blocks.{block}
use Rattle.store.specs.Marks.{mark_of, handle_of, place_of, lives_of, filled}

-- of each place a mark, four codes, six numbers and an edition
pub record Lists : Type 0 where
  pub held : List ℕ
  pub at : List ℕ
  pub shape : List Float
  pub edition : List ℕ

abbrev pub lists : List ℕ → List ℕ → List Float → List ℕ → Lists
lists h a s e = record { held = h; at = a; shape = s; edition = e }

-- lists of cap places
pub record Sized (cap : ℕ) (s : Lists) : Type 0 where
  pub marks : length s.held ≡ cap
  pub fours : length s.at ≡ 4 * cap
  pub sixes : length s.shape ≡ 6 * cap
  pub ones : length s.edition ≡ cap

-- ---- the plain list that the lists mean

-- the slice at place t
unfoldable pub slice_at : Lists → ℕ → Slice
slice_at s t = record { code = block 4 s.at t; number = block 6 s.shape t; edition = get_or s.edition t 0 }

-- the live slice of a mark
unfoldable pub kept_at : Lists → ℕ → Kept Slice
kept_at s m = record { handle = handle_of m; slice = slice_at s (place_of m) }

abbrev pub lives_in : ℕ → Lists → List ℕ
lives_in cap s = lives_of cap s.held

unfoldable pub plain_of : ℕ → Lists → List (Kept Slice)
plain_of cap s = map (kept_at s) (lives_in cap s)

-- ---- what the calls make of the lists

-- the lowest place where no live slice stands, and the lowest handle that none has
abbrev pub free_place : ℕ → Lists → ℕ
free_place cap s = lowest_from (keyed place_of (lives_in cap s)) 0 cap

abbrev pub free_mark : ℕ → Lists → ℕ
free_mark cap s = lowest_from (keyed handle_of (lives_in cap s)) 0 cap

-- x with handle h at place t: its mark is put down after the live ones, and no other slice moves
unfoldable pub written_at : ℕ → Lists → ℕ → ℕ → Slice → Lists
written_at cap s t h x =
    lists
    (filled 0 cap (lives_in cap s ++ (mark_of t h ∷ [])))
    (paste s.at (4 * t) x.code 4)
    (paste s.shape (6 * t) x.number 6)
    (set s.edition t x.edition)

unfoldable pub put_in : ℕ → Lists → Slice → Lists
put_in cap s x = written_at cap s (free_place cap s) (free_mark cap s) x

-- the mark of handle h is gone, and the slices' own lists stay as they were
unfoldable pub released_in : ℕ → Lists → ℕ → Lists
released_in cap s h = lists (filled 0 cap (without handle_of (lives_in cap s) h)) s.at s.shape s.edition

-- "Compaction moves live slices to the front": in the order put, from place k on, each with its handle
unfoldable pub marks_from : ℕ → List (Kept Slice) → List ℕ
marks_from k [] = []
marks_from k (x ∷ l) = mark_of k x.handle ∷ marks_from (suc k) l

-- a plain list laid out from the first place on, and zeros behind it
unfoldable pub laid : ℕ → List (Kept Slice) → Lists
laid cap l =
    lists
    (filled 0 cap (marks_from 0 l))
    (filled 0 (4 * cap) (flat_map (λ k. k.slice.code) l))
    (filled +0 (6 * cap) (flat_map (λ k. k.slice.number) l))
    (filled 0 cap (map (λ k. k.slice.edition) l))

unfoldable pub compacted_in : ℕ → Lists → Lists
compacted_in cap s = laid cap (plain_of cap s)

-- a call on the lists: what it answers, and the lists that it leaves
unfoldable pub list_step : ℕ → Lists → Call Slice → Turn Lists (Answer Slice)
list_step cap s (put x) =
    cond (eqb (length (lives_in cap s)) cap) (turn (refused 20) s) (turn (given (free_mark cap s)) (put_in cap s x))
list_step cap s (release h) = cond (keyed handle_of (lives_in cap s) h) (turn done (released_in cap s h)) (turn (refused 21) s)
list_step cap s list = turn (listed (plain_of cap s)) s
list_step cap s compact = turn done (compacted_in cap s)
