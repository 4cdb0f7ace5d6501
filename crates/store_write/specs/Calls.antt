-- What the calls on a store require and ensure.
use Rattle.std.specs.Prelude.{ℕ, ◌+◌, ◌*◌, ◌≤◌, ◌<◌, Bool, cond, ◌≡◌, length, set, Float, Option, Some, None}
use mathlib.Core.List.{List, map, flat_map}
use Rattle.std.proofs.Math.Seq.{paste}
use Rattle.basis.specs.Number.{+0}
use Rattle.basis.specs.Room.{room_of}
use Rattle.store.specs.Keys.{keyed, without}
use Rattle.basis.specs.Machine.{Turn}
use Rattle.store.specs.Slice.{Slice, Whole}
use Rattle.store.specs.Plain.{Kept, Answer, refused, given, done, listed}
use Rattle.store.specs.Marks.{most_places, handle_of, lives_of, filled}
use Rattle.store.specs.Lists.{Lists, Sized, plain_of}

-- lists of as many places as marks, and no more than the most
pub record Fit (s : Lists) : Type 0 where
  pub sized : Sized (length s.held) s
  pub most : length s.held ≤ most_places

pub record PutFits (s : Lists) (x : Slice) : Type 0 where
  pub fit : Fit s
  pub whole : Whole x

-- room for a slice at place t
pub record WriteFits (at : List ℕ) (shape : List Float) (edition : List ℕ) (t : ℕ) (x : Slice) : Type 0 where
  pub fours : 4 * t + 4 ≤ length at
  pub sixes : 6 * t + 6 ≤ length shape
  pub ones : t < length edition
  pub whole : Whole x

pub record Wrote (at : List ℕ) (shape : List Float) (edition : List ℕ) (t : ℕ) (x : Slice) (at' : List ℕ) (shape' : List Float) (edition' : List ℕ) : Type 0 where
  pub codes : at' ≡ paste at (4 * t) x.code 4
  pub numbers : shape' ≡ paste shape (6 * t) x.number 6
  pub editions : edition' ≡ set edition t x.edition

-- a call's answer, in the form f, and the lists that it leaves
pub record Turned {R : Type 0} (f : Answer Slice → R) (t : Turn Lists (Answer Slice)) (r : R) (left : Lists) : Type 0 where
  pub says : r ≡ f t.answer
  pub leaves : left ≡ t.left

-- the handle given; none where the store is full
abbrev pub handle_as : Answer Slice → Option ℕ
handle_as (refused n) = None
handle_as (given h) = Some h
handle_as done = None
handle_as (listed l) = None

-- marks of the most places at most
pub record ReleaseFits (held : List ℕ) : Type 0 where
  pub most : length held ≤ most_places

-- whether a live slice has the handle h, and the marks without its mark; the slices' own lists are not asked for
pub record Released (held : List ℕ) (h : ℕ) (r : Bool) (left : List ℕ) : Type 0 where
  pub found : r ≡ keyed handle_of (lives_of (length held) held) h
  pub marks : left ≡ cond (keyed handle_of (lives_of (length held) held) h) (filled 0 (length held) (without handle_of (lives_of (length held) held) h)) held

-- ---- the list, in lent room: handles, codes, numbers, editions
pub record Rooms : Type 0 where
  pub handles : List ℕ
  pub at : List ℕ
  pub shape : List Float
  pub edition : List ℕ

abbrev pub rooms : List ℕ → List ℕ → List Float → List ℕ → Rooms
rooms h a s e = record { handles = h; at = a; shape = s; edition = e }

-- room for cap slices
pub record Roomy (cap : ℕ) (o : Rooms) : Type 0 where
  pub ones : cap ≤ length o.handles
  pub fours : 4 * cap ≤ length o.at
  pub sixes : 6 * cap ≤ length o.shape
  pub editions : cap ≤ length o.edition

-- the room after a list of slices was written: by the room rule, the need being cap slices
unfoldable pub shown : ℕ → List (Kept Slice) → Rooms → Rooms
shown cap l o =
    rooms
    (room_of 0 1 cap (map (λ k. k.handle) l) o.handles)
    (room_of 0 4 cap (flat_map (λ k. k.slice.code) l) o.at)
    (room_of +0 6 cap (flat_map (λ k. k.slice.number) l) o.shape)
    (room_of 0 1 cap (map (λ k. k.slice.edition) l) o.edition)

pub record ListFits (s : Lists) (o : Rooms) : Type 0 where
  pub fit : Fit s
  pub room : Roomy (length s.held) o

-- how many were listed, and the room after
pub record Listed (s : Lists) (o : Rooms) (r : ℕ) (left : Rooms) : Type 0 where
  pub count : r ≡ length (plain_of (length s.held) s)
  pub shows : left ≡ shown (length s.held) (plain_of (length s.held) s) o
