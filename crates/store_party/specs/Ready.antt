-- What the calls of one party require.
use Rattle.std.specs.Prelude.{ℕ, ◌*◌, ◌≤◌, ◌<◌, Bool, cond, ◌≡◌, List, length}
use Rattle.std.proofs.Math.Seq.{paste}
use Rattle.store.specs.Keys.{keyed, without}
use Rattle.store.specs.Slice.{Slice, Whole}
use Rattle.store.specs.Blocks.{block}
use Rattle.store.specs.Marks.{handle_of, lives_of, filled}
use Rattle.store.specs.Lists.{Lists, Sized, plain_of}
use Rattle.store_write.specs.Calls.{Rooms, Roomy, shown}
use Rattle.store_party.specs.Parties.{part_of}

-- "Each party may hold 896": half of the store's places
abbrev pub share : ℕ
share = 896

-- one of the two parties
pub record Known (p : ℕ) : Type 0 where
  pub below : p < 2

-- where party p's part begins, of a list in which each party has w elements
pub record Begins (w p r : ℕ) : Type 0 where
  pub is : r ≡ w * p
  pub low : r ≤ w

-- the lists of the store, and one of its two parties
pub record PartFits (w : Lists) (p : ℕ) : Type 0 where
  pub sized : Sized 1792 w
  pub known : p < 2

pub record PartPutFits (w : Lists) (p : ℕ) (x : Slice) : Type 0 where
  pub fits : PartFits w p
  pub whole : Whole x

-- the marks of the store alone
pub record PartMarksFit (held : List ℕ) (p : ℕ) : Type 0 where
  pub whole : length held ≡ 1792
  pub known : p < 2

-- whether one of the party's live slices has the handle h, and the marks without its mark
pub record PartReleased (held : List ℕ) (p h : ℕ) (r : Bool) (left : List ℕ) : Type 0 where
  pub found : r ≡ keyed handle_of (lives_of share (block share held p)) h
  pub marks : left ≡ paste held (share * p)
      (cond (keyed handle_of (lives_of share (block share held p)) h) (filled 0 share (without handle_of (lives_of share (block share held p)) h)) (block share held p)) share

pub record PartListFits (w : Lists) (p : ℕ) (o : Rooms) : Type 0 where
  pub fits : PartFits w p
  pub room : Roomy share o

-- how many of the party's slices were listed, and the room after
pub record PartListed (w : Lists) (p : ℕ) (o : Rooms) (r : ℕ) (left : Rooms) : Type 0 where
  pub count : r ≡ length (plain_of share (part_of share p w))
  pub shows : left ≡ shown share (plain_of share (part_of share p w)) o
