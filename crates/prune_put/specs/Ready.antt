-- What a caller has shown, and what the functions leave.
use Rattle.std.specs.Prelude.{ℕ, ◌+◌, ◌*◌, ◌≤◌, ◌<◌, ◌≡◌, List, length, Float}
use Rattle.basis.specs.Number.{+0}
use Rattle.basis.specs.Sizes.{most_slices}
use Rattle.basis.specs.Room.{cleared}
use Rattle.slice.specs.Slice.{code_width, shape_width, Slice}
use Rattle.slice.specs.Ready.{ShapeThere, Rooms, Roomy, PutFit, Placed}

-- an item of w codes, a shape and an edition that the lists have, and room for slice number n
pub record ItemFit (w : ℕ) (at : List ℕ) (shape : List Float) (edition : List ℕ) (k : ℕ) (l : Rooms) (n : ℕ) : Type 0 where
  pub codes : w * k + w ≤ length at
  pub shape-there : ShapeThere shape k
  pub edition-there : k < length edition
  pub put : PutFit l n

-- these slices were written from number m up to r, of at most that many items; the lists are as long as before
pub record Wrote (s : List Slice) (most : ℕ) (l : Rooms) (m r : ℕ) (l' : Rooms) : Type 0 where
  pub placed : Placed s l m r l'
  pub few : r ≤ m + most
  pub size-at : length l'.at ≡ length l.at
  pub size-shape : length l'.shape ≡ length l.shape
  pub size-edition : length l'.edition ≡ length l.edition

-- ---- the rest

-- n slices are within the need
pub record ClearFit (l : Rooms) (n need : ℕ) : Type 0 where
  pub within : n ≤ need
  pub few : need ≤ most_slices
  pub roomy : Roomy need l

-- cleared from slice number n up to the need
pub record Cleared (l : Rooms) (n need : ℕ) (l' : Rooms) : Type 0 where
  pub at : l'.at ≡ cleared 0 (code_width * n) (code_width * need) l.at
  pub shape : l'.shape ≡ cleared +0 (shape_width * n) (shape_width * need) l.shape
  pub edition : l'.edition ≡ cleared 0 n need l.edition
