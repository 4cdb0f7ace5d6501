-- What a caller has shown, and what the functions leave: one record for each contract.
use Rattle.std.specs.Prelude.{ℕ, ◌+◌, ◌*◌, ◌/◌, ◌≤◌, ◌<◌, ◌≡◌, length, Float}
use mathlib.Core.List.{List, flat_map}
use Rattle.std.proofs.lemmas.List.Edits.{sets}
use Rattle.basis.specs.Sizes.{most_slices}
use Rattle.slice.specs.declared.write.Lent.{Lent}
use Rattle.slice.specs.Slice.{code_width, shape_width, Slice, codes_of, shape_of, editions_of}

-- ---- reading

pub record CodesThere (at : List ℕ) (i : ℕ) : Type 0 where
  pub inside : code_width * i + 3 < length at

pub record ShapeThere (shape : List Float) (i : ℕ) : Type 0 where
  pub inside : shape_width * i + 5 < length shape

pub record SliceThere (at : List ℕ) (shape : List Float) (i : ℕ) : Type 0 where
  pub codes : CodesThere at i
  pub shape-there : ShapeThere shape i

-- an edition for each slice
pub record EditionsThere (at edition : List ℕ) : Type 0 where
  pub each : length at / code_width ≤ length edition

-- ---- rooms

-- a count of 16 bits: its multiples by the widths fit
pub record Countable (n : ℕ) : Type 0 where
  pub few : n < 65536

-- the three lists that slices are written to
pub record Rooms : Type 0 where
  pub at : List ℕ
  pub shape : List Float
  pub edition : List ℕ

abbrev pub rooms : List ℕ → List Float → List ℕ → Rooms
rooms at shape edition = record { at = at; shape = shape; edition = edition }

-- the same, of the three lists that a function is handed
abbrev pub rooms_in : Lent → Rooms
rooms_in l = rooms l.at.now l.shape.now l.edition.now

-- they are the lists that were lent
pub record Same (l l' : Lent) : Type 0 where
  pub at : l'.at.ghost_name ≡ l.at.ghost_name
  pub shape : l'.shape.ghost_name ≡ l.shape.ghost_name
  pub edition : l'.edition.ghost_name ≡ l.edition.ghost_name

-- there is room for n slices
pub record Roomy (n : ℕ) (l : Rooms) : Type 0 where
  pub at : code_width * n ≤ length l.at
  pub shape : shape_width * n ≤ length l.shape
  pub edition : n ≤ length l.edition

-- slice number n has its room
pub record PutFit (l : Rooms) (n : ℕ) : Type 0 where
  pub low : n < most_slices
  pub roomy : Roomy (n + 1) l

-- these slices were written from number m up to r, and nothing else
pub record Placed (s : List Slice) (l : Rooms) (m r : ℕ) (l' : Rooms) : Type 0 where
  pub counted : r ≡ m + length s
  pub at : l'.at ≡ sets l.at (code_width * m) (flat_map codes_of s)
  pub shape : l'.shape ≡ sets l.shape (shape_width * m) (flat_map shape_of s)
  pub edition : l'.edition ≡ sets l.edition m (editions_of s)
