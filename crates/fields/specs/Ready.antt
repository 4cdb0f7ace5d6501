-- What the functions on fields and rows require, and what a field's value is known to be.
use Rattle.std.specs.Prelude.{ℕ, ◌+◌, ◌*◌, ◌^◌, ◌≤◌, ◌<◌, not, ◌≡◌, List, [], ◌∷◌, T, length, get_or, take, drop, Float}
use Rattle.std.proofs.lemmas.List.Edits.{sets}
use Rattle.std.specs.Float.{nan}
use Rattle.std.specs.Float.Ieee.{is_nan}
use Rattle.fields.specs.Fields.{size, value_of, unpack}

-- no field is wider than 8 bytes
pub data Narrow : List ℕ → Type 0 where
  narrow-none : Narrow []
  narrow_one : {w : ℕ} {ws : List ℕ} → w ≤ 8 → Narrow ws → Narrow (w ∷ ws)

-- each value fits its field
pub data Fitted : List ℕ → List ℕ → Type 0 where
  fit_none : Fitted [] []
  fit-one : {w v : ℕ} {ws vs : List ℕ} → v < 256 ^ w → Fitted ws vs → Fitted (w ∷ ws) (v ∷ vs)

-- a field of w bytes at `at`
pub record FieldAt (b : List ℕ) (at w : ℕ) : Type 0 where
  pub thin : w ≤ 8
  pub inside : at + w ≤ length b

-- a byte of a field, whose end is a place of a list
pub record ByteAt (at w i : ℕ) : Type 0 where
  pub within : i < w
  pub ends : at + w < 2 ^ 64

-- space for w bytes at `at`
pub record SpaceAt (b : List ℕ) (at w : ℕ) : Type 0 where
  pub inside : at + w ≤ length b

-- x is a number
pub record Number (x : Float) : Type 0 where
  pub number : T (not (is_nan x))

pub record Value (b : List ℕ) (at w r : ℕ) : Type 0 where
  pub value : r ≡ value_of w (drop at b)
  pub below : r < 256 ^ w

-- a shape at `at` in m bytes, and room for its values from `to` on in a list of n
pub record ShapeAt (m at : ℕ) (ws : List ℕ) (n to : ℕ) : Type 0 where
  pub narrow : Narrow ws
  pub inside : at + size ws ≤ m
  pub target : to + length ws ≤ n

-- the values are listed, and each fits its field
pub record ShapeRead (b : List ℕ) (at : ℕ) (ws vs vs' : List ℕ) (to : ℕ) : Type 0 where
  pub values : vs' ≡ sets vs to (unpack ws (drop at b))
  pub fitted : Fitted ws (unpack ws (drop at b))

-- a shape's values from `from` on in a list of n, and space for it from `at` on in m bytes
pub record ShapeFrom (n from : ℕ) (ws : List ℕ) (m at : ℕ) : Type 0 where
  pub source : from + length ws ≤ n
  pub inside : at + size ws ≤ m

-- k rows of `stride` bytes each
pub record RowsAt (m at : ℕ) (ws : List ℕ) (stride k n to : ℕ) : Type 0 where
  pub narrow : Narrow ws
  pub bytes : stride ≡ size ws
  pub inside : at + k * stride ≤ m
  pub target : to + k * length ws ≤ n

pub record RowsFrom (n from : ℕ) (ws : List ℕ) (stride k m at : ℕ) : Type 0 where
  pub bytes : stride ≡ size ws
  pub source : from + k * length ws ≤ n
  pub inside : at + k * stride ≤ m

-- `count` elements from `from` on in a list of n, to the places from `to` on in a list of m
pub record CopyAt (n from count m to : ℕ) : Type 0 where
  pub source : from + count ≤ n
  pub target : to + count ≤ m

-- R says which element of ys may stand for the element of xs at its place
pub data Each {A B : Type 0} (R : A → B → Type 0) : List A → List B → Type 0 where
  each-none : Each R [] []
  each-one : {x : A} {y : B} {xs : List A} {ys : List B} → R x y → Each R xs ys → Each R (x ∷ xs) (y ∷ ys)

-- so many elements of src from `from` on were copied to l from `to` on, each as R says
pub record CopiedBy {A B : Type 0} (R : A → B → Type 0) (src : List A) (from count : ℕ) (l : List B) (to : ℕ) (l' : List B) : Type 0 where
  pub items : List B
  pub each : Each R (take count (drop from src)) items
  pub state : l' ≡ sets l to items

-- no number of a list is a NaN
abbrev pub NoNan : List Float → Type 0
NoNan s = (i : ℕ) → i < length s → T (not (is_nan (get_or s i nan)))

pub record BitsAt (s : List Float) (from count m to : ℕ) : Type 0 where
  pub copies : CopyAt (length s) from count m to
  pub plain : NoNan s
