-- What the functions over marks require and ensure.
use Rattle.std.specs.Prelude.{ℕ, suc, ◌+◌, ◌≤◌, ◌<◌, Bool, false, not, ◌≡◌, List, [], ◌∷◌, ◌++◌, length, get_or, take, drop, eqb}
use Rattle.store.specs.Keys.{keyed}
use Rattle.store.specs.Marks.{most_places, mark_of, handle_of, place_of, lives_to}

-- so many places at most
pub record Few (n : ℕ) : Type 0 where
  pub most : n ≤ most_places

-- a place and a handle of which a mark can be made
pub record Low (t h : ℕ) : Type 0 where
  pub place : t < most_places
  pub handle : h < 2048

-- the place that a mark names, so low that what is worked out from it stays in range
pub record PlaceIs (m r : ℕ) : Type 0 where
  pub is : r ≡ place_of m
  pub small : r < 9007199254740992

-- ---- the live marks, found one after the other

-- a number as a flag: 0 is not set
unfoldable pub told : ℕ → Bool
told x = not (eqb x 0)

-- a table of flags, one for each number: whether the number is a key of the list
abbrev pub Told : ℕ → List Bool → (ℕ → ℕ) → List ℕ → Type 0
Told cap flags key l = (k : ℕ) → k < cap → get_or flags k false ≡ keyed key l k

-- the first p numbers were looked at: n live marks are put down in `order`, and their handles and places are told
pub record Looked (held : List ℕ) (p n : ℕ) (order : List ℕ) (handles places : List Bool) : Type 0 where
  pub fits : length held ≤ most_places
  pub least : n ≤ p
  pub rooms : length order ≡ most_places
  pub flags : length handles ≡ most_places
  pub spots : length places ≡ most_places
  pub count : length (lives_to (length held) held p) ≡ n
  pub is : take n order ≡ lives_to (length held) held p
  pub handle : Told (length held) handles handle_of (lives_to (length held) held p)
  pub place : Told (length held) places place_of (lives_to (length held) held p)

pub record LookFits (held : List ℕ) (p n : ℕ) (order : List ℕ) (handles places : List Bool) : Type 0 where
  pub below : p < length held
  pub looked : Looked held p n order handles places

-- nothing is put down, nothing told
pub record Blank (held : List ℕ) (n : ℕ) (order : List ℕ) (handles places : List Bool) : Type 0 where
  pub none : n ≡ 0
  pub fits : length held ≤ most_places
  pub rooms : length order ≡ most_places
  pub flags : length handles ≡ most_places
  pub spots : length places ≡ most_places
  pub handle : (k : ℕ) → get_or handles k false ≡ false
  pub place : (k : ℕ) → get_or places k false ≡ false

abbrev pub LookedAll : List ℕ → ℕ → List ℕ → List Bool → List Bool → Type 0
LookedAll held n order handles places = Looked held (length held) n order handles places

-- ---- marks written

-- marks, and room for them
pub record MarksFit (held marks : List ℕ) : Type 0 where
  pub fits : length marks ≤ length held
  pub few : length held ≤ most_places

-- the items stand in front, and behind them what was there
pub record Front {A : Type 0} (items entry l : List A) (k : ℕ) : Type 0 where
  pub count : length items ≡ k
  pub is : l ≡ items ++ drop k entry

-- the marks of slices that stand at the places from k on, in turn
unfoldable pub number_from : ℕ → List ℕ → List ℕ
number_from k [] = []
number_from k (m ∷ l) = mark_of k (handle_of m) ∷ number_from (suc k) l

-- ---- slices copied

pub record CopyFits {A : Type 0} (src : List A) (a : ℕ) (dst : List A) (b w : ℕ) : Type 0 where
  pub from : a + w ≤ length src
  pub to : b + w ≤ length dst
