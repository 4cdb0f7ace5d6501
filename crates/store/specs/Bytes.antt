-- What the functions over marks require and ensure where a flag is a byte: not 0 where it is set.
use Rattle.std.specs.Prelude.{ℕ, ◌≤◌, ◌<◌, ◌≡◌, List, Option, length, get_or, take, leb}
use Rattle.std.specs.Bool.{then_some}
use Rattle.store.specs.Keys.{keyed, lowest_from}
use Rattle.store.specs.Marks.{most_places, handle_of, place_of, lives_to, lives_of}
use Rattle.store.specs.Ready.{told}

-- a table of flags, one for each number: not 0 where the number is a key of the list
abbrev pub ToldBytes : ℕ → List ℕ → (ℕ → ℕ) → List ℕ → Type 0
ToldBytes cap flags key l = (k : ℕ) → k < cap → told (get_or flags k 0) ≡ keyed key l k

-- the first p numbers were looked at: n live marks are put down in `order`, and their handles and places are told
pub record LookedBytes (held : List ℕ) (p n : ℕ) (order handles places : List ℕ) : Type 0 where
  pub fits : length held ≤ most_places
  pub least : n ≤ p
  pub rooms : length order ≡ most_places
  pub flags : length handles ≡ most_places
  pub spots : length places ≡ most_places
  pub count : length (lives_to (length held) held p) ≡ n
  pub is : take n order ≡ lives_to (length held) held p
  pub handle : ToldBytes (length held) handles handle_of (lives_to (length held) held p)
  pub place : ToldBytes (length held) places place_of (lives_to (length held) held p)

pub record LookBytesFits (held : List ℕ) (p n : ℕ) (order handles places : List ℕ) : Type 0 where
  pub below : p < length held
  pub looked : LookedBytes held p n order handles places

-- nothing is told
pub record BlankBytes (held order handles places : List ℕ) : Type 0 where
  pub fits : length held ≤ most_places
  pub rooms : length order ≡ most_places
  pub flags : length handles ≡ most_places
  pub spots : length places ≡ most_places
  pub handle : (k : ℕ) → get_or handles k 0 ≡ 0
  pub place : (k : ℕ) → get_or places k 0 ≡ 0

abbrev pub LookedAllBytes : List ℕ → ℕ → List ℕ → List ℕ → List ℕ → Type 0
LookedAllBytes held n order handles places = LookedBytes held (length held) n order handles places

-- the lowest handle that no live mark has; none where there are more numbers than lists have here
unfoldable pub free_of : List ℕ → Option ℕ
free_of held = then_some (leb (length held) most_places) (lowest_from (keyed handle_of (lives_of (length held) held)) 0 (length held))
