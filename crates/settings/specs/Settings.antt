-- Request K7: "Keep up to 16 settings, each with both tolerances and the area limit, in one record that operators extend and never overwrite."
use Rattle.std.specs.Prelude.{ℕ, zero, suc, ◌+◌, ◌-◌, ◌*◌, ◌<◌, min, Bool, not, cond, ◌&&◌, ◌||◌, ◌≡◌, List, [], ◌∷◌, ◌++◌, length, get_or, set, eqb, ltb, leb, Float}
use Rattle.std.proofs.lemmas.List.Edits.{sets}
use Rattle.std.specs.Float.Ieee.{neg}
use Rattle.basis.specs.Number.{+0, one}
use Rattle.settings.specs.declared.Setting.{Setting}

-- ---- the record, as a host lends it

-- how many settings there are, and the numbers of each. Nothing is asked of the two lists: every content is some record
pub record Held : Type 0 where
  pub entered : List ℕ
  pub numbers : List Float

abbrev pub held : List ℕ → List Float → Held
held e n = record { entered = e; numbers = n }

-- the lists have room for 16 settings
pub record Sized (h : Held) : Type 0 where
  pub one : length h.entered ≡ 1
  pub all : length h.numbers ≡ 48

-- 1: "a list's length disagrees with its count"
unfoldable pub lengths_fault : Held → Bool
lengths_fault h = not (eqb (length h.entered) 1) || not (eqb (length h.numbers) 48)

-- "up to 16 settings": how many there are. A number above 16 reads as 16
unfoldable pub count_of : List ℕ → ℕ
count_of entered = min (get_or entered 0 0) 16

-- "each with both tolerances and the area limit": the three numbers of setting k, from 0
unfoldable pub setting_at : List Float → ℕ → Setting
setting_at numbers k = record { tolerance_x = get_or numbers (3 * k) +0; tolerance_y = get_or numbers (3 * k + 1) +0; area_limit = get_or numbers (3 * k + 2) +0 }

-- what the record holds: its settings in the order in which they were entered
unfoldable pub settings_to : List Float → ℕ → List Setting
settings_to numbers zero = []
settings_to numbers (suc k) = settings_to numbers k ++ (setting_at numbers k ∷ [])

unfoldable pub settings_of : Held → List Setting
settings_of h = settings_to h.numbers (count_of h.entered)

-- ---- asking

-- "Editions count from 1": an edition is known up to the number of settings
unfoldable pub known : List ℕ → ℕ → Bool
known entered e = ltb 0 e && leb e (count_of entered)

-- no setting: each of its numbers is out of range
abbrev pub none : Setting
none = record { tolerance_x = neg one; tolerance_y = neg one; area_limit = neg one }

-- "Asking for an edition returns exactly what was entered under it": edition e is setting e - 1
unfoldable pub asked_of : Held → ℕ → Setting
asked_of h e = cond (known h.entered e) (setting_at h.numbers (e - 1)) none

-- ---- entering

-- "A seventeenth is refused": no further setting is taken
unfoldable pub full : List ℕ → Bool
full entered = eqb (count_of entered) 16

-- the numbers, with those of a setting written at place k
unfoldable pub written : List Float → ℕ → Setting → List Float
written numbers k s = sets numbers (3 * k) (s.tolerance_x ∷ s.tolerance_y ∷ s.area_limit ∷ [])

-- "extend and never overwrite": the setting goes after those that are there
unfoldable pub extended : Held → Setting → Held
extended h s = held (set h.entered 0 (count_of h.entered + 1)) (written h.numbers (count_of h.entered) s)

-- ---- what the functions ask of their callers, and what they leave

-- a setting's place, from 0; and with room for its numbers
pub record Place (k : ℕ) : Type 0 where
  pub inside : k < 16

pub record Space (numbers : List Float) (k : ℕ) : Type 0 where
  pub inside : k < 16
  pub all : length numbers ≡ 48

-- a record that takes a further setting
pub record Open (h : Held) : Type 0 where
  pub sized : Sized h
  pub fewer : count_of h.entered < 16

pub record Entered (h : Held) (s : Setting) (r : ℕ) (left : Held) : Type 0 where
  pub edition : r ≡ count_of h.entered + 1
  pub lists : left ≡ extended h s
