-- The lists of slices, in one list of links.
-- A slice j stands as lists + j. At a list's own number h stands its first slice, at lists + j the one after j; lists + n and above is none. At lists + j + n stands the last of j's run.
use Rattle.std.specs.Prelude.{ℕ, suc, ◌+◌, ◌-◌, ◌≤◌, ◌<◌, Bool, true, false, cond, List, ◌≡◌, ltb, length, get_or}
use Rattle.stitch_layout.specs.declared.layout.Query.{Query}

-- x is a link of list h: it leads to a slice of that list from number `from` on, or to none. The slices of the list that it passes over are not free
pub record Next (free : ℕ → Bool) (L : ℕ → ℕ) (lists n h from x : ℕ) : Type 0 where
  pub higher : lists + from ≤ x
  pub mine : x < lists + n → L (x - lists) ≡ h
  pub passed : (j : ℕ) → from ≤ j → j < n → lists + j < x → L j ≡ h → free j ≡ false

-- the list that a place is on
unfoldable pub place_of : (ℕ → ℕ) → ℕ → ℕ → ℕ
place_of L lists at = cond (ltb at lists) at (L (at - lists))

-- x stands for the last slice of j's run: those of j's list up to there meet what j meets
pub record Run (L : ℕ → ℕ) (meets : Query → ℕ → Bool) (lists n j x : ℕ) : Type 0 where
  pub higher : lists + j ≤ x
  pub inside : x < lists + n
  pub mine : L (x - lists) ≡ L j
  pub alike : (q : Query) (k : ℕ) → j ≤ k → lists + k ≤ x → L k ≡ L j → meets q k ≡ meets q j

-- The invariant. `free` says which slices may still be asked for, L the list of each, `meets` which slices a query meets
pub record Linked (free : ℕ → Bool) (L : ℕ → ℕ) (meets : Query → ℕ → Bool) (lists n : ℕ) (link : List ℕ) : Type 0 where
  pub size : lists + n + n ≤ length link
  pub at : (a : ℕ) → a < lists + n → Next free L lists n (place_of L lists a) (suc a - lists) (get_or link a 0)
  pub runs : (j : ℕ) → j < n → Run L meets lists n j (get_or link (lists + j + n) 0)

-- every slice, before any is visited
abbrev pub ever_free : ℕ → Bool
ever_free j = true

-- while slices are put on, from the last to the first: those from i on are
pub record Linking (L : ℕ → ℕ) (meets : Query → ℕ → Bool) (lists n i : ℕ) (link : List ℕ) : Type 0 where
  pub size : lists + n + n ≤ length link
  pub heads : (h : ℕ) → h < lists → Next ever_free L lists n h i (get_or link h 0)
  pub tails : (k : ℕ) → i ≤ k → k < n → Next ever_free L lists n (L k) (suc k) (get_or link (lists + k) 0)
  pub runs : (k : ℕ) → i ≤ k → k < n → Run L meets lists n k (get_or link (lists + k + n) 0)
