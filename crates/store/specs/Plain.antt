-- Document 02, K9: the store as a plain list of the live slices, "in the order put".
use Rattle.std.specs.Prelude.{ℕ, Bool, cond, List, [], ◌∷◌, ◌++◌, length, eqb}
use Rattle.store.specs.Keys.{keyed, without, lowest_from}
use Rattle.basis.specs.Machine.{Turn, turn}

-- a live slice, with the handle that it keeps "until released"
pub record Kept (A : Type 0) : Type 0 where
  pub handle : ℕ
  pub slice : A

abbrev pub kept : {A : Type 0} → ℕ → A → Kept A
kept h x = record { handle = h; slice = x }

abbrev pub handle_in : {A : Type 0} → Kept A → ℕ
handle_in k = k.handle

-- whether a live slice has the handle h
abbrev pub has : {A : Type 0} → List (Kept A) → ℕ → Bool
has = keyed handle_in

-- "Put, release and list", and "compaction"
pub data Call (A : Type 0) : Type 0 where
  put : A → Call A
  release : ℕ → Call A
  list : Call A
  compact : Call A

-- a refusal's number; the handle given; done; the list
pub data Answer (A : Type 0) : Type 0 where
  refused : ℕ → Answer A
  given : ℕ → Answer A
  done : Answer A
  listed : List (Kept A) → Answer A

-- what a plain list of at most cap slices answers, and what is left of it
module _ {A : Type 0} (cap : ℕ) where
  -- "the lowest handle number, from 0, that no live slice has"
  abbrev pub free_handle : List (Kept A) → ℕ
  free_handle l = lowest_from (has l) 0 cap

  -- "refused exactly when 1,792 are live": "20 store full"; "21 no such handle", and "releasing a dead handle changes nothing".
  -- "The list is the live slices in the order put." Compaction "changes neither list nor handles"
  unfoldable pub plain_step : List (Kept A) → Call A → Turn (List (Kept A)) (Answer A)
  plain_step l (put x) =
      cond (eqb (length l) cap)
      (turn (refused 20) l)
      (turn (given (free_handle l)) (l ++ (kept (free_handle l) x ∷ [])))
  plain_step l (release h) = cond (has l h) (turn done (without handle_in l h)) (turn (refused 21) l)
  plain_step l list = turn (listed l) l
  plain_step l compact = turn done l
