-- Demand 3 in words over the lists that a stitch leaves.
use Rattle.std.specs.Prelude.{ℕ, ◌-◌, ◌*◌, ◌≤◌, ◌<◌, ◌≡◌, ◌⊎◌, length, get_or, take, drop}
use mathlib.Core.List.{List, [], ◌∷◌, map, flatten}
use Rattle.basis.specs.All.{All}
use Rattle.stitch_run.specs.Demand3.{times, LowestFirst}
use Rattle.select.specs.SelectTheorems.{Ascending}
use Rattle.stitch_run.specs.Stitch.{Given, need_of}
use Rattle.stitch.specs.Lent.{Lists}

-- l lists each number below n once, and nothing else
pub record Permutation (n : ℕ) (l : List ℕ) : Type 0 where
  pub size : length l ≡ n
  pub once : (k : ℕ) → k < n → times k l ≡ 1
  pub only : (k : ℕ) → n ≤ k → times k l ≡ 0

-- a list parted at each of the ends, of which each says how many entries all parts up to and with it have
unfoldable pub parted : ℕ → List ℕ → List ℕ → List (List ℕ)
parted from [] l = []
parted from (end ∷ ends) l = take (end - from) (drop from l) ∷ parted end ends l

-- the chains that are listed: `chain`, parted by as many of `chain_ends` as there are chains
abbrev pub chains_in : ℕ → Lists → List (List ℕ)
chains_in chains l = parted 0 (take chains l.chain_ends) l.chain

-- What demand 3 says of an accepted call: the slices, the rounds and chains that are reported, the slices in the order listed, the chains that are listed.
pub record Demanded (slices reported chains : ℕ) (order : List ℕ) (parts : List (List ℕ)) : Type 0 where
  -- "exactly n rounds, and n is the count you report"
  pub rounds : reported ≡ slices
  -- each slice is in exactly one chain, once
  pub permutation : Permutation slices order
  -- the chains one after the other are the whole list, and there are as many as is reported
  pub whole : flatten parts ≡ order
  pub counted : length parts ≡ chains
  -- each chain begins with its lowest number
  pub lowest : All LowestFirst parts
  -- chains ascend by first number
  pub ascending : Ascending (map (λ c. get_or c 0 0) parts)

-- a lent list is shorter than its need: the room by a number, or another list by an entry, or by more
abbrev pub Shorter : Given → Lists → Type 0
Shorter g x =
    (length x.room < 3 * need_of g.slice_at g.slices)
    ⊎ (length x.ends < g.slices)
    ⊎ (length x.chain < g.slices)
    ⊎ (length x.chain_ends < g.slices)
    ⊎ (length x.chain_how < g.slices)
