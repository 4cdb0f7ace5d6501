-- Demand 3: the words in which it is said, over any rules.
use Rattle.std.specs.Prelude.{ℕ, ◌+◌, ◌-◌, ◌≤◌, ◌<◌, ◌≡◌, List, [], ◌∷◌, map, eqb, length, get_or}
use Rattle.basis.specs.Choice.{code_of}
use Rattle.basis.specs.All.{All}
use Rattle.select.specs.SelectTheorems.{Ascending}
use Rattle.stitch_run.specs.Run.{Rules, Chain, Ending, closed, too_small, no_candidate, no_selection, Next, onto, ends, Round, run, slices_of, rounds_of, order_of}

-- ---- words

-- the sum of a weight over a list
abbrev pub sum_over : {A : Type 0} → (A → ℕ) → List A → ℕ
sum_over f [] = 0
sum_over f (a ∷ l) = f a + sum_over f l

-- how often a number stands in a list
abbrev pub times : ℕ → List ℕ → ℕ
times k l = sum_over (λ j. code_of (eqb k j)) l

-- not empty, and the first number is below all that follow it
abbrev pub LowestFirst : List ℕ → Type 0
LowestFirst [] = ⊥
LowestFirst (i ∷ l) = All (λ j. i < j) l

-- a chain's first slice
abbrev pub first_slice : {C : Type 0} → Chain C → ℕ
first_slice c = get_or (slices_of c) 0 0

-- ---- rounds and chains

pub record Demand3 {C : Type 0} (R : Rules C) : Type 0 where
  -- exactly n rounds
  pub rounds : length (rounds_of (run R)) ≡ R.count
  -- each slice is in exactly one chain, once
  pub once : (k : ℕ) → k < R.count → times k (order_of (run R)) ≡ 1
  -- and nothing else is in one
  pub only : (k : ℕ) → R.count ≤ k → times k (order_of (run R)) ≡ 0
  -- each chain begins with its lowest number
  pub lowest : All (λ c. LowestFirst (slices_of c)) (run R)
  -- chains ascend by first number
  pub ascending : Ascending (map first_slice (run R))

-- ---- the room

-- how many vertices a chain of m may have at any moment of a round: a slice that is joined brings no more than its weight
abbrev pub reach : (ℕ → ℕ) → Next → ℕ → ℕ
reach f (onto j) m = m + f j
reach f (ends e) m = m

-- how many vertices a chain of m leaves in the room: a loop's, without the last; none where the chain is discarded
abbrev pub leaves : Ending → ℕ → ℕ
leaves closed m = m - 1
leaves too_small m = 0
leaves no_candidate m = 0
leaves no_selection m = 0

-- how many vertices the loops of these chains have
abbrev pub finished : {C : Type 0} → (C → ℕ) → List (Chain C) → ℕ
finished size l = sum_over (λ c. leaves c.ending (size c.built)) l

-- One round, behind the m vertices of the finished loops: the chain has a vertex, and stays within the room before the join and while it is made.
pub record Moment {C : Type 0} (size : C → ℕ) (f : ℕ → ℕ) (room m : ℕ) (r : Round C) : Type 0 where
  pub some : 1 ≤ size r.built
  pub fits : m + reach f r.next (size r.built) ≤ room

-- A whole chain: its first slice's vertices, one more than the slice's weight, and each of its rounds.
pub record Within {C : Type 0} (size : C → ℕ) (f : ℕ → ℕ) (room m : ℕ) (c : Chain C) : Type 0 where
  pub begins : m + (f (first_slice c) + 1) ≤ room
  pub rounds : All (Moment size f room m) c.rounds

-- The room is enough at every moment of the chains that follow, with m vertices of finished loops before them.
abbrev pub Enough : {C : Type 0} → (C → ℕ) → (ℕ → ℕ) → ℕ → ℕ → List (Chain C) → Type 0
Enough size f room m [] = m ≤ room
Enough size f room m (c ∷ l) = Within size f room m c × Enough size f room (m + leaves c.ending (size c.built)) l
