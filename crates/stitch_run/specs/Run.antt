-- Document 01, "Stitching": the run of a stitch as data, over any rules. C is what a chain has built so far; nothing here looks into it.
use Rattle.std.specs.Prelude.{ℕ, zero, suc, Bool, true, false, not, cond, ◌&&◌, ◌||◌, eqb, get_or, set, replicate, Option, Some, None}
use mathlib.Core.List.{List, [], ◌∷◌, ◌++◌, map, flat_map}

-- What a stitch is run by.
pub record Rules (C : Type 0) : Type 0 where
  -- how many slices there are; they are numbered from 0
  pub count : ℕ
  -- a chain that begins with this slice
  pub begin : ℕ → C
  -- the chain with this slice joined on
  pub join : C → ℕ → C
  -- too few vertices for a loop
  pub tiny : C → Bool
  -- this slice's start is a candidate of the chain's last vertex
  pub offers : C → ℕ → Bool
  -- the selector's answer, for the current slice and the candidates
  pub select : ℕ → List ℕ → Option ℕ

-- "how it ended (closed, too small, no candidate, no slice selected)"
pub data Ending : Type 0 where
  closed too_small no_candidate no_selection : Ending

-- what a round comes to: another slice is joined, or the chain ends
pub data Next : Type 0 where
  onto : ℕ → Next
  ends : Ending → Next

-- One round: the slice joined last, what was built before the round, the candidates, what the round comes to.
pub record Round (C : Type 0) : Type 0 where
  pub slice : ℕ
  pub built : C
  pub offered : List ℕ
  pub next : Next

-- A chain: its rounds in order, how it ended, what it has built.
pub record Chain (C : Type 0) : Type 0 where
  pub rounds : List (Round C)
  pub ending : Ending
  pub built : C

-- A chain under way: its first slice, the one joined last, what is built, which slices have been visited, the rounds so far.
pub record Underway (C : Type 0) : Type 0 where
  pub first : ℕ
  pub current : ℕ
  pub built : C
  pub visited : List Bool
  pub past : List (Round C)

-- A chain at its end, and which slices have been visited.
pub record Finished (C : Type 0) : Type 0 where
  pub chain : Chain C
  pub visited : List Bool

-- Between two chains: which slices have been visited, and the chains so far.
pub record Stitched (C : Type 0) : Type 0 where
  pub visited : List Bool
  pub chains : List (Chain C)

-- ---- the candidates

-- the numbers below n that pass a test, ascending
unfoldable pub passing : (ℕ → Bool) → ℕ → List ℕ
passing p zero = []
passing p (suc j) = passing p j ++ cond (p j) (j ∷ []) []

-- "unvisited or the chain's first slice"
unfoldable pub free : List Bool → ℕ → ℕ → Bool
free visited first j = not (get_or visited j false) || eqb j first

module _ {C : Type 0} (R : Rules C) where
  -- a candidate of a chain that has built b
  unfoldable pub candidate : List Bool → ℕ → C → ℕ → Bool
  candidate visited first b j = free visited first j && R.offers b j

  -- "the candidates of the chain's last vertex that are unvisited or the chain's first slice, in ascending number"
  unfoldable pub candidates_of : List Bool → ℕ → C → List ℕ
  candidates_of visited first b = passing (candidate visited first b) R.count

  -- ---- a round

  -- "The first slice chosen closes it"; "On closing, fewer than 3 vertices is dropped". Any other is joined.
  unfoldable pub taken : ℕ → C → ℕ → Next
  taken first b j = cond (eqb j first) (ends (cond (R.tiny b) too_small closed)) (onto j)

  -- "a selector that answers no slice, discards the chain"
  unfoldable pub answered : ℕ → C → Option ℕ → Next
  answered first b (Some j) = taken first b j
  answered first b None = ends no_selection

  -- "No candidate [..] discards the chain": the selector is not asked
  unfoldable pub asked : ℕ → ℕ → C → List ℕ → Next
  asked first current b [] = ends no_candidate
  asked first current b (c ∷ cs) = answered first b (R.select current (c ∷ cs))

  unfoldable pub next_of : Underway C → Next
  next_of w = asked w.first w.current w.built (candidates_of w.visited w.first w.built)

  unfoldable pub round_of : Underway C → Round C
  round_of w =
      record { slice = w.current; built = w.built; offered = candidates_of w.visited w.first w.built; next = next_of w }

  -- ---- a chain

  -- slice i begins a chain, and is visited
  unfoldable pub opened : List Bool → ℕ → Underway C
  opened visited i = record { first = i; current = i; built = R.begin i; visited = set visited i true; past = [] }

  -- the round joined slice j: it is visited, and is the current slice of the next round
  unfoldable pub onward : Underway C → ℕ → Underway C
  onward w j =
      record {
        first = w.first;
        current = j;
        built = R.join w.built j;
        visited = set w.visited j true;
        past = w.past ++ (round_of w ∷ []);
      }

  -- the round ended the chain; "its slices stay visited"
  unfoldable pub ended : Underway C → Ending → Finished C
  ended w e = record { chain = record { rounds = w.past ++ (round_of w ∷ []); ending = e; built = w.built }; visited = w.visited }

  -- round after round, until one ends the chain. The number says how many slices are left to be joined. K12: "every round but a chain's last visits a new slice", so no
  -- round joins one where none is left, and what stands there decides nothing (RunLaws.antt `walk-enough`)
  unfoldable pub walk : ℕ → Next → Underway C → Finished C
  walk zero (ends e) w = ended w e
  walk zero (onto j) w = ended w no_candidate
  walk (suc left) (ends e) w = ended w e
  walk (suc left) (onto j) w = let v = onward w j in walk left (next_of v) v

  unfoldable pub chain_from : List Bool → ℕ → Finished C
  chain_from visited i = let w = opened visited i in walk R.count (next_of w) w

  -- ---- the stitch

  unfoldable pub added : Stitched C → Finished C → Stitched C
  added s f = record { visited = f.visited; chains = s.chains ++ (f.chain ∷ []) }

  -- a slice that has been visited begins no chain
  unfoldable pub begun : Bool → ℕ → Stitched C → Stitched C
  begun true i s = s
  begun false i s = added s (chain_from s.visited i)

  -- slice i's turn
  unfoldable pub turn : ℕ → Stitched C → Stitched C
  turn i s = begun (get_or s.visited i false) i s

  -- "A chain starts at the lowest unvisited slice": each slice has its turn, in ascending number. This is after the turns of those below i.
  unfoldable pub turns : ℕ → Stitched C
  turns zero = record { visited = replicate R.count false; chains = [] }
  turns (suc i) = turn i (turns i)

  unfoldable pub run : List (Chain C)
  run = (turns R.count).chains

-- ---- what is read off a run

module _ {C : Type 0} where
  -- "each chain's slices in order": one of each round
  unfoldable pub slices_of : Chain C → List ℕ
  slices_of c = map (λ r. r.slice) c.rounds

  -- all rounds of all chains
  unfoldable pub rounds_of : List (Chain C) → List (Round C)
  rounds_of l = flat_map (λ c. c.rounds) l

  -- all slices, chain after chain
  unfoldable pub order_of : List (Chain C) → List ℕ
  order_of l = flat_map slices_of l
