-- What holds of every run, at each moment of it. The rules may be any whose selector answers among the candidates.
use Prim.Native.Nat.{ℕ, zero, suc, ◌+◌, ◌≤◌, ◌<◌}
use Rattle.std.specs.Prelude.{Bool, cond, ◌≡◌, eqb, length, set, Option, Some, None}
use Rattle.std.proofs.Math.Bool.{true, false}
use Rattle.std.proofs.Math.Path.{refl, ap, subst}
use Rattle.std.proofs.Common.{sym, ◌∙◌, not-suc-le-zero, arith, get_or-set_same}
use mathlib.Core.List.{List, [], ◌∷◌, ◌++◌, append_assoc, map, map-append, flat_map, Memᴰ}
use Rattle.std.proofs.Math.ListN.{get_or, length-append, length-map}
use Rattle.std.proofs.Math.Seq.{get_or-set_other}
use Rattle.basis.specs.Choice.{code_of}
use Rattle.basis.specs.All.{All, all-imp, all_snoc}
use Rattle.stitch_run.specs.Run.{Rules, Ending, closed, too_small, Next, onto, ends, Chain, Underway, Finished, Stitched}
use Rattle.stitch_run.specs.Run.{free, candidate, candidates_of, taken, answered, asked, next_of, round_of, opened, onward, ended}
use Rattle.stitch_run.specs.Run.{walk, chain_from, added, begun, turn, turns, run, slices_of, rounds_of, order_of}
use Rattle.stitch_run.specs.Stitch.{sum_below}
use Rattle.stitch_run.specs.Demand3.{sum_over, LowestFirst, first_slice, Demand3}
use Rattle.select.specs.SelectTheorems.{Ascending}
use Rattle.stitch_run.specs.SumLaws.{below-ones, below_out, below_in, weighed-all, sum_ones, ascending-snoc}
use Rattle.basis.specs.FlatLaws.{flat-snoc}
use Rattle.stitch_run.specs.TallyLaws.{passing-mem, clash, unvisited, past-marks, marks-more, Tally, tally-none, tally-one, tally-most}

-- ---- small parts

never : (e : Ending) (j : ℕ) → ends e ≡ onto j → ⊥
never e j q = let z : ◌≡◌ {A = ℕ} 0 1 = cc in omega arith

-- the selector answers only among the candidates
abbrev pub Among : {C : Type 0} → Rules C → Type 0
Among R = (current : ℕ) (candidates : List ℕ) (j : ℕ) → R.select current candidates ≡ Some j → Memᴰ j candidates

-- the slices of a chain under way, the current one last
abbrev pub placed : {C : Type 0} → Underway C → List ℕ
placed w = map (λ r. r.slice) w.past ++ (w.current ∷ [])

module _ {C : Type 0} (R : Rules C) (among : Among R) where
  -- ---- a round

  -- what is joined was selected, is not the first slice,
  by-taken : (w : Underway C) (j k : ℕ) (b : Bool) → eqb k w.first ≡ b → cond b (ends (cond (R.tiny w.built) too_small closed)) (onto k) ≡ onto j
      → (k ≡ j) × (eqb k w.first ≡ false)
  by-taken w j k true e q = absurd (never _ j q)
  by-taken w j k false e q = (cc, e)

  by-answered : (w : Underway C) (j : ℕ) (s : Option ℕ) → answered R w.first w.built s ≡ onto j → (s ≡ Some j) × (eqb j w.first ≡ false)
  unfolding answered taken
  by-answered w j None q = absurd (never _ j q)
  by-answered w j (Some k) q = let t = by-taken w j k (eqb k w.first) refl q in (cc t.0, rw t.0 at t.1)

  by-asked : (w : Underway C) (j : ℕ) (l : List ℕ) → asked R w.first w.current w.built l ≡ onto j → Memᴰ j l × (eqb j w.first ≡ false)
  unfolding asked
  by-asked w j [] q = absurd (never _ j q)
  by-asked w j (c ∷ cs) q = let t = by-answered w j (R.select w.current (c ∷ cs)) q in (among _ _ j t.0, t.1)

  -- is a slice, and has not been visited.
  pub onto-facts : (w : Underway C) (j : ℕ) → next_of R w ≡ onto j → (j < R.count) × (get_or w.visited j false ≡ false)
  unfolding next_of candidates_of candidate free
  onto-facts w j q =
      let t = by-asked w j (candidates_of R w.visited w.first w.built) q in
      let u = passing-mem (candidate R w.visited w.first w.built) R.count j t.0 in
      (u.1, unvisited (get_or w.visited j false) (eqb j w.first) (R.offers w.built j) t.1 u.0)

  -- ---- a chain under way, `prior` being the slices of the chains before it

  pub record Going (prior : List ℕ) (w : Underway C) : Type 0 where
    pub tally : Tally R.count (prior ++ placed w) w.visited
    -- all slices up to the first have been visited
    pub passed : (k : ℕ) → k < suc w.first → get_or w.visited k false ≡ true
    -- the first slice is the lowest
    pub rest : List ℕ
    pub begins : placed w ≡ w.first ∷ rest
    pub above : All (λ k. w.first < k) rest

  pub placed-onward : (w : Underway C) (j : ℕ) → placed (onward R w j) ≡ placed w ++ (j ∷ [])
  unfolding onward round_of
  placed-onward w j = ap (λ (l : List ℕ). l ++ (j ∷ [])) (map-append (λ r. r.slice) w.past (round_of R w ∷ []))

  pub going-onward : (prior : List ℕ) (w : Underway C) (j : ℕ) → next_of R w ≡ onto j → Going prior w → Going prior (onward R w j)
  unfolding onward
  going-onward prior w j q u =
      let f = onto-facts w j q in
      record {
        tally =
            subst (λ (l : List ℕ). Tally R.count (prior ++ l) (set w.visited j true)) (sym (placed-onward w j))
            (rw append_assoc at (tally-one R.count (prior ++ placed w) w.visited j u.tally f.0 f.1));
        passed = λ k h. get_or-set_other w.visited j k true false (λ e. clash (u.passed k h) (ap (λ (m : ℕ). get_or w.visited m false) e ∙ f.1)) ∙ u.passed k h;
        rest = u.rest ++ (j ∷ []);
        begins = placed-onward w j ∙ ap (λ (l : List ℕ). l ++ (j ∷ [])) u.begins;
        above = all_snoc (λ k. w.first < k) u.rest j u.above (past-marks w.visited w.first j u.passed f.1);
      }

  pub placed-longer : (prior : List ℕ) (w : Underway C) (j : ℕ) → length (prior ++ placed (onward R w j)) ≡ suc (length (prior ++ placed w))
  placed-longer prior w j =
      omega (arith, length-append prior (placed (onward R w j)), ap length (placed-onward w j), length-append (placed w) (j ∷ []), length-append prior (placed w))

  -- ---- a chain at its end

  pub record Gone (prior : List ℕ) (first : ℕ) (t : Finished C) : Type 0 where
    pub tally : Tally R.count (prior ++ slices_of t.chain) t.visited
    pub passed : (k : ℕ) → k < suc first → get_or t.visited k false ≡ true
    pub head : first_slice t.chain ≡ first
    pub lowest : LowestFirst (slices_of t.chain)

  -- its slices are those that were placed
  pub ended-slices : (w : Underway C) (e : Ending) → slices_of (ended R w e).chain ≡ placed w
  unfolding ended round_of slices_of
  ended-slices w e = map-append (λ r. r.slice) w.past (round_of R w ∷ [])

  pub gone-ended : (prior : List ℕ) (w : Underway C) (e : Ending) → Going prior w → Gone prior w.first (ended R w e)
  unfolding ended
  gone-ended prior w e u =
      let l = ended-slices w e in
      record {
        tally = rw l u.tally;
        passed = u.passed;
        head = ap (λ (m : List ℕ). get_or m 0 0) (l ∙ u.begins);
        lowest = subst LowestFirst (sym (l ∙ u.begins)) u.above;
      }

  -- where n slices are placed, no round joins another. So a walk that may join as many as are not placed is a whole chain
  pub nothing_left : (prior : List ℕ) (w : Underway C) (j : ℕ) → next_of R w ≡ onto j → Going prior w → R.count ≤ length (prior ++ placed w) → ⊥
  nothing_left prior w j q u h = omega (arith, placed-longer prior w j, tally-most R.count _ _ (going-onward prior w j q u).tally)

  pub gone-walk : (prior : List ℕ) (left : ℕ) (x : Next) (w : Underway C) → next_of R w ≡ x → Going prior w → R.count ≤ left + length (prior ++ placed w)
      → Gone prior w.first (walk R left x w)
  unfolding walk onward
  gone-walk prior zero (ends e) w q u h = gone-ended prior w e u
  gone-walk prior (suc left) (ends e) w q u h = gone-ended prior w e u
  gone-walk prior zero (onto j) w q u h = absurd (nothing_left prior w j q u (omega arith))
  gone-walk prior (suc left) (onto j) w q u h =
      gone-walk prior left (next_of R (onward R w j)) (onward R w j) refl (going-onward prior w j q u) (omega (arith, placed-longer prior w j))

  -- Any two numbers that are enough give the same chain: what would stand at the end of them decides nothing.
  pub walk-enough : (prior : List ℕ) (a b : ℕ) (x : Next) (w : Underway C) → next_of R w ≡ x → Going prior w
      → R.count ≤ a + length (prior ++ placed w) → R.count ≤ b + length (prior ++ placed w) → walk R a x w ≡ walk R b x w
  unfolding walk
  walk-enough prior zero zero (ends e) w q u h k = refl
  walk-enough prior zero (suc b) (ends e) w q u h k = refl
  walk-enough prior (suc a) zero (ends e) w q u h k = refl
  walk-enough prior (suc a) (suc b) (ends e) w q u h k = refl
  walk-enough prior zero b (onto j) w q u h k = absurd (nothing_left prior w j q u (omega arith))
  walk-enough prior (suc a) zero (onto j) w q u h k = absurd (nothing_left prior w j q u (omega arith))
  walk-enough prior (suc a) (suc b) (onto j) w q u h k =
      walk-enough prior a b (next_of R (onward R w j)) (onward R w j) refl (going-onward prior w j q u) (omega (arith, placed-longer prior w j)) (omega (arith, placed-longer prior w j))

  -- ---- between two chains, after the turns of the slices below i

  pub record Kept (i : ℕ) (s : Stitched C) : Type 0 where
    pub tally : Tally R.count (order_of s.chains) s.visited
    pub passed : (k : ℕ) → k < i → get_or s.visited k false ≡ true
    pub lowest : All (λ c. LowestFirst (slices_of c)) s.chains
    pub ascending : Ascending (map first_slice s.chains)
    pub behind : All (λ j. j < i) (map first_slice s.chains)

  pub going-opened : (i : ℕ) (s : Stitched C) → i < R.count → get_or s.visited i false ≡ false → Kept i s → Going (order_of s.chains) (opened R s.visited i)
  unfolding opened
  going-opened i s h e k =
      record {
        tally = tally-one R.count (order_of s.chains) s.visited i k.tally h e;
        passed =
            λ m d. marks-more (set s.visited i true) i
            (λ n c. get_or-set_other s.visited i n true false (λ q. let z : n ≡ i = q in omega arith) ∙ k.passed n c)
            (get_or-set_same s.visited i true false (rw k.tally.size h)) m d;
        rest = [];
        begins = refl;
        above = tt;
      }

  pub gone-chain : (i : ℕ) (s : Stitched C) → i < R.count → get_or s.visited i false ≡ false → Kept i s → Gone (order_of s.chains) i (chain_from R s.visited i)
  unfolding chain_from opened
  gone-chain i s h e k =
      gone-walk (order_of s.chains) R.count (next_of R (opened R s.visited i)) (opened R s.visited i) refl (going-opened i s h e k) (omega arith)

  kept-added : (i : ℕ) (s : Stitched C) (t : Finished C) → Kept i s → Gone (order_of s.chains) i t → Kept (suc i) (added R s t)
  unfolding added order_of
  kept-added i s t k o =
      record {
        tally = rw flat-snoc o.tally;
        passed = o.passed;
        lowest = all_snoc (λ c. LowestFirst (slices_of c)) s.chains t.chain k.lowest o.lowest;
        ascending = rw (map-append first_slice s.chains (t.chain ∷ []), o.head) (ascending-snoc (map first_slice s.chains) i k.ascending k.behind);
        behind =
            rw (map-append first_slice s.chains (t.chain ∷ []), o.head)
            (all_snoc (λ j. j < suc i) (map first_slice s.chains) i (all-imp (λ j. j < i) (λ j. j < suc i) (λ j d. omega arith) (map first_slice s.chains) k.behind) (omega arith));
      }

  kept-begun : (i : ℕ) (s : Stitched C) (b : Bool) → get_or s.visited i false ≡ b → i < R.count → Kept i s → Kept (suc i) (begun R b i s)
  unfolding begun
  kept-begun i s true e h k =
      record {
        tally = k.tally;
        passed = λ m d. marks-more s.visited i k.passed e m d;
        lowest = k.lowest;
        ascending = k.ascending;
        behind = all-imp (λ j. j < i) (λ j. j < suc i) (λ j d. omega arith) (map first_slice s.chains) k.behind;
      }
  kept-begun i s false e h k = kept-added i s (chain_from R s.visited i) k (gone-chain i s h e k)

  -- After each turn all this holds.
  pub kept-turns : (i : ℕ) → i ≤ R.count → Kept i (turns R i)
  unfolding turns turn order_of flat_map
  kept-turns zero h =
      record { tally = tally-none R.count; passed = λ k d. absurd (not-suc-le-zero d); lowest = tt; ascending = tt; behind = tt }
  kept-turns (suc i) h = kept-begun i (turns R i) (get_or (turns R i).visited i false) refl (omega arith) (kept-turns i (omega arith))

  -- ---- demand 3

  -- For every weight, the chains' slices weigh as much as the numbers below n: they are those numbers, in some order.
  pub every-weight : (f : ℕ → ℕ) → sum_over f (order_of (run R)) ≡ sum_below f R.count
  unfolding run
  every-weight f =
      let k = kept-turns R.count (omega arith) in
      k.tally.weight f ∙ weighed-all f (turns R R.count).visited R.count k.passed

  -- with n = 0 there are no chains
  pub no-slices : R.count ≡ 0 → run R ≡ []
  unfolding run turns
  no-slices e = ap (λ (n : ℕ). (turns R n).chains) e

  pub same_length : (l : List (Chain C)) → length (order_of l) ≡ length (rounds_of l)
  unfolding order_of rounds_of slices_of flat_map
  same_length [] = refl
  same_length (c ∷ l) =
      omega (arith, length-append (slices_of c) (order_of l), length-append c.rounds (rounds_of l), length-map c.rounds (λ r. r.slice), same_length l)

  pub demand3 : Demand3 R
  unfolding run
  demand3 =
      let k = kept-turns R.count (omega arith) in
      record {
        rounds = omega (arith, same_length (run R), every-weight (λ j. 1), sum_ones (order_of (run R)), below-ones R.count);
        once = λ k h. every-weight (λ j. code_of (eqb k j)) ∙ below_in k R.count h;
        only = λ k h. every-weight (λ j. code_of (eqb k j)) ∙ below_out k R.count h;
        lowest = k.lowest;
        ascending = k.ascending;
      }
