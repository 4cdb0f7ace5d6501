-- Every slice that a round of a closed chain chose was offered to what the chain had built. Over any rules whose selector answers among the candidates.
use Prim.Native.Nat.{ℕ, zero, suc, ◌<◌, ◌≤◌}
use Rattle.std.specs.Prelude.{Bool, cond, eqb, Option, Some, None}
use Rattle.std.proofs.Math.Bool.{true, false}
use Rattle.std.proofs.Math.Path.{◌≡◌, refl, ap, subst}
use Rattle.std.proofs.Common.{sym, ◌∙◌, arith, eqb-true}
use mathlib.Core.List.{List, [], ◌∷◌, ◌++◌, Memᴰ}
use Rattle.std.proofs.Math.ListN.{get_or}
use Rattle.basis.specs.Choice.{and_right}
use Rattle.basis.specs.All.{All, all_snoc}
use Rattle.stitch_run.specs.Run.{Rules, Ending, closed, too_small, no_candidate, no_selection, Next, onto, ends, Round, Chain, Underway, Stitched}
use Rattle.stitch_run.specs.Run.{free, candidate, candidates_of, taken, answered, asked, next_of, round_of, opened, onward, ended, walk, chain_from, added, begun, turn, turns, run, order_of}
use Rattle.stitch_run.specs.Demand3.{first_slice}
use Rattle.stitch_run.specs.TallyLaws.{passing-mem}
use Rattle.stitch_run.specs.RunLaws.{Among, Going, Kept, going-opened, going-onward, ended-slices, kept-turns}
use Rattle.join.specs.Join.{AtJoins}

-- ---- the joins of a chain

module _ {C : Type 0} where
  -- one round more: the last one chose its slice
  pub joins-snoc : (P : C → ℕ → Type 0) (l : List (Round C)) (r : Round C) (j : ℕ) → AtJoins P r.slice l → P r.built j → AtJoins P j (l ++ (r ∷ []))
  joins-snoc P [] r j h p = p
  joins-snoc P (q ∷ []) r j h p = (h, p)
  joins-snoc P (q ∷ s ∷ l) r j h p = (h.0, joins-snoc P (s ∷ l) r j h.1 p)

  pub joins-imp : (P Q : C → ℕ → Type 0) → ((b : C) (j : ℕ) → P b j → Q b j) → (first : ℕ) (l : List (Round C)) → AtJoins P first l → AtJoins Q first l
  joins-imp P Q f first [] h = tt
  joins-imp P Q f first (r ∷ []) h = f r.built first h
  joins-imp P Q f first (r ∷ s ∷ l) h = (f r.built s.slice h.0, joins-imp P Q f first (s ∷ l) h.1)

  -- the same of a chain, where it is closed
  abbrev pub ClosedJoins : (C → ℕ → Type 0) → Chain C → Type 0
  ClosedJoins P c = c.ending ≡ closed → AtJoins P (first_slice c) c.rounds

  -- what was built, with a property Q, and a slice that was offered to it
  pub record Taken (R : Rules C) (Q : C → Type 0) (b : C) (j : ℕ) : Type 0 where
    pub kept : Q b
    pub slice : j < R.count
    pub offer : R.offers b j ≡ true

-- ---- a round

-- slice j is what a round chose: it is joined, or it is the chain's first slice and closes the chain
abbrev Chose : ℕ → Next → ℕ → Type 0
Chose first (onto k) j = k ≡ j
Chose first (ends e) j = (e ≡ closed) × (first ≡ j)

module _ {C : Type 0} (R : Rules C) (among : Among R) where
  -- the slice was selected, so it is a candidate
  by-taken : (first k j : ℕ) (b t : Bool) → eqb k first ≡ b → Chose first (cond b (ends (cond t too_small closed)) (onto k)) j → k ≡ j
  by-taken first k j true t e q = eqb-true k first e ∙ q.1
  by-taken first k j false t e q = q

  by-answered : (w : Underway C) (j : ℕ) (s : Option ℕ) → Chose w.first (answered R w.first w.built s) j → s ≡ Some j
  unfolding answered taken
  by-answered w j None q = absurd (let e : no_selection ≡ closed = q.0 in let z : ◌≡◌ {A = ℕ} 0 1 = cc in omega arith)
  by-answered w j (Some k) q = ap Some (by-taken w.first k j (eqb k w.first) (R.tiny w.built) refl q)

  by-asked : (w : Underway C) (j : ℕ) (l : List ℕ) → Chose w.first (asked R w.first w.current w.built l) j → Memᴰ j l
  unfolding asked
  by-asked w j [] q = absurd (let e : no_candidate ≡ closed = q.0 in let z : ◌≡◌ {A = ℕ} 0 1 = cc in omega arith)
  by-asked w j (c ∷ cs) q = among _ _ j (by-answered w j (R.select w.current (c ∷ cs)) q)

  -- so it is a slice, and was offered
  chosen : (w : Underway C) (x : Next) (j : ℕ) → next_of R w ≡ x → Chose w.first x j → (j < R.count) × (R.offers w.built j ≡ true)
  unfolding next_of candidates_of candidate
  chosen w x j e q =
      let m = by-asked w j (candidates_of R w.visited w.first w.built) (subst (λ (n : Next). Chose w.first n j) (sym e) q) in
      let p = passing-mem (candidate R w.visited w.first w.built) R.count j m in
      (p.1, and_right (free w.visited w.first j) (R.offers w.built j) p.0)

  -- ---- a chain under way, with a property Q of what is built, which every slice that is joined keeps

  module _ (Q : C → Type 0) (begins : (i : ℕ) → i < R.count → Q (R.begin i)) (keeps : (b : C) (j : ℕ) → j < R.count → Q b → Q (R.join b j)) where
    abbrev Took : C → ℕ → Type 0
    Took = Taken R Q

    -- each round so far chose the slice of the next, and the last one the current slice
    record Past (w : Underway C) : Type 0 where
      built : Q w.built
      joins : AtJoins Took w.current w.past

    took : (w : Underway C) (x : Next) (j : ℕ) → next_of R w ≡ x → Chose w.first x j → Past w → Took w.built j
    took w x j e q p = let c = chosen w x j e q in record { kept = p.built; slice = c.0; offer = c.1 }

    past-onward : (w : Underway C) (j : ℕ) → next_of R w ≡ onto j → Past w → Past (onward R w j)
    unfolding onward round_of
    past-onward w j e p =
        let t = took w (onto j) j e refl p in
        record { built = keeps w.built j t.slice p.built; joins = joins-snoc Took w.past (round_of R w) j p.joins t }

    past-ended : (prior : List ℕ) (w : Underway C) (e : Ending) → next_of R w ≡ ends e → Going R among prior w → Past w → ClosedJoins Took (ended R w e).chain
    unfolding ended round_of
    past-ended prior w e q g p c =
        let f : first_slice (ended R w e).chain ≡ w.first = ap (λ (l : List ℕ). get_or l 0 0) (ended-slices R among w e ∙ g.begins) in
        subst (λ (j : ℕ). AtJoins Took j (w.past ++ (round_of R w ∷ []))) (sym f)
        (joins-snoc Took w.past (round_of R w) w.first p.joins (took w (ends e) w.first q (c, refl) p))

    past-walk : (prior : List ℕ) (left : ℕ) (x : Next) (w : Underway C) → next_of R w ≡ x → Going R among prior w → Past w → ClosedJoins Took (walk R left x w).chain
    unfolding walk ended
    past-walk prior zero (ends e) w q g p c = past-ended prior w e q g p c
    past-walk prior zero (onto j) w q g p c = absurd (let z : ◌≡◌ {A = ℕ} 0 1 = cc in omega arith)
    past-walk prior (suc left) (ends e) w q g p c = past-ended prior w e q g p c
    past-walk prior (suc left) (onto j) w q g p c =
        past-walk prior left (next_of R (onward R w j)) (onward R w j) refl (going-onward R among prior w j q g) (past-onward w j q p) c

    -- ---- all chains

    joins-begun : (i : ℕ) (s : Stitched C) (b : Bool) → get_or s.visited i false ≡ b → i < R.count → Kept R among i s → All (ClosedJoins Took) s.chains → All (ClosedJoins Took) (begun R b i s).chains
    unfolding begun added chain_from opened
    joins-begun i s true e h k a = a
    joins-begun i s false e h k a =
        let w = opened R s.visited i in
        all_snoc (ClosedJoins Took) s.chains (chain_from R s.visited i).chain a
        (past-walk (order_of s.chains) R.count (next_of R w) w refl (going-opened R among i s h e k) (record { built = begins i h; joins = tt }))

    joins-turns : (i : ℕ) → i ≤ R.count → All (ClosedJoins Took) (turns R i).chains
    unfolding turns turn
    joins-turns zero h = tt
    joins-turns (suc i) h =
        joins-begun i (turns R i) (get_or (turns R i).visited i false) refl (omega arith) (kept-turns R among i (omega arith)) (joins-turns i (omega arith))

    -- Every slice that a round of a closed chain chose was offered to what the chain had built.
    pub run-joins : All (ClosedJoins (Taken R Q)) (run R)
    unfolding run
    run-joins = joins-turns R.count (omega arith)
