-- The room that a run needs at each moment of it. The rules may be any by which a chain grows by no more than the weight of the slice that is joined.
use Prim.Native.Nat.{ℕ, zero, suc, ◌+◌, ◌-◌, ◌≤◌, ◌<◌}
use Rattle.std.specs.Prelude.{Bool, ◌≡◌, length}
use Rattle.std.proofs.Math.Bool.{true, false}
use Rattle.std.proofs.Math.Path.{refl, ap, subst}
use Rattle.std.proofs.Common.{sym, ◌∙◌}
use mathlib.Core.List.{List, [], ◌∷◌, ◌++◌, flat_map}
use native.Mathlib.Omega.{arith}
use Rattle.std.proofs.Math.ListN.{get_or}
use Rattle.basis.specs.All.{All, all_snoc}
use Rattle.stitch_run.specs.Run.{Rules, Ending, closed, too_small, no_candidate, no_selection, Next, onto, ends, Chain, Underway, Finished, Stitched}
use Rattle.stitch_run.specs.Run.{next_of, round_of, opened, onward, ended, walk, chain_from, added, begun, turn, turns, run, slices_of, order_of}
use Rattle.stitch_run.specs.Stitch.{sum_below, need_for}
use Rattle.stitch_run.specs.Demand3.{finished, sum_over, first_slice, reach, leaves, Moment, Within, Enough}
use Rattle.stitch_run.specs.SumLaws.{sum-append}
use Rattle.basis.specs.FlatLaws.{flat-snoc}
use Rattle.stitch_run.specs.TallyLaws.{Tally, tally-weight}
use Rattle.stitch_run.specs.RunLaws.{nothing_left, Among, placed, placed-onward, placed-longer, Going, going-onward, going-opened, ended-slices, gone-chain, Kept, kept-turns, no-slices}

-- what a slice's weight f says of the rules
pub record Grows {C : Type 0} (R : Rules C) (size : C → ℕ) (f : ℕ → ℕ) : Type 0 where
  pub begin-some : (i : ℕ) → 1 ≤ size (R.begin i)
  pub begin-most : (i : ℕ) → size (R.begin i) ≤ f i + 1
  pub join-some : (b : C) (j : ℕ) → 1 ≤ size (R.join b j)
  pub join-most : (b : C) (j : ℕ) → 1 ≤ size b → size (R.join b j) ≤ size b + f j

leaves-most : (e : Ending) (m : ℕ) → leaves e m ≤ m - 1
leaves-most closed m = omega arith
leaves-most too_small m = omega arith
leaves-most no_candidate m = omega arith
leaves-most no_selection m = omega arith

-- one chain more
enough-snoc : {C : Type 0} (size : C → ℕ) (f : ℕ → ℕ) (room m : ℕ) (l : List (Chain C)) (c : Chain C)
    → Enough size f room m l → Within size f room (m + finished size l) c → m + finished size l + leaves c.ending (size c.built) ≤ room
    → Enough size f room m (l ++ (c ∷ []))
enough-snoc size f room m [] c h w k =
    let e : m + 0 ≡ m = omega arith in
    (subst (λ (n : ℕ). Within size f room n c) e w, omega arith)
enough-snoc size f room m (b ∷ l) c h w k =
    let first = leaves b.ending (size b.built) in
    let e : m + (first + finished size l) ≡ m + first + finished size l = omega arith in
    (h.0, enough-snoc size f room (m + first) l c h.1 (subst (λ (n : ℕ). Within size f room n c) e w) (omega arith))

-- where the room was enough all along, the finished loops are within it
pub enough-end : {C : Type 0} (size : C → ℕ) (f : ℕ → ℕ) (room m : ℕ) (l : List (Chain C)) → Enough size f room m l → m + finished size l ≤ room
enough-end size f room m [] h = omega arith
enough-end size f room m (c ∷ l) h = omega (arith, enough-end size f room (m + leaves c.ending (size c.built)) l h.1)

module _ {C : Type 0} (R : Rules C) (among : Among R) (size : C → ℕ) (f : ℕ → ℕ) (grows : Grows R size f) where
  -- the need where there is a slice
  abbrev pub most : ℕ
  most = 1 + sum_below f R.count

  placed-most : (order : List ℕ) (visited : List Bool) → Tally R.count order visited → sum_over f order + 1 ≤ most
  placed-most order visited t = omega (arith, tally-weight R.count order visited f t)

  -- ---- a chain under way, behind the `base` vertices of the finished loops

  pub record Roomy (base : ℕ) (prior : List ℕ) (w : Underway C) : Type 0 where
    pub some : 1 ≤ size w.built
    pub few : base + size w.built ≤ sum_over f (prior ++ placed w) + 1
    pub begins : base + (f w.first + 1) ≤ most
    pub past : All (Moment size f most base) w.past

  placed-sum : (prior : List ℕ) (w : Underway C) (j : ℕ) → sum_over f (prior ++ placed (onward R w j)) ≡ sum_over f (prior ++ placed w) + f j
  placed-sum prior w j =
      omega (
        arith,
        sum-append f prior (placed w),
        sum-append f prior (placed (onward R w j)),
        ap (sum_over f) (placed-onward R among w j),
        sum-append f (placed w) (j ∷ []),
      )

  -- What a round may bring the chain to is within the room: where a slice is joined, its whole weight.
  pub round-fits : (base : ℕ) (prior : List ℕ) (w : Underway C) (x : Next) → next_of R w ≡ x → Going R among prior w → Roomy base prior w
      → base + reach f x (size w.built) ≤ most
  round-fits base prior w (onto j) q u y =
      omega (arith, y.few, placed-sum prior w j, placed-most _ _ (going-onward R among prior w j q u).tally)
  round-fits base prior w (ends e) q u y = omega (arith, y.few, placed-most _ _ u.tally)

  all-rounds : (base : ℕ) (prior : List ℕ) (w : Underway C) → Going R among prior w → Roomy base prior w → All (Moment size f most base) (w.past ++ (round_of R w ∷ []))
  unfolding round_of
  all-rounds base prior w u y =
      all_snoc (Moment size f most base) w.past (round_of R w) y.past (record { some = y.some; fits = round-fits base prior w (next_of R w) refl u y })

  pub roomy-onward : (base : ℕ) (prior : List ℕ) (w : Underway C) (j : ℕ) → Going R among prior w → Roomy base prior w → Roomy base prior (onward R w j)
  unfolding onward
  roomy-onward base prior w j u y =
      record {
        some = grows.join-some w.built j;
        few = omega (arith, grows.join-most w.built j y.some, y.few, placed-sum prior w j);
        begins = y.begins;
        past = all-rounds base prior w u y;
      }

  -- ---- a chain at its end

  pub record Filled (base : ℕ) (prior : List ℕ) (t : Finished C) : Type 0 where
    pub within : Within size f most base t.chain
    pub few : base + leaves t.chain.ending (size t.chain.built) ≤ sum_over f (prior ++ slices_of t.chain)

  filled-ended : (base : ℕ) (prior : List ℕ) (w : Underway C) (e : Ending) → Going R among prior w → Roomy base prior w → Filled base prior (ended R w e)
  unfolding ended
  filled-ended base prior w e u y =
      let l = ended-slices R among w e in
      let h : first_slice (ended R w e).chain ≡ w.first = ap (λ (m : List ℕ). get_or m 0 0) (l ∙ u.begins) in
      record {
        within = record { begins = rw h y.begins; rounds = all-rounds base prior w u y };
        few = rw l (omega (arith, y.few, y.some, leaves-most e (size w.built)));
      }

  filled-walk : (base : ℕ) (prior : List ℕ) (left : ℕ) (x : Next) (w : Underway C) → next_of R w ≡ x → Going R among prior w → Roomy base prior w
      → R.count ≤ left + length (prior ++ placed w) → Filled base prior (walk R left x w)
  unfolding walk
  filled-walk base prior zero (ends e) w q u y h = filled-ended base prior w e u y
  filled-walk base prior (suc left) (ends e) w q u y h = filled-ended base prior w e u y
  filled-walk base prior zero (onto j) w q u y h = absurd (nothing_left R among prior w j q u (omega arith))
  filled-walk base prior (suc left) (onto j) w q u y h =
      filled-walk base prior left (next_of R (onward R w j)) (onward R w j) refl (going-onward R among prior w j q u) (roomy-onward base prior w j u y)
      (omega (arith, placed-longer R among prior w j))

  -- ---- between two chains

  pub record Held (s : Stitched C) : Type 0 where
    pub enough : Enough size f most 0 s.chains
    pub few : finished size s.chains ≤ sum_over f (order_of s.chains)

  pub roomy-opened : (i : ℕ) (s : Stitched C) → i < R.count → get_or s.visited i false ≡ false → Kept R among i s → Held s
      → Roomy (finished size s.chains) (order_of s.chains) (opened R s.visited i)
  unfolding opened
  roomy-opened i s d e k h =
      let a = sum-append f (order_of s.chains) (i ∷ []) in
      let u = placed-most _ _ (going-opened R among i s d e k).tally in
      record { some = grows.begin-some i; few = omega (arith, grows.begin-most i, h.few); begins = omega (arith, h.few); past = tt }

  held-added : (s : Stitched C) (t : Finished C) → sum_over f (order_of s.chains ++ slices_of t.chain) + 1 ≤ most
      → Held s → Filled (finished size s.chains) (order_of s.chains) t → Held (added R s t)
  unfolding added order_of
  held-added s t k h y =
      let e : 0 + finished size s.chains ≡ finished size s.chains = omega arith in
      record {
        enough =
            enough-snoc size f most 0 s.chains t.chain h.enough (subst (λ (n : ℕ). Within size f most n t.chain) (sym e) y.within)
            (omega (arith, y.few));
        few = rw flat-snoc (omega (arith, y.few, sum-append (λ c. leaves c.ending (size c.built)) s.chains (t.chain ∷ [])));
      }

  held-begun : (i : ℕ) (s : Stitched C) (b : Bool) → get_or s.visited i false ≡ b → i < R.count → Kept R among i s → Held s → Held (begun R b i s)
  unfolding begun chain_from
  held-begun i s true e d k h = h
  held-begun i s false e d k h =
      let w = opened R s.visited i in
      held-added s (chain_from R s.visited i) (placed-most _ _ (gone-chain R among i s d e k).tally) h
      (filled-walk (finished size s.chains) (order_of s.chains) R.count (next_of R w) w refl (going-opened R among i s d e k) (roomy-opened i s d e k h) (omega arith))

  -- After each turn the room was enough at every moment.
  pub held-turns : (i : ℕ) → i ≤ R.count → Held (turns R i)
  unfolding turns turn order_of flat_map
  held-turns zero h = record { enough = omega arith; few = omega arith }
  held-turns (suc i) h =
      held-begun i (turns R i) (get_or (turns R i).visited i false) refl (omega arith) (kept-turns R among i (omega arith)) (held-turns i (omega arith))

  -- Room for one vertex more than the sum is enough at every moment, and none is needed where there are no slices.
  pub enough : Enough size f (need_for f R.count) 0 (run R)
  unfolding run need_for
  enough = go R.count refl
    where
      go : (n : ℕ) → R.count ≡ n → Enough size f (need_for f n) 0 (run R)
      go zero e = subst (λ (l : List (Chain C)). Enough size f 0 0 l) (sym (no-slices R among e)) (omega arith)
      go (suc n) e = subst (λ (m : ℕ). Enough size f (1 + sum_below f m) 0 (run R)) e (held-turns R.count (omega arith)).enough
