-- Laws of the loop that writes the candidates, and of the call that clears the room behind them.
use Rattle.std.specs.Prelude.{Option}
use Prim.Native.Nat.{ℕ, suc, ◌+◌, ◌-◌, ◌*◌, ◌≤◌, ◌<◌, zero-le}
use mathlib.Core.Path.{◌≡◌, refl, sym, ap, ◌∙◌}
use mathlib.Core.List.{List, ◌++◌, flat_map}
use native.Mathlib.Nat.{mul-add}
use native.Mathlib.Numerals.{add-one}
use native.Mathlib.Omega.{arith}
use lib.ListN.{length, take, drop, replicate, length-append, length-drop, length-replicate}
use lib.Seq.{sets, sets-eq, length-sets, take_at, drop-append-add, drop-drop}
use Rattle.basis.specs.Number.{+0}
use Rattle.basis.specs.Room.{room_of, cleared, Stretch}
use Rattle.basis.specs.RoomLaws.{room-left}
use Rattle.candidate.specs.declared.at_cut.Candidate.{Candidate}
use Rattle.candidate.specs.Candidates.{Given, candidate_at, kept, candidates_to, candidates_of, numbers_of, shape_of, probe_of, cand_numbers, cand_shapes, probe_numbers}
use Rattle.candidate.specs.Ready.{Rooms, Ready, Written}
use Rattle.candidate.specs.Steps.{PutFit, Put, Items, ClearFit, Cleared}
use Rattle.candidate_write.specs.ItemLaws.{kept-few, Wide, wide-numbers, wide-shapes, wide-probes, flat-more, flat-length}

-- vs is stored behind xs
push : {A : Type 0} (xs vs r l : List A) (k : ℕ) → l ≡ xs ++ drop k r → length xs ≡ k → k + length vs ≤ length l → sets l k vs ≡ (xs ++ vs) ++ drop (k + length vs) r
push {A} xs vs r l k e h b =
    let t : take k l ≡ xs = ap (take k) e ∙ take_at xs (drop k r) k h in
    let d : drop (k + length vs) l ≡ drop (k + length vs) r =
    ap (drop (k + length vs)) e ∙ ap (λ (n : ℕ). drop (n + length vs) (xs ++ drop k r)) (sym h) ∙ drop-append-add xs (drop k r) (length vs) ∙ drop-drop (length vs) k r in
    sets-eq vs l k b ∙ ap (λ (q : List A). q ++ vs ++ drop (k + length vs) l) t ∙ ap (λ (q : List A). (xs ++ vs) ++ q) d

module _ {A : Type 0} (w : ℕ) (f : Option Candidate → List A) (wide : Wide w f) (g : Given) where
  -- a pass: the items of the first p places stand in front, and those of the next place are stored behind them
  items-turn : (p m m' : ℕ) (c : Option Candidate) (r l l' : List A) → c ≡ candidate_at g p → m ≡ length (candidates_to g p)
      → l ≡ flat_map f (candidates_to g p) ++ drop (w * m) r → w * m + w * length (kept c) ≤ length l
      → l' ≡ sets l (w * m) (f c) → m' ≡ m + length (kept c) → l' ≡ flat_map f (candidates_to g (suc p)) ++ drop (w * m') r
  items-turn p m m' c r l l' e n i b s k =
      let x : length (flat_map f (candidates_to g p)) ≡ w * m = flat-length w f wide g p ∙ ap (λ (a : ℕ). w * a) (sym n) in
      let y : w * m + length (f c) ≡ w * m' = rw (wide.sized c, ← mul-add w, k) in
      let z : w * m + length (f c) ≤ length l = rw (wide.sized c) b in
      s ∙ push (flat_map f (candidates_to g p)) (f c) r l (w * m) i x z ∙ rw (y, e, flat-more w f wide g p)

-- ---- the loop: the candidates of the first p places are written
pub record Upto (g : Given) (l : Rooms) (m : ℕ) (l' : Rooms) (p : ℕ) : Type 0 where
  pub ready : Ready g l
  pub ahead : p ≤ g.count
  pub counted : m ≡ length (candidates_to g p)
  pub few : m ≤ p
  pub at : l'.at ≡ flat_map numbers_of (candidates_to g p) ++ drop (2 * m) l.at
  pub cand : l'.cand ≡ flat_map shape_of (candidates_to g p) ++ drop (6 * m) l.cand
  pub probe : l'.probe ≡ flat_map probe_of (candidates_to g p) ++ drop (6 * m) l.probe
  pub size-at : length l'.at ≡ length l.at
  pub size-cand : length l'.cand ≡ length l.cand
  pub size-probe : length l'.probe ≡ length l.probe

module _ (g : Given) (l : Rooms) where
  pub upto-none : Ready g l → Upto g l 0 l 0
  unfolding candidates_to flat_map
  upto-none r =
      record { ready = r; ahead = zero-le; counted = refl; few = zero-le; at = refl; cand = refl; probe = refl; size-at = refl; size-cand = refl; size-probe = refl }

  pub upto-fit : (m : ℕ) (l' : Rooms) (p : ℕ) → Upto g l m l' p → p < g.count → PutFit l' m
  upto-fit m l' p u h = let few = u.ready.sound.few in let r = u.ready.roomy in record { low = omega arith; at = omega arith; cand = omega arith; probe = omega arith }

  pub upto_turn : (m m' : ℕ) (l' l'' : Rooms) (p : ℕ) (d : Option Candidate) → Upto g l m l' p → p < g.count → d ≡ candidate_at g p → Put d m l' m' l'' → Upto g l m' l'' (p + 1)
  upto_turn m m' l' l'' p d u h is wrote =
      let r = u.ready.roomy in
      let c : Option Candidate = candidate_at g p in
      let put : Put c m l' m' l'' = rw is at wrote in
      let one : length (kept c) ≤ 1 = kept-few c in
      let n : length (candidates_to g (p + 1)) ≡ length (candidates_to g p) + length (kept (candidate_at g p)) =
      rw add-one (unfold candidates_to in length-append (candidates_to g p) (kept (candidate_at g p))) in
      record {
        ready = u.ready;
        ahead = omega arith;
        counted = rw (n, ← u.counted) put.counted;
        few = omega (arith, put.counted);
        at = rw add-one (items-turn 2 numbers_of wide-numbers g p m m' c l.at l'.at l''.at refl u.counted u.at (omega (arith, u.size-at, r.at, u.few)) put.at put.counted);
        cand = rw add-one (items-turn 6 shape_of wide-shapes g p m m' c l.cand l'.cand l''.cand refl u.counted u.cand (omega (arith, u.size-cand, r.cand, u.few)) put.cand put.counted);
        probe = rw add-one (items-turn 6 probe_of wide-probes g p m m' c l.probe l'.probe l''.probe refl u.counted u.probe (omega (arith, u.size-probe, r.probe, u.few)) put.probe put.counted);
        size-at = ap length put.at ∙ length-sets l'.at (2 * m) (numbers_of c) ∙ u.size-at;
        size-cand = ap length put.cand ∙ length-sets l'.cand (6 * m) (shape_of c) ∙ u.size-cand;
        size-probe = ap length put.probe ∙ length-sets l'.probe (6 * m) (probe_of c) ∙ u.size-probe;
      }

  pub upto-end : (m : ℕ) (l' : Rooms) (p : ℕ) → Upto g l m l' p → g.count ≤ p → Items g l m l'
  unfolding candidates_of
  upto-end m l' p u h =
      let e : p ≡ g.count = omega arith in
      record { counted = rw e at u.counted; few = omega arith; at = rw e at u.at; cand = rw e at u.cand; probe = rw e at u.probe }

pub ruleset uptos = (upto-none, upto-fit, upto_turn, upto-end)

-- ---- the whole call

-- behind the items there is room to be cleared
pub rest-fit : (g : Given) (l l' : Rooms) (m need : ℕ) → need ≡ g.count → Ready g l → Items g l m l' → ClearFit l' m need
unfolding candidates_of
rest-fit g l l' m need all ready i =
    let r = ready.roomy in
    let a : length l'.at ≡ length (cand_numbers g) + (length l.at - 2 * m) = ap length i.at ∙ length-append (cand_numbers g) (drop (2 * m) l.at) ∙ rw (length-drop (2 * m) l.at) in
    let b : length l'.cand ≡ length (cand_shapes g) + (length l.cand - 6 * m) = ap length i.cand ∙ length-append (cand_shapes g) (drop (6 * m) l.cand) ∙ rw (length-drop (6 * m) l.cand) in
    let c : length l'.probe ≡ length (probe_numbers g) + (length l.probe - 6 * m) = ap length i.probe ∙ length-append (probe_numbers g) (drop (6 * m) l.probe) ∙ rw (length-drop (6 * m) l.probe) in
    let x = flat-length 2 numbers_of wide-numbers g g.count in
    let y = flat-length 6 shape_of wide-shapes g g.count in
    let z = flat-length 6 probe_of wide-probes g g.count in
    rw all (record {
      within = i.few;
      roomy =
          record {
            at = omega (arith, a, x, i.counted, i.few, r.at);
            cand = omega (arith, b, y, i.counted, i.few, r.cand);
            probe = omega (arith, c, z, i.counted, i.few, r.probe);
          };
    })

-- the items, then what was cleared behind them
pub written_of : (g : Given) (l l' l'' : Rooms) (m need : ℕ) → need ≡ g.count → Items g l m l' → Cleared l' m need l'' → Written g l m l''
unfolding candidates_of
written_of g l l' l'' m need all i cleared_rest =
    let z : Cleared l' m g.count l'' = rw all at cleared_rest in
    record {
      counted = i.counted;
      at = room-left 0 2 g.count (cand_numbers g) l.at l'.at l''.at (2 * m) (2 * g.count) z.at i.at (rw i.counted (sym (flat-length 2 numbers_of wide-numbers g g.count))) refl (omega (arith, i.few));
      cand = room-left +0 6 g.count (cand_shapes g) l.cand l'.cand l''.cand (6 * m) (6 * g.count) z.cand i.cand (rw i.counted (sym (flat-length 6 shape_of wide-shapes g g.count))) refl (omega (arith, i.few));
      probe = room-left +0 6 g.count (probe_numbers g) l.probe l'.probe l''.probe (6 * m) (6 * g.count) z.probe i.probe (rw i.counted (sym (flat-length 6 probe_of wide-probes g g.count))) refl (omega (arith, i.few));
    }

-- one edition throughout, in front
fill-front : (l l₁ : List ℕ) (m edition : ℕ) → l₁ ≡ cleared edition 0 m l → l₁ ≡ replicate m edition ++ drop m l
unfolding cleared
fill-front l l₁ m edition p = let e : m - 0 ≡ m = omega arith in p ∙ ap (λ (k : ℕ). replicate k edition ++ drop m l) e

module _ (l l₁ : List ℕ) (m need edition : ℕ) (h : Stretch l m need) (p : l₁ ≡ cleared edition 0 m l) where
  pub editions-front : Stretch l₁ m need
  editions-front =
      let n = ap length (fill-front l l₁ m edition p) ∙ length-append (replicate m edition) (drop m l) in
      record { ordered = h.ordered; inside = omega (arith, h.inside, h.ordered, n, length-replicate m edition, length-drop m l) }

  pub editions-written : (l₂ : List ℕ) → l₂ ≡ cleared 0 m need l₁ → l₂ ≡ room_of 0 1 need (replicate m edition) l
  editions-written l₂ q =
      room-left 0 1 need (replicate m edition) l l₁ l₂ m need q (fill-front l l₁ m edition p) (sym (length-replicate m edition)) (omega arith) h.ordered

pub ruleset wholes = (rest-fit, written_of, editions-front, editions-written)
