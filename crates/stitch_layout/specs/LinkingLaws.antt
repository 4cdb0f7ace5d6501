-- The invariant of the lists, while slices are put on.
use Prim.Native.Nat.{ℕ, suc, ◌+◌, ◌-◌, ◌≤◌, ◌<◌}
use native.Mathlib.Omega.{arith}
use Rattle.std.proofs.Math.Decide.{dec_lt, ℕ_discrete}
use Rattle.std.specs.Prelude.{Bool, cond, List, ◌≡◌, ltb, length, get_or, set}
use Rattle.std.proofs.Common.{true≢false, sym, ap, ◌∙◌, subst, length-set, get_or-set_same, get_or-set_other, lt-ltb, le-ltb}
use Rattle.stitch_layout.specs.declared.layout.Query.{Query}
use Rattle.stitch_layout.specs.Links.{Next, Run, place_of, Linked, Linking, ever_free}

-- ---- slices are put on, from the last to the first
module _ (L : ℕ → ℕ) (meets : Query → ℕ → Bool) (lists n : ℕ) where
  -- a run of one slice
  pub run_alone : (i : ℕ) → i < n → Run L meets lists n i (lists + i)
  run_alone i h =
      let z : lists + i - lists ≡ i = omega arith in
      record { higher = omega arith; inside = omega arith; mine = ap L z; alike = λ q k a b c. (let y : k ≡ i = omega arith in ap (meets q) y) }

  -- a slice in front of a run whose first one meets what it meets
  pub run_more : (i next x : ℕ) → Next ever_free L lists n (L i) (suc i) next → next < lists + n → ((q : Query) → meets q (next - lists) ≡ meets q i) → Run L meets lists n (next - lists) x → Run L meets lists n i x
  run_more i next x t l e r =
      record {
        higher = omega (arith, t.higher, r.higher);
        inside = r.inside;
        mine = r.mine ∙ t.mine l;
        alike = λ q k a b c. go q k a b c (ℕ_discrete k i) (dec_lt (lists + k) next);
      }
    where
      go : (q : Query) (k : ℕ) → i ≤ k → lists + k ≤ x → L k ≡ L i → Dec (k ≡ i) → Dec (lists + k < next) → meets q k ≡ meets q i
      go q k a b c (yes u) v = ap (meets q) u
      go q k a b c (no u) (yes v) = absurd (true≢false (t.passed k (omega arith) (omega arith) v c))
      go q k a b c (no u) (no v) = r.alike q k (omega arith) b (c ∙ sym (t.mine l)) ∙ e q

  pub linking-none : (link : List ℕ) → lists + n + n ≤ length link → ((h : ℕ) → h < lists → lists + n ≤ get_or link h 0) → Linking L meets lists n n link
  linking-none link s e =
      record {
        size = s;
        heads = λ h l. record { higher = e h l; mine = λ x. absurd (let g = e h l in omega arith); passed = λ j a b c d. absurd (omega arith) };
        tails = λ k a b. absurd (omega arith);
        runs = λ k a b. absurd (omega arith);
      }

  module _ (link : List ℕ) (i h last : ℕ) (t : Linking L meets lists n (suc i) link) (e : h ≡ L i) (k : h < lists) (l : i < n) (r : Run L meets lists n i last) where
    abbrev hung : List ℕ
    hung = set (set link (lists + i) (get_or link h 0)) h (lists + i)

    abbrev put : List ℕ
    put = set hung (lists + i + n) last

    hung-size : length hung ≡ length link
    hung-size = length-set (set link (lists + i) (get_or link h 0)) h (lists + i) ∙ length-set link (lists + i) (get_or link h 0)

    put-size : length put ≡ length link
    put-size = length-set hung (lists + i + n) last ∙ hung-size

    put-head : get_or put h 0 ≡ lists + i
    put-head =
        get_or-set_other hung (lists + i + n) h last 0 (λ q. omega arith)
        ∙ get_or-set_same (set link (lists + i) (get_or link h 0)) h (lists + i) 0 (let s = t.size in let q = length-set link (lists + i) (get_or link h 0) in omega arith)

    put-tail : get_or put (lists + i) 0 ≡ get_or link h 0
    put-tail =
        get_or-set_other hung (lists + i + n) (lists + i) last 0 (λ q. omega arith)
        ∙ get_or-set_other (set link (lists + i) (get_or link h 0)) h (lists + i) (lists + i) 0 (λ q. omega arith)
        ∙ get_or-set_same link (lists + i) (get_or link h 0) 0 (let s = t.size in omega arith)

    put-run : get_or put (lists + i + n) 0 ≡ last
    put-run = get_or-set_same hung (lists + i + n) last 0 (let s = t.size in let q = hung-size in omega arith)

    put-else : (a : ℕ) → (a ≡ h → ⊥) → (a ≡ lists + i → ⊥) → (a ≡ lists + i + n → ⊥) → get_or put a 0 ≡ get_or link a 0
    put-else a p q s =
        get_or-set_other hung (lists + i + n) a last 0 s
        ∙ get_or-set_other (set link (lists + i) (get_or link h 0)) h a (lists + i) 0 p
        ∙ get_or-set_other link (lists + i) a (get_or link h 0) 0 q

    heads-put : (h' : ℕ) → h' < lists → Next ever_free L lists n h' i (get_or put h' 0)
    heads-put h' m = go (ℕ_discrete h' h)
      where
        go : Dec (h' ≡ h) → Next ever_free L lists n h' i (get_or put h' 0)
        go (yes q) =
            subst (λ (x : ℕ). Next ever_free L lists n h' i x) (sym (ap (λ (a : ℕ). get_or put a 0) q ∙ put-head))
            (record {
              higher = omega arith;
              mine = λ x. (let z : lists + i - lists ≡ i = omega arith in ap L z ∙ sym e ∙ sym q);
              passed = λ j a b c d. absurd (omega arith);
            })
        go (no q) =
            let o = t.heads h' m in
            subst (λ (x : ℕ). Next ever_free L lists n h' i x) (sym (put-else h' q (λ u. omega arith) (λ u. omega arith)))
            (record {
              higher = omega (arith, o.higher);
              mine = o.mine;
              passed = λ j a b c d. o.passed j (higher-than j a d) b c d;
            })
          where
            higher-than : (j : ℕ) → i ≤ j → L j ≡ h' → suc i ≤ j
            higher-than j a d = let z : j ≡ i → ⊥ = λ u. q (sym d ∙ ap L u ∙ sym e) in omega arith

    tails-put : (m : ℕ) → i ≤ m → m < n → Next ever_free L lists n (L m) (suc m) (get_or put (lists + m) 0)
    tails-put m a b = go (ℕ_discrete m i)
      where
        go : Dec (m ≡ i) → Next ever_free L lists n (L m) (suc m) (get_or put (lists + m) 0)
        go (yes q) =
            subst (λ (z : ℕ). Next ever_free L lists n (L z) (suc z) (get_or put (lists + z) 0)) (sym q)
            (subst (λ (x : ℕ). Next ever_free L lists n (L i) (suc i) x) (sym put-tail) (subst (λ (z : ℕ). Next ever_free L lists n z (suc i) (get_or link h 0)) e (t.heads h k)))
        go (no q) =
            subst (λ (x : ℕ). Next ever_free L lists n (L m) (suc m) x) (sym (put-else (lists + m) (λ u. omega arith) (λ u. q (omega arith)) (λ u. omega arith))) (t.tails m (omega arith) b)

    runs-put : (m : ℕ) → i ≤ m → m < n → Run L meets lists n m (get_or put (lists + m + n) 0)
    runs-put m a b = go (ℕ_discrete m i)
      where
        go : Dec (m ≡ i) → Run L meets lists n m (get_or put (lists + m + n) 0)
        go (yes q) = subst (λ (z : ℕ). Run L meets lists n z (get_or put (lists + z + n) 0)) (sym q) (subst (λ (x : ℕ). Run L meets lists n i x) (sym put-run) r)
        go (no q) =
            subst (λ (x : ℕ). Run L meets lists n m x) (sym (put-else (lists + m + n) (λ u. omega arith) (λ u. omega arith) (λ u. q (omega arith)))) (t.runs m (omega arith) b)

    put_on : Linking L meets lists n i put
    put_on = record { size = omega (arith, t.size, put-size); heads = heads-put; tails = tails-put; runs = runs-put }

  -- as the loop asks it, which counts down
  pub linking-more : (link : List ℕ) (i h last : ℕ) → 0 < i → i ≤ n → Linking L meets lists n i link → h ≡ L (i - 1) → h < lists → Run L meets lists n (i - 1) last
      → Linking L meets lists n (i - 1) (set (set (set link (lists + (i - 1)) (get_or link h 0)) h (lists + (i - 1))) (lists + (i - 1) + n) last)
  linking-more link i h last p q t e k r = let z : i ≡ suc (i - 1) = omega arith in put_on link (i - 1) h last (rw z at t) e k (omega arith) r

  pub linking-end : (link : List ℕ) → Linking L meets lists n 0 link → Linked ever_free L meets lists n link
  unfolding place_of
  linking-end link t = record { size = t.size; at = λ a h. go a h (dec_lt a lists); runs = λ j h. t.runs j (omega arith) h }
    where
      go : (a : ℕ) → a < lists + n → Dec (a < lists) → Next ever_free L lists n (cond (ltb a lists) a (L (a - lists))) (suc a - lists) (get_or link a 0)
      go a h (yes l) = let z : suc a - lists ≡ 0 = omega arith in rw (lt-ltb a lists l, z) (t.heads a l)
      go a h (no l) =
          let z : suc a - lists ≡ suc (a - lists) = omega arith in
          let y : lists + (a - lists) ≡ a = omega arith in
          let x = t.tails (a - lists) (omega arith) (omega arith) in
          rw (le-ltb a lists (omega arith), z) (rw y at x)
