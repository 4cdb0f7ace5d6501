-- A sum round an outline, worked out edge by edge: what was added on either side so far, and what is still to come.
-- Said once for any f that is what g gives one way less what it gives the other way; the winding number and the area are two such.
use Prim.Native.Nat.{ℕ, zero, suc, ◌+◌, ◌*◌, ◌≤◌, ◌<◌, zero-le}
use Rattle.std.proofs.Common.{arith, add-one, mul-suc, ◌∙◌, drop_of_length-le, drop-cons}
use Rattle.std.proofs.Math.Decide.{dec_lt}
use Rattle.std.specs.Prelude.{◌≡◌, refl, length, get_or, ℤ, neg_ℤ, ◌+ℤ◌, ◌-ℤ◌}
use Rattle.std.proofs.Math.Path.{sym, ap, subst}
use mathlib.Core.List.{List, [], ◌∷◌}
use Rattle.std.proofs.Math.ListN.{drop}
use Rattle.std.proofs.Math.IntN.{pos, +ℤ_assoc, +ℤ_idl, +ℤ_idr, neg_ℤ-+ℤ}
use Rattle.straight.specs.Plane.{Spot, spots, first, sums, around}
use Rattle.outline.specs.OutlineLaws.{wrap-lt, wrap-same, wrap-less}
use Rattle.whole.specs.IntegerLaws.{swap_mid}
use Rattle.straight.specs.Ready.{spot_at, next, Edge, Outline}

-- ---- the vertex after i
pub next_more : (i n : ℕ) → i + 1 < n → i + 1 ≡ next i n
unfolding next
next_more i n h = sym (wrap-same n (i + 1) h)

pub next-wrap : (i n : ℕ) → i < n → n ≤ i + 1 → 0 ≡ next i n
unfolding next
next-wrap i n h k = let e = wrap-less n (i + 1) k (omega arith) in omega (arith, e)

pub next-below : (i n : ℕ) → i < n → next i n < n
unfolding next
next-below i n h = wrap-lt n (i + 1) (omega arith)

-- ---- the vertices by their numbers
double-suc : (i : ℕ) → 2 * suc i ≡ suc (suc (2 * i))
double-suc i = omega arith

double-suc-one : (i : ℕ) → 2 * suc i + 1 ≡ suc (suc (2 * i + 1))
double-suc-one i = omega arith

spots-at : (l : List ℤ) (i : ℕ) → i < length (spots l) → get_or (spots l) i (record { x = pos 0; y = pos 0 }) ≡ spot_at l i
unfolding spots
spots-at [] i h = absurd (below-nothing i h)
  where
    below-nothing : (i : ℕ) → i < 0 → ⊥
    below-nothing i h = omega arith
spots-at (a ∷ []) i h = absurd (below-nothing i h)
  where
    below-nothing : (i : ℕ) → i < 0 → ⊥
    below-nothing i h = omega arith
spots-at (a ∷ b ∷ r) zero h = refl
spots-at (a ∷ b ∷ r) (suc i) h =
    spots-at r i (omega arith)
    ∙ (λ k. record { x = get_or (a ∷ b ∷ r) (sym (double-suc i) k) (pos 0); y = get_or (a ∷ b ∷ r) (sym (double-suc-one i) k) (pos 0) })

spots-length : (n : ℕ) (l : List ℤ) → length l ≡ 2 * n → length (spots l) ≡ n
unfolding spots
spots-length n [] e = omega arith
spots-length n (a ∷ []) e = absurd (odd n e)
  where
    odd : (n : ℕ) → 1 ≡ 2 * n → ⊥
    odd n e = omega arith
spots-length zero (a ∷ b ∷ r) e = omega arith
spots-length (suc n) (a ∷ b ∷ r) e = ap suc (spots-length n r (omega arith))

module _ {l : List ℤ} {n : ℕ} (o : Outline l n) where
  spots-from : (i : ℕ) → i < n → drop i (spots l) ≡ spot_at l i ∷ drop (i + 1) (spots l)
  spots-from i h =
      let k : i < length (spots l) = subst (λ (m : ℕ). i < m) (sym (spots-length n l o.long)) h in
      drop-cons (spots l) i (record { x = pos 0; y = pos 0 }) k ∙ (λ t. spots-at l i k t ∷ drop (sym (add-one i) t) (spots l))

  spots-end : (i : ℕ) → n ≤ i → drop i (spots l) ≡ []
  spots-end i h = drop_of_length-le (spots l) (subst (λ (m : ℕ). m ≤ i) (sym (spots-length n l o.long)) h)

  -- what follows vertex i, with vertex 0 to close
  spots-next : (i : ℕ) → i < n → first (drop (i + 1) (spots l)) (spot_at l 0) ≡ spot_at l (next i n)
  spots-next i h = by (dec_lt (i + 1) n)
    where
      by : Dec (i + 1 < n) → first (drop (i + 1) (spots l)) (spot_at l 0) ≡ spot_at l (next i n)
      by (yes p) = ap (λ (z : List Spot). first z (spot_at l 0)) (spots-from (i + 1) p) ∙ ap (spot_at l) (next_more i n p)
      by (no p) = let q : n ≤ i + 1 = omega arith in ap (λ (z : List Spot). first z (spot_at l 0)) (spots-end (i + 1) q) ∙ ap (spot_at l) (next-wrap i n h q)

  pub edge_on : (i : ℕ) → i < n → Edge l i (next i n)
  edge_on i h = record { from = omega (arith, o.long); to = omega (arith, o.long, next-below i n h); close = o.close }

  pub edge-back : (i : ℕ) → i < n → Edge l (next i n) i
  edge-back i h = record { from = omega (arith, o.long, next-below i n h); to = omega (arith, o.long); close = o.close }

-- ---- the sum so far
pub record Part (f : Spot → Spot → ℤ) (m : ℕ) (l : List ℤ) (i up down : ℕ) : Type 0 where
  pub sum : (pos up -ℤ pos down) +ℤ sums f (spot_at l 0) (drop i (spots l)) ≡ around f (spots l)
  pub up-most : up ≤ m * i
  pub down-most : down ≤ m * i

pub same-part : {f : Spot → Spot → ℤ} {m : ℕ} {l : List ℤ} {i up down up' down' : ℕ} → up ≡ up' → down ≡ down' → Part f m l i up' down' → Part f m l i up down
same-part {f} {m} {l} {i} {up} {down} {up'} {down'} e h p = subst (λ (a : ℕ). Part f m l i a down) (sym e) (subst (λ (b : ℕ). Part f m l i up' b) (sym h) p)

gather : (a b c d : ℕ) → pos (a + c) -ℤ pos (b + d) ≡ (pos a -ℤ pos b) +ℤ (pos c -ℤ pos d)
gather a b c d = ap (λ (z : ℤ). pos (a + c) +ℤ z) (neg_ℤ-+ℤ (pos b) (pos d)) ∙ swap_mid (pos a) (pos c) (neg_ℤ (pos b)) (neg_ℤ (pos d))

one_more : (m i : ℕ) → m * (i + 1) ≡ m * i + m
one_more m i = ap (λ (k : ℕ). m * k) (add-one i) ∙ mul-suc m i

module _ (f : Spot → Spot → ℤ) (m : ℕ) {l : List ℤ} {n : ℕ} (o : Outline l n) where
  pub part_none : Part f m l 0 0 0
  unfolding sums around
  part_none =
      let e : spots l ≡ spot_at l 0 ∷ drop 1 (spots l) = spots-from o 0 (omega (arith, o.least)) in
      record { sum = +ℤ_idl (sums f (spot_at l 0) (spots l)) ∙ ap (sums f (spot_at l 0)) e ∙ sym (ap (around f) e); up-most = zero-le; down-most = zero-le }

  pub part_end : {i up down : ℕ} → Part f m l i up down → n ≤ i → pos up -ℤ pos down ≡ around f (spots l)
  unfolding sums
  part_end {i} {up} {down} p h = sym (+ℤ_idr (pos up -ℤ pos down)) ∙ ap (λ (s : List Spot). (pos up -ℤ pos down) +ℤ sums f (spot_at l 0) s) (sym (spots-end o i h)) ∙ p.sum

  module _ (g : Spot → Spot → ℕ) (tied : (a b : Spot) → f a b ≡ pos (g a b) -ℤ pos (g b a)) where
    pub part-more : {i up down : ℕ} → i < n → Part f m l i up down → g (spot_at l i) (spot_at l (next i n)) ≤ m → g (spot_at l (next i n)) (spot_at l i) ≤ m
        → Part f m l (i + 1) (up + g (spot_at l i) (spot_at l (next i n))) (down + g (spot_at l (next i n)) (spot_at l i))
    unfolding sums
    part-more {i} {up} {down} h p u d =
        let a = spot_at l i in
        let b = spot_at l (next i n) in
        let rest = drop (i + 1) (spots l) in
        record {
          sum =
              ap (λ (z : ℤ). z +ℤ sums f (spot_at l 0) rest) (gather up down (g a b) (g b a) ∙ ap (λ (z : ℤ). (pos up -ℤ pos down) +ℤ z) (sym (tied a b)))
              ∙ +ℤ_assoc (pos up -ℤ pos down) (f a b) (sums f (spot_at l 0) rest)
              ∙ ap (λ (q : Spot). (pos up -ℤ pos down) +ℤ (f a q +ℤ sums f (spot_at l 0) rest)) (sym (spots-next o i h))
              ∙ ap (λ (s : List Spot). (pos up -ℤ pos down) +ℤ sums f (spot_at l 0) s) (sym (spots-from o i h))
              ∙ p.sum;
          up-most = subst (λ (k : ℕ). up + g a b ≤ k) (sym (one_more m i)) (omega arith);
          down-most = subst (λ (k : ℕ). down + g b a ≤ k) (sym (one_more m i)) (omega arith);
        }
