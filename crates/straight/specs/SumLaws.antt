-- The winding number and the area as sums of what one edge gives one way less what it gives the other way.
use Rattle.std.specs.Prelude.{ℕ, zero, suc, ◌+◌, ◌*◌, ◌≤◌, ◌<◌, ◌^◌, ◌≡◌, refl, Bool, true, false, ◌&&◌, List, get_or, ℤ, pos, negsuc, neg_ℤ, nat_abs, ◌-ℤ◌}
use Rattle.std.proofs.Common.{zero-le, arith, le_refl, sym, ap, ◌∙◌, subst}
use Rattle.std.proofs.Math.IntN.{+ℤ_idl, +ℤ_idr}
use Rattle.whole.specs.declared.two.Two.{Two}
use Rattle.whole.specs.Two.{value, two, Roomy}
use Rattle.whole.specs.TwoLaws.{value-two, high-below}
use Rattle.whole.specs.Fit.{Near}
use Rattle.whole.specs.FitLaws.{as-near, mul-near, sub-near}
use Rattle.basis.specs.Choice.{code_of}
use Rattle.straight.specs.Plane.{Spot, spots, crossing, spans, twice, cross, around, winding, area}
use Rattle.straight.specs.PlaneTheorems.{left-turns, cross-turns}
use Rattle.straight.specs.Ready.{Edge, Seen, Outline, Probed, spot_at, next, rises, above, gain}
use Rattle.straight.specs.PartLaws.{Part, same-part, part-more, edge_on, edge-back}

-- the probe as it is read back
pub probed-as : {l : List ℤ} {n : ℕ} {x y x' y' : ℤ} → x' ≡ x → y' ≡ y → Probed l n x y → Probed l n x' y'
probed-as e f p = record { outline = p.outline; x-ok = as-near e p.x-ok; y-ok = as-near f p.y-ok }

-- ---- the winding
abbrev pub winds : Spot → Spot → Spot → ℤ
winds p a b = crossing p (twice a) (twice b)

abbrev pub rise : Spot → Spot → Spot → ℕ
rise p a b = code_of (rises p (twice a) (twice b))

pub winds-tied : (p a b : Spot) → winds p a b ≡ pos (rise p a b) -ℤ pos (rise p b a)
unfolding crossing
winds-tied p a b = λ i. pos (rise p a b) -ℤ pos (code_of (spans (twice b) (twice a) p && sym (left-turns (twice a) (twice b) p) i))

pub code-most : (t : Bool) → code_of t ≤ 1
code-most true = le_refl 1
code-most false = zero-le

rise-most : (p a b : Spot) → rise p a b ≤ 1
rise-most p a b = code-most (rises p (twice a) (twice b))

-- the whole, for a probe that is read back
pub wound : (l : List ℤ) {x y x' y' : ℤ} → x' ≡ x → y' ≡ y → around (winds (record { x = x'; y = y' })) (spots l) ≡ winding (spots l) (record { x = x; y = y })
unfolding winding
wound l e f = λ i. winding (spots l) (record { x = e i; y = f i })

-- ---- one turn of the loop
module _ {l : List ℤ} {n i j : ℕ} {x y : ℤ} (q : Probed l n x y) (h : i < n) (e : j ≡ next i n) where
  pub seen-on : Seen l i j x y
  seen-on = record { edge = subst (Edge l i) (sym e) (edge_on q.outline i h); x-ok = q.x-ok; y-ok = q.y-ok }

  pub seen_back : Seen l j i x y
  seen_back = record { edge = subst (λ (k : ℕ). Edge l k i) (sym e) (edge-back q.outline i h); x-ok = q.x-ok; y-ok = q.y-ok }

  pub wind-more : {up down u d : ℕ} → Part (winds (record { x = x; y = y })) 1 l i up down
      → u ≡ rise (record { x = x; y = y }) (spot_at l i) (spot_at l j) → d ≡ rise (record { x = x; y = y }) (spot_at l j) (spot_at l i)
      → Part (winds (record { x = x; y = y })) 1 l (i + 1) (up + u) (down + d)
  wind-more {up} {down} p f g =
      let s : Spot = record { x = x; y = y } in
      let f' = f ∙ ap (λ (k : ℕ). rise s (spot_at l i) (spot_at l k)) e in
      let g' = g ∙ ap (λ (k : ℕ). rise s (spot_at l k) (spot_at l i)) e in
      same-part (ap (λ (a : ℕ). up + a) f') (ap (λ (b : ℕ). down + b) g')
      (part-more (winds s) 1 q.outline (rise s) (winds-tied s) h p (rise-most s (spot_at l i) (spot_at l (next i n))) (rise-most s (spot_at l (next i n)) (spot_at l i)))

-- ---- the area
split : (z : ℤ) → z ≡ pos (above z) -ℤ pos (above (neg_ℤ z))
split (pos zero) = refl
split (pos (suc n)) = sym (+ℤ_idr (pos (suc n)))
split (negsuc n) = sym (+ℤ_idl (negsuc n))

pub cross-tied : (a b : Spot) → cross a b ≡ pos (gain a b) -ℤ pos (gain b a)
cross-tied a b = split (cross a b) ∙ ap (λ (z : ℤ). pos (gain a b) -ℤ pos (above z)) (sym (cross-turns a b))

above-le : (z : ℤ) → above z ≤ nat_abs z
above-le (pos n) = le_refl n
above-le (negsuc n) = zero-le

-- one edge's part of the area, at most 2 · 400,000,000²
pub gain-most : (l : List ℤ) (i j : ℕ) → ((k : ℕ) → Near 400000000 (get_or l k (pos 0))) → gain (spot_at l i) (spot_at l j) ≤ 320000000000000000
unfolding cross
gain-most l i j h =
    omega (arith, above-le (cross (spot_at l i) (spot_at l j)), (sub-near (mul-near (h (2 * i)) (h (2 * j + 1))) (mul-near (h (2 * j)) (h (2 * i + 1)))).near)

-- ---- one turn of its loop
module _ {l : List ℤ} {n i j : ℕ} (o : Outline l n) (h : i < n) (e : j ≡ next i n) where
  pub on : Edge l i j
  on = subst (Edge l i) (sym e) (edge_on o i h)

  pub back : Edge l j i
  back = subst (λ (k : ℕ). Edge l k i) (sym e) (edge-back o i h)

  pub area-more : {up down u d : ℕ} → Part cross 320000000000000000 l i up down → u ≡ gain (spot_at l i) (spot_at l j) → d ≡ gain (spot_at l j) (spot_at l i)
      → Part cross 320000000000000000 l (i + 1) (up + u) (down + d)
  area-more {up} {down} p f g =
      let f' = f ∙ ap (λ (k : ℕ). gain (spot_at l i) (spot_at l k)) e in
      let g' = g ∙ ap (λ (k : ℕ). gain (spot_at l k) (spot_at l i)) e in
      same-part (ap (λ (a : ℕ). up + a) f') (ap (λ (b : ℕ). down + b) g')
      (part-more cross 320000000000000000 o gain cross-tied h p (gain-most l i (next i n) o.close) (gain-most l (next i n) i o.close))

thousand : (v i : ℕ) → v ≤ 320000000000000000 * i → i ≤ 1024 → v ≤ 327680000000000000000
thousand v i h k = omega arith

small : (a b : ℕ) → a < 18 → b ≡ 0 → a + b + 1 < 2 ^ 64
small a b h e = omega arith

-- the high words stay small, so no carry is lost
pub high_small : (t w : Two) (i : ℕ) → value t ≤ 320000000000000000 * i → i ≤ 1024 → w.high ≡ 0 → Roomy t w
high_small t w i h k e = record { fits = small t.high w.high (high-below t 327680000000000000000 18 (thousand (value t) i h k) tt) e }

-- a word added
pub word-added : (t w : Two) (u : ℕ) (r : Two) → r ≡ two (value t + value w) → w.high ≡ 0 → w.low ≡ u → value r ≡ value t + u
word-added t w u r e h k = ap value e ∙ value-two (value t + value w) ∙ ap (λ (n : ℕ). value t + n) (single w.high h)
  where
    single : (n : ℕ) → n ≡ 0 → n * 2 ^ 64 + w.low ≡ u
    single n p = omega arith

pub summed : (l : List ℤ) → around cross (spots l) ≡ area (spots l)
unfolding area
summed l = refl
