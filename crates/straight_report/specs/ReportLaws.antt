-- The laws of the report: one outline of the list, the sums so far, and the code's small steps.
use Rattle.std.specs.Prelude.{ℕ, zero, suc, ◌+◌, ◌-◌, ◌*◌, ◌^◌, ◌≤◌, ◌<◌, ◌≡◌, refl, Bool, eqb, ltb, length, take, drop, ℤ, pos, nat_abs}
use Rattle.std.proofs.Common.{zero-le, arith, add-one, le_refl, le_trans, ◌∙◌, length-take, length-drop, drop_of_length-le, length-take-le, get_or-take, get_or-drop, ltb-true, ltb-false, ne_eqb, eq-eqb}
use Rattle.std.proofs.Math.Nat.{add_assoc}
use Rattle.std.proofs.Math.Path.{sym, ap, subst}
use Rattle.std.proofs.Math.Bool.{true, false}
use mathlib.Core.List.{List, [], ◌∷◌}
use Rattle.std.proofs.Math.ListN.{get_or, get_or-eq_default}
use Rattle.std.proofs.Math.Seq.{drop-cons}
use Rattle.basis.specs.Choice.{by-test, or_left, or_right}
use Rattle.basis.specs.Refuse.{size_fault}
use Rattle.basis.specs.RefuseLaws.{size_ok}
use Rattle.whole.specs.declared.two.Two.{Two}
use Rattle.whole.specs.Two.{value, Roomy}
use Rattle.whole.specs.TwoLaws.{two_is, value-two, high-below}
use Rattle.whole.specs.Fit.{Near}
use Rattle.basis.specs.Choice.{code_of}
use Rattle.straight.specs.Plane.{Spot, spots, area}
use Rattle.straight.specs.Ready.{Outline}
use Rattle.straight.specs.SumLaws.{code-most}
use Rattle.straight.specs.Words.{area_words}
use Rattle.straight.specs.declared.sum.Area.{Area}
use Rattle.straight_report.specs.declared.Report.{Report}
use Rattle.straight_report.specs.Report.{part, outlines, zeros, sizes, report_of, last_of, sizes_fault, Cut, Loops}
use Rattle.straight_report.specs.MostTheorems.{area-most}

-- ---- one outline of the list
near-zero : Near 400000000 (pos 0)
near-zero = record { near = zero-le }

part-near : (l : List ℤ) (m n k : ℕ) → ((j : ℕ) → Near 400000000 (get_or l j (pos 0))) → Near 400000000 (get_or (take n (drop m l)) k (pos 0))
part-near l m n k h =
    by-test (ltb k n)
    (λ e. subst (Near 400000000) (sym (get_or-take n (drop m l) k (pos 0) (ltb-true k n e) ∙ get_or-drop m l k (pos 0))) (h (m + k)))
    (λ e.
    let p = ltb-false k n e in
    let past : length (take n (drop m l)) ≤ k = subst (λ (x : ℕ). x ≤ k) (sym (length-take n (drop m l))) (omega arith) in
    subst (Near 400000000) (sym (get_or-eq_default (take n (drop m l)) (pos 0) past)) near-zero)

pub cut-outline : {l : List ℤ} {from e : ℕ} → Cut l from e → Outline (part l from e) (e - from)
cut-outline {l} {from} {e} c =
    record { long = long; least = c.least; most = c.most; close = λ k. part-near l (2 * from) (2 * e - 2 * from) k c.close }
  where
    long : length (part l from e) ≡ 2 * (e - from)
    long = length-take-le (2 * e - 2 * from) (drop (2 * from) l) (subst (λ (x : ℕ). 2 * e - 2 * from ≤ x) (sym (length-drop (2 * from) l)) (omega arith)) ∙ omega arith

-- ---- the report so far
pub record Going (l : List ℤ) (ends : List ℕ) (k from none total : ℕ) : Type 0 where
  pub at : k ≤ length ends
  pub none-sum : none + zeros (outlines l from (drop k ends)) ≡ zeros (outlines l 0 ends)
  pub total-sum : total + sizes (outlines l from (drop k ends)) ≡ sizes (outlines l 0 ends)
  pub sized : sizes_fault from (drop k ends) ≡ false
  pub last : last_of from (drop k ends) ≡ last_of 0 ends
  pub none-most : none ≤ k
  pub total-most : total ≤ 327680000000000000000 * k

pub going-none : {l : List ℤ} {ends : List ℕ} → Loops l ends → Going l ends 0 0 0 0
going-none {l} {ends} p = record { at = zero-le; none-sum = nothing (zeros (outlines l 0 ends)); total-sum = nothing (sizes (outlines l 0 ends)); sized = p.sized; last = refl; none-most = zero-le; total-most = zero-le }
  where
    nothing : (n : ℕ) → 0 + n ≡ n
    nothing n = omega arith

pub last-least : (d : ℕ) (es : List ℕ) → sizes_fault d es ≡ false → d ≤ last_of d es
unfolding sizes_fault last_of
last-least d [] e = le_refl d
last-least d (e ∷ es) h =
    let s = size_ok (e - d) (or_left (size_fault (e - d)) _ h) in
    le_trans (up s.0) (last-least e es (or_right (size_fault (e - d)) _ h))
  where
    up : 2 ≤ e - d → d ≤ e
    up p = omega arith

module _ {l : List ℤ} {ends : List ℕ} {k from none total : ℕ} (p : Loops l ends) (g : Going l ends k from none total) (h : k < length ends) where
  here : drop k ends ≡ get_or ends k 0 ∷ drop (k + 1) ends
  here = drop-cons ends k 0 h ∙ ap (λ (n : ℕ). get_or ends k 0 ∷ drop n ends) (sym (add-one k))

  sized-here : sizes_fault from (get_or ends k 0 ∷ drop (k + 1) ends) ≡ false
  sized-here = ap (sizes_fault from) (sym here) ∙ g.sized

  last-here : last_of from (get_or ends k 0 ∷ drop (k + 1) ends) ≡ last_of 0 ends
  last-here = ap (last_of from) (sym here) ∙ g.last

  pub going-cut : Cut l from (get_or ends k 0)
  unfolding sizes_fault last_of
  going-cut =
      let s = size_ok (get_or ends k 0 - from) (or_left (size_fault (get_or ends k 0 - from)) _ sized-here) in
      let m : get_or ends k 0 ≤ last_of 0 ends = subst (λ (x : ℕ). get_or ends k 0 ≤ x) last-here (last-least (get_or ends k 0) (drop (k + 1) ends) (or_right (size_fault (get_or ends k 0 - from)) _ sized-here)) in
      record { least = s.0; most = s.1; fits = omega (arith, p.whole); close = p.close }

  pub going_more : (u v : ℕ) → u ≡ code_of (eqb (nat_abs (area (spots (part l from (get_or ends k 0))))) 0) → v ≡ nat_abs (area (spots (part l from (get_or ends k 0)))) → Going l ends (k + 1) (get_or ends k 0) (none + u) (total + v)
  unfolding sizes_fault last_of zeros sizes outlines
  going_more u v e f =
      let rest = outlines l (get_or ends k 0) (drop (k + 1) ends) in
      record {
        at = omega arith;
        none-sum = ap (λ (x : ℕ). none + x + zeros rest) e ∙ add_assoc none _ (zeros rest) ∙ ap (λ (es : List ℕ). none + zeros (outlines l from es)) (sym here) ∙ g.none-sum;
        total-sum = ap (λ (x : ℕ). total + x + sizes rest) f ∙ add_assoc total _ (sizes rest) ∙ ap (λ (es : List ℕ). total + sizes (outlines l from es)) (sym here) ∙ g.total-sum;
        sized = or_right (size_fault (get_or ends k 0 - from)) _ sized-here;
        last = last-here;
        none-most = omega (arith, e, code-most (eqb (nat_abs (area (spots (part l from (get_or ends k 0))))) 0), g.none-most);
        total-most = more (subst (λ (x : ℕ). x ≤ 327680000000000000000) (sym f) (area-most (cut-outline going-cut)));
      }
    where
      more : v ≤ 327680000000000000000 → total + v ≤ 327680000000000000000 * (k + 1)
      more q = omega (arith, g.total-most)

pub going_end : {l : List ℤ} {ends : List ℕ} {k from none total : ℕ} → Going l ends k from none total → length ends ≤ k → (none ≡ zeros (outlines l 0 ends)) × (total ≡ sizes (outlines l 0 ends))
unfolding zeros sizes outlines
going_end {l} {ends} {k} {from} {none} {total} g h = (
  last none (zeros (outlines l from (drop k ends))) (ap (λ (es : List ℕ). zeros (outlines l from es)) (drop_of_length-le ends h)) ∙ g.none-sum,
  last total (sizes (outlines l from (drop k ends))) (ap (λ (es : List ℕ). sizes (outlines l from es)) (drop_of_length-le ends h)) ∙ g.total-sum,
)
  where
    last : (a b : ℕ) → b ≡ 0 → a ≡ a + b
    last a b e = omega arith

-- ---- the code's small steps
last-at : (d : ℕ) (es : List ℕ) (n : ℕ) → length es ≡ suc n → get_or es n 0 ≡ last_of d es
unfolding last_of
last-at d [] n h = omega arith
last-at d (e ∷ []) zero h = refl
last-at d (e ∷ []) (suc n) h = omega arith
last-at d (e ∷ f ∷ r) zero h = omega arith
last-at d (e ∷ f ∷ r) (suc n) h = last-at e (f ∷ r) n (omega arith)

pub last_none : (es : List ℕ) → length es ≡ 0 → 0 ≡ last_of 0 es
unfolding last_of
last_none [] h = refl
last_none (e ∷ es) h = omega arith

pub last_some : (es : List ℕ) → (length es ≡ 0 → ⊥) → get_or es (length es - 1) 0 ≡ last_of 0 es
last_some es h = last-at 0 es (length es - 1) (omega arith)

-- a loop through the ends: what is left to look at decides. At end k, the size v is tested, and b is the answer
module _ (ends : List ℕ) (k from : ℕ) where
  abbrev pub SizesFrom : Type 0
  SizesFrom = sizes_fault 0 ends ≡ sizes_fault from (drop k ends)

  pub sizes-stop : (v : ℕ) (b : Bool) → SizesFrom → k < length ends → v ≡ get_or ends k 0 - from → b ≡ size_fault v → b ≡ true → true ≡ sizes_fault 0 ends
  unfolding sizes_fault
  sizes-stop v b g h e f t = let w : size_fault (get_or ends k 0 - from) ≡ true = ap size_fault (sym e) ∙ sym f ∙ t in sym (g ∙ rw (drop-cons ends k 0, w))

  pub sizes-on : (v : ℕ) (b : Bool) → SizesFrom → k < length ends → v ≡ get_or ends k 0 - from → b ≡ size_fault v → b ≡ false
      → sizes_fault 0 ends ≡ sizes_fault (get_or ends k 0) (drop (k + 1) ends)
  unfolding sizes_fault
  sizes-on v b g h e f t = let w : size_fault (get_or ends k 0 - from) ≡ false = ap size_fault (sym e) ∙ sym f ∙ t in g ∙ rw (add-one, drop-cons ends k 0, w)

  pub sizes-end : SizesFrom → length ends ≤ k → false ≡ sizes_fault 0 ends
  unfolding sizes_fault
  sizes-end g h = sym (g ∙ rw (drop_of_length-le ends h))

pub ruleset sizing = (last_none, last_some, sizes-stop, sizes-on, sizes-end)

-- the number of two words is 0 where both are
pub zero-high : (h l : ℕ) → (h ≡ 0 → ⊥) → false ≡ eqb (h * 2 ^ 64 + l) 0
zero-high h l f = sym (ne_eqb (h * 2 ^ 64 + l) 0 (λ e. f (omega arith)))

pub low-zero : (h l : ℕ) → h ≡ 0 → eqb l 0 ≡ eqb (h * 2 ^ 64 + l) 0
low-zero h l e = ap (λ (n : ℕ). eqb n 0) (omega arith)

pub ruleset zero_words = (zero-high, low-zero)

-- and its code
pub zero_high : (h l : ℕ) → (h ≡ 0 → ⊥) → 0 ≡ code_of (eqb (h * 2 ^ 64 + l) 0)
zero_high h l f = ap code_of (sym (ne_eqb (h * 2 ^ 64 + l) 0 (λ e. f (omega arith))))

pub zero-low : (h l : ℕ) → (l ≡ 0 → ⊥) → 0 ≡ code_of (eqb (h * 2 ^ 64 + l) 0)
zero-low h l f = ap code_of (sym (ne_eqb (h * 2 ^ 64 + l) 0 (λ e. f (omega arith))))

pub zero-both : (h l : ℕ) → h ≡ 0 → l ≡ 0 → 1 ≡ code_of (eqb (h * 2 ^ 64 + l) 0)
zero-both h l e f = ap code_of (sym (eq-eqb (h * 2 ^ 64 + l) 0 (omega arith)))

-- what an area's two words say
pub area-says : (a : Area) (z : ℤ) → a ≡ area_words z → value a.size ≡ nat_abs z
area-says a z e = ap (λ (b : Area). value b.size) e ∙ value-two (nat_abs z)

pub size-says : (s : Two) (a : Area) (z : ℤ) → a ≡ area_words z → s.high ≡ a.size.high → s.low ≡ a.size.low → value s ≡ nat_abs z
size-says s a z e h l = (λ i. h i * 2 ^ 64 + l i) ∙ area-says a z e

pub four-thousand : (v k : ℕ) → v ≤ 327680000000000000000 * k → k ≤ 4096 → v ≤ 1342177280000000000000000
four-thousand v k h l = omega arith

few-more : (a b : ℕ) → a < 72760 → b < 18 → a + b + 1 < 2 ^ 64
few-more a b h k = omega arith

pub total-high : (t s : Two) (k : ℕ) → value t ≤ 327680000000000000000 * k → k ≤ 4096 → value s ≤ 327680000000000000000 → Roomy t s
total-high t s k h l m =
    record { fits = few-more t.high s.high (high-below t 1342177280000000000000000 72760 (four-thousand (value t) k h l) tt) (high-below s 327680000000000000000 18 m tt) }

abbrev report_with : ℕ → Two → Report
report_with n t = record { zero = n; total = t }

pub report-is : (n : ℕ) (t : Two) (os : List (List Spot)) → t.low < 2 ^ 64 → n ≡ zeros os → value t ≡ sizes os → report_with n t ≡ report_of os
report-is n t os h e f = λ i. record { zero = e i; total = two_is t (sizes os) h f i }
