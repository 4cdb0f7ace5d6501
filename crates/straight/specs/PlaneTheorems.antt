-- Theorems on every outline. Document 02, K8: "Reversing an outline negates both answers; starting it at another vertex changes neither"; "An edge of length 0 adds nothing".
use Rattle.std.specs.Prelude.{ℕ, zero, suc, ◌≡◌, refl, false, ◌&&◌, List, [], ◌∷◌, ◌++◌, reverse, leb, ltb, ℤ, pos, negsuc, neg_ℤ, ◌-ℤ◌, ◌*ℤ◌}
use Rattle.std.proofs.Common.{sym, ap, ◌∙◌, arith, le-ltb, lt-ltb, leb-true}
use Rattle.std.proofs.Math.IntN.{+ℤ_invr, neg_ℤ-+ℤ}
use Rattle.std.specs.Int.Signed.{lt_z, le_z}
use Rattle.basis.specs.Choice.{by-test}
use Rattle.basis.specs.Choice.{code_of}
use Rattle.straight.specs.Plane.{Spot, spots, side, left, right, spans, crossing, twice, winding, cross, area}
use Rattle.whole.specs.IntegerLaws.{neg-minus, neg-mul, mul-neg, mul-sub, sub-mul, sub-both}
use Rattle.straight.specs.AroundLaws.{started, repeated, reversed}

no-order : (m n : ℕ) → (leb m n && ltb n m) ≡ false
no-order m n = by-test (leb m n) (λ e. rw e (le-ltb n m (leb-true m n e))) (λ e. rw e)

-- ---- the area: the edge the other way
pub cross-turns : (a b : Spot) → cross b a ≡ neg_ℤ (cross a b)
unfolding cross
cross-turns a b = sym (neg-minus (a.x *ℤ b.y) (b.x *ℤ a.y))

-- "An edge of length 0 adds nothing"
pub cross-nothing : (p : Spot) → cross p p ≡ pos 0
unfolding cross
cross-nothing p = +ℤ_invr (p.x *ℤ p.y)

-- "Reversing an outline negates both answers"
pub area-reversed : (o : List Spot) → area (reverse o) ≡ neg_ℤ (area o)
unfolding area
area-reversed o = reversed cross cross-turns o

-- "starting it at another vertex changes neither"
pub area-started : (a b : List Spot) → area (a ++ b) ≡ area (b ++ a)
unfolding area
area-started a b = started cross a b

-- a vertex that comes twice in a row changes nothing, for the edge between the two has length 0
pub area-repeated : (a : List Spot) (p : Spot) (b : List Spot) → area (a ++ p ∷ p ∷ b) ≡ area (a ++ p ∷ b)
unfolding area
area-repeated a p b = repeated cross cross-nothing a p b

-- ---- the winding: seen from the other end of the edge, left is right
pub side-turns : (a b p : Spot) → side b a p ≡ neg_ℤ (side a b p)
unfolding side
side-turns a b p =
    (λ i. sym (neg-minus b.x a.x) i *ℤ sym (sub-both p.y b.y a.y) i -ℤ sym (sub-both p.x b.x a.x) i *ℤ sym (neg-minus b.y a.y) i)
    ∙ (λ i. neg-mul u (t -ℤ v) i -ℤ mul-neg (s -ℤ u) v i)
    ∙ sym (neg_ℤ-+ℤ (u *ℤ (t -ℤ v)) (neg_ℤ ((s -ℤ u) *ℤ v)))
    ∙ ap neg_ℤ ((λ i. sub-mul u t v i -ℤ mul-sub s u v i) ∙ sub-both (u *ℤ t) (s *ℤ v) (u *ℤ v))
  where
    u : ℤ
    u = b.x -ℤ a.x

    v : ℤ
    v = b.y -ℤ a.y

    s : ℤ
    s = p.x -ℤ a.x

    t : ℤ
    t = p.y -ℤ a.y

below-zero : (z : ℤ) → lt_z (pos 0) (neg_ℤ z) ≡ lt_z z (pos 0)
below-zero (pos zero) = refl
below-zero (pos (suc n)) = sym (le-ltb (suc n) 0 (omega arith))
below-zero (negsuc n) = lt-ltb 0 (suc n) (omega arith)

pub left-turns : (a b p : Spot) → left b a p ≡ right a b p
unfolding left right
left-turns a b p = ap (lt_z (pos 0)) (side-turns a b p) ∙ below-zero (side a b p)

crossing-turns : (p a b : Spot) → crossing p b a ≡ neg_ℤ (crossing p a b)
unfolding crossing
crossing-turns p a b =
    (λ i. pos (code_of (spans b a p && left-turns a b p i)) -ℤ pos (code_of (spans a b p && sym (left-turns b a p) i)))
    ∙ sym (neg-minus (pos (code_of (spans a b p && left a b p))) (pos (code_of (spans b a p && right a b p))))

no_span : (c d : ℤ) → (le_z c d && lt_z d c) ≡ false
no_span (pos m) (pos n) = no-order m n
no_span (pos m) (negsuc n) = refl
no_span (negsuc m) (pos n) = refl
no_span (negsuc m) (negsuc n) = no-order n m

pub crossing-nothing : (p a : Spot) → crossing p a a ≡ pos 0
unfolding crossing spans
crossing-nothing p a = λ i. pos (code_of (no_span a.y p.y i && left a a p)) -ℤ pos (code_of (no_span a.y p.y i && right a a p))

pub winding-reversed : (o : List Spot) (p : Spot) → winding (reverse o) p ≡ neg_ℤ (winding o p)
unfolding winding
winding-reversed o p = reversed (λ a b. crossing p (twice a) (twice b)) (λ a b. crossing-turns p (twice a) (twice b)) o

pub winding-started : (a b : List Spot) (p : Spot) → winding (a ++ b) p ≡ winding (b ++ a) p
unfolding winding
winding-started a b p = started (λ a b. crossing p (twice a) (twice b)) a b

pub winding-repeated : (a : List Spot) (q : Spot) (b : List Spot) (p : Spot) → winding (a ++ q ∷ q ∷ b) p ≡ winding (a ++ q ∷ b) p
unfolding winding
winding-repeated a q b p = repeated (λ a b. crossing p (twice a) (twice b)) (λ s. crossing-nothing p (twice s)) a q b

-- ---- every outline can be handed in: its numbers, x and y in turn, are read back as its vertices
abbrev pub flat : List Spot → List ℤ
flat [] = []
flat (s ∷ r) = s.x ∷ s.y ∷ flat r

pub spots-flat : (o : List Spot) → spots (flat o) ≡ o
unfolding spots
spots-flat [] = refl
spots-flat (s ∷ r) = ap (λ (l : List Spot). s ∷ l) (spots-flat r)
