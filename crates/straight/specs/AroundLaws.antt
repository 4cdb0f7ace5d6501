-- Sums round an outline: started at another vertex, reversed, and with a vertex repeated.
use Rattle.std.specs.Prelude.{◌≡◌, ℤ, pos, ◌+ℤ◌}
use Rattle.std.proofs.Math.Path.{refl, sym, ap}
use Rattle.std.proofs.Common.{◌∙◌}
use mathlib.Core.List.{List, [], ◌∷◌, ◌++◌, reverse, append-nil, reverse-cons}
use Rattle.std.proofs.Math.IntN.{neg_ℤ, +ℤ_assoc, +ℤ_comm, +ℤ_idl, +ℤ_idr, neg_ℤ-+ℤ}
use Rattle.straight.specs.Plane.{Spot, first, sums, around}

module _ (f : Spot → Spot → ℤ) where
  pub sums-append : (q : Spot) (a b : List Spot) → sums f q (a ++ b) ≡ sums f (first b q) a +ℤ sums f q b
  unfolding sums
  sums-append q [] b = sym (+ℤ_idl (sums f q b))
  sums-append q (p ∷ []) b = ap (λ (z : ℤ). z +ℤ sums f q b) (sym (+ℤ_idr (f p (first b q))))
  sums-append q (p ∷ s ∷ r) b = ap (λ (z : ℤ). f p s +ℤ z) (sums-append q (s ∷ r) b) ∙ sym (+ℤ_assoc (f p s) (sums f (first b q) (s ∷ r)) (sums f q b))

  -- starting at another vertex
  pub started : (a b : List Spot) → around f (a ++ b) ≡ around f (b ++ a)
  unfolding around
  started [] [] = refl
  started [] (s ∷ b) = ap (around f) (sym (append-nil (s ∷ b)))
  started (p ∷ a) [] = ap (around f) (append-nil (p ∷ a))
  started (p ∷ a) (s ∷ b) = sums-append p (p ∷ a) (s ∷ b) ∙ +ℤ_comm (sums f s (p ∷ a)) (sums f p (s ∷ b)) ∙ sym (sums-append s (s ∷ b) (p ∷ a))

  -- a repeated vertex, where an edge of length 0 adds nothing
  pub repeated : ((p : Spot) → f p p ≡ pos 0) → (a : List Spot) (p : Spot) (b : List Spot) → around f (a ++ p ∷ p ∷ b) ≡ around f (a ++ p ∷ b)
  unfolding around sums
  repeated z a p b = started a (p ∷ p ∷ b) ∙ ap (λ (v : ℤ). v +ℤ sums f p (p ∷ (b ++ a))) (z p) ∙ +ℤ_idl (sums f p (p ∷ (b ++ a))) ∙ sym (started a (p ∷ b))

  module _ (turn : (a b : Spot) → f b a ≡ neg_ℤ (f a b)) where
    -- the way back, from q to p
    pub back : (p q : Spot) (r : List Spot) → sums f p (q ∷ reverse r) ≡ neg_ℤ (sums f q (p ∷ r))
    unfolding sums
    back p q [] = +ℤ_idr (f q p) ∙ turn p q ∙ ap neg_ℤ (sym (+ℤ_idr (f p q)))
    back p q (s ∷ r) =
        ap (λ (l : List Spot). sums f p (q ∷ l)) (reverse-cons s r)
        ∙ sums-append p (q ∷ reverse r) (s ∷ [])
        ∙ (λ i. back s q r i +ℤ +ℤ_idr (f s p) i)
        ∙ ap (λ (z : ℤ). neg_ℤ (sums f q (s ∷ r)) +ℤ z) (turn p s)
        ∙ +ℤ_comm (neg_ℤ (sums f q (s ∷ r))) (neg_ℤ (f p s))
        ∙ sym (neg_ℤ-+ℤ (f p s) (sums f q (s ∷ r)))

    -- reversing
    pub reversed : (o : List Spot) → around f (reverse o) ≡ neg_ℤ (around f o)
    unfolding around
    reversed [] = refl
    reversed (p ∷ r) = ap (around f) (reverse-cons p r) ∙ started (reverse r) (p ∷ []) ∙ back p p r
