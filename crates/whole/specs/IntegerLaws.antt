-- Laws of ℤ: the product over sums and signs.
use Rattle.std.specs.Prelude.{◌≡◌, ℕ, ℤ, pos, ◌+ℤ◌, ◌-ℤ◌, ◌*ℤ◌, neg_ℤ}
use Rattle.std.proofs.Common.{sym, ap, ◌∙◌}
use Rattle.std.proofs.Math.IntN.{ℤ_ind, +ℤ_one, -ℤ_one, +ℤ-suc_ℤ, +ℤ-pred_ℤ, suc_ℤ-*ℤ, pred_ℤ-*ℤ, +ℤ_assoc, +ℤ_comm, +ℤ_idl, +ℤ_idr, +ℤ_invr, +ℤ_invl, zero-*ℤ, *ℤ_comm, neg_ℤ-+ℤ, neg_ℤ-neg_ℤ}

-- ---- sums
pub swap-last : (a b c : ℤ) → (a +ℤ b) +ℤ c ≡ (a +ℤ c) +ℤ b
swap-last a b c = +ℤ_assoc a b c ∙ ap (λ (z : ℤ). a +ℤ z) (+ℤ_comm b c) ∙ sym (+ℤ_assoc a c b)

pub swap_mid : (a b c d : ℤ) → (a +ℤ b) +ℤ (c +ℤ d) ≡ (a +ℤ c) +ℤ (b +ℤ d)
swap_mid a b c d = sym (+ℤ_assoc (a +ℤ b) c d) ∙ ap (λ (z : ℤ). z +ℤ d) (swap-last a b c) ∙ +ℤ_assoc (a +ℤ c) b d

pub neg-minus : (a b : ℤ) → neg_ℤ (a -ℤ b) ≡ b -ℤ a
neg-minus a b = neg_ℤ-+ℤ a (neg_ℤ b) ∙ ap (λ (z : ℤ). neg_ℤ a +ℤ z) (neg_ℤ-neg_ℤ b) ∙ +ℤ_comm (neg_ℤ a) b

-- ---- the product over a sum
pub mul-add : (a b c : ℤ) → (a +ℤ b) *ℤ c ≡ a *ℤ c +ℤ b *ℤ c
mul-add a b c = ℤ_ind (λ (b : ℤ). (a +ℤ b) *ℤ c ≡ a *ℤ c +ℤ b *ℤ c) base up down b
  where
    base : (a +ℤ pos 0) *ℤ c ≡ a *ℤ c +ℤ pos 0 *ℤ c
    base = ap (λ (z : ℤ). z *ℤ c) (+ℤ_idr a) ∙ sym (ap (λ (z : ℤ). a *ℤ c +ℤ z) (zero-*ℤ c) ∙ +ℤ_idr (a *ℤ c))

    up : (n : ℕ) → (a +ℤ pos n) *ℤ c ≡ a *ℤ c +ℤ pos n *ℤ c → (a +ℤ (pos n +ℤ pos 1)) *ℤ c ≡ a *ℤ c +ℤ (pos n +ℤ pos 1) *ℤ c
    up n h =
        ap (λ (z : ℤ). (a +ℤ z) *ℤ c) (+ℤ_one (pos n)) ∙ ap (λ (z : ℤ). z *ℤ c) (+ℤ-suc_ℤ a (pos n)) ∙ suc_ℤ-*ℤ (a +ℤ pos n) c
        ∙ ap (λ (z : ℤ). z +ℤ c) h ∙ +ℤ_assoc (a *ℤ c) (pos n *ℤ c) c
        ∙ ap (λ (z : ℤ). a *ℤ c +ℤ z) (sym (suc_ℤ-*ℤ (pos n) c) ∙ ap (λ (z : ℤ). z *ℤ c) (sym (+ℤ_one (pos n))))

    down : (n : ℕ) → (a +ℤ neg_ℤ (pos n)) *ℤ c ≡ a *ℤ c +ℤ neg_ℤ (pos n) *ℤ c → (a +ℤ (neg_ℤ (pos n) +ℤ neg_ℤ (pos 1))) *ℤ c ≡ a *ℤ c +ℤ (neg_ℤ (pos n) +ℤ neg_ℤ (pos 1)) *ℤ c
    down n h =
        let m = neg_ℤ (pos n) in
        ap (λ (z : ℤ). (a +ℤ z) *ℤ c) (-ℤ_one m) ∙ ap (λ (z : ℤ). z *ℤ c) (+ℤ-pred_ℤ a m) ∙ pred_ℤ-*ℤ (a +ℤ m) c
        ∙ ap (λ (z : ℤ). z -ℤ c) h ∙ +ℤ_assoc (a *ℤ c) (m *ℤ c) (neg_ℤ c)
        ∙ ap (λ (z : ℤ). a *ℤ c +ℤ z) (sym (pred_ℤ-*ℤ m c) ∙ ap (λ (z : ℤ). z *ℤ c) (sym (-ℤ_one m)))

-- x + y = 0 makes y the negation
neg_unique : (x y : ℤ) → x +ℤ y ≡ pos 0 → y ≡ neg_ℤ x
neg_unique x y h = sym (+ℤ_idl y) ∙ ap (λ (z : ℤ). z +ℤ y) (sym (+ℤ_invl x)) ∙ +ℤ_assoc (neg_ℤ x) x y ∙ ap (λ (z : ℤ). neg_ℤ x +ℤ z) h ∙ +ℤ_idr (neg_ℤ x)

pub neg-mul : (a c : ℤ) → neg_ℤ a *ℤ c ≡ neg_ℤ (a *ℤ c)
neg-mul a c = neg_unique (a *ℤ c) (neg_ℤ a *ℤ c) (sym (mul-add a (neg_ℤ a) c) ∙ ap (λ (z : ℤ). z *ℤ c) (+ℤ_invr a) ∙ zero-*ℤ c)

pub mul-neg : (a c : ℤ) → a *ℤ neg_ℤ c ≡ neg_ℤ (a *ℤ c)
mul-neg a c = *ℤ_comm a (neg_ℤ c) ∙ neg-mul c a ∙ ap neg_ℤ (*ℤ_comm c a)

pub mul-sub : (a b c : ℤ) → (a -ℤ b) *ℤ c ≡ a *ℤ c -ℤ b *ℤ c
mul-sub a b c = mul-add a (neg_ℤ b) c ∙ ap (λ (z : ℤ). a *ℤ c +ℤ z) (neg-mul b c)

pub sub-mul : (a b c : ℤ) → a *ℤ (b -ℤ c) ≡ a *ℤ b -ℤ a *ℤ c
sub-mul a b c = *ℤ_comm a (b -ℤ c) ∙ mul-sub b c a ∙ (λ i. *ℤ_comm b a i -ℤ *ℤ_comm c a i)

-- a common part drops out
pub sub-both : (a b c : ℤ) → (a -ℤ c) -ℤ (b -ℤ c) ≡ a -ℤ b
sub-both a b c =
    ap (λ (z : ℤ). (a -ℤ c) +ℤ z) (neg-minus b c) ∙ swap_mid a (neg_ℤ c) c (neg_ℤ b) ∙ ap (λ (z : ℤ). (a +ℤ c) +ℤ z) (+ℤ_comm (neg_ℤ c) (neg_ℤ b))
    ∙ swap_mid a c (neg_ℤ b) (neg_ℤ c) ∙ ap (λ (z : ℤ). (a -ℤ b) +ℤ z) (+ℤ_invr c) ∙ +ℤ_idr (a -ℤ b)
