-- What a number in range is, and the test of a number that the machine reads back.
use Rattle.std.specs.Prelude.{ℕ, zero, suc, ◌^◌, ◌<◌, ◌≡◌, Bool, ◌&&◌, List, leb, ltb, length, get_or, ℤ, pos, negsuc, neg_ℤ}
use Rattle.std.proofs.Common.{suc-le-suc, zero-le, ◌∙◌, subst, true≢false, SFits, to_z, of_z, to_z-of_z, leb-true, ltb-true, ltb-false}
use Rattle.std.proofs.Math.Path.{sym, ap}
use Rattle.std.proofs.Math.Bool.{true, false}
use Rattle.std.proofs.Math.ListN.{get_or-eq_default}
use Rattle.std.specs.Int.Signed.{le_z, mag}
use Rattle.std.specs.Int.{w64}
use Rattle.basis.specs.Choice.{by-test, and_left, and_right}
use Rattle.basis.specs.All.{all-at}
use Rattle.whole.specs.Fit.{Near}
use Rattle.whole.specs.FitLaws.{got}
use Rattle.straight_entries.specs.Range.{in_reach, all_in_reach}

pub reach_near : (m : ℕ) (z : ℤ) → in_reach m z ≡ true → Near m z
unfolding in_reach
reach_near m (pos n) e = record { near = leb-true n m (and_right (le_z (neg_ℤ (pos m)) (pos n)) (leb n m) e) }
reach_near zero (negsuc n) e = absurd (true≢false (sym e))
reach_near (suc k) (negsuc n) e = record { near = suc-le-suc (leb-true n k (and_left (leb n k) true e)) }

pub all-close : (l : List ℤ) → all_in_reach l ≡ true → (k : ℕ) → Near 400000000 (get_or l k (pos 0))
all-close l e k =
    by-test (ltb k (length l))
    (λ t. reach_near 400000000 (get_or l k (pos 0)) (all-at (in_reach 400000000) l k (pos 0) e (ltb-true k (length l) t)))
    (λ t. subst (Near 400000000) (sym (get_or-eq_default l (pos 0) (ltb-false k (length l) t))) (record { near = zero-le }))

-- a test of a number that is read back
pub reach-read : (m : ℕ) (b : Bool) (z : ℤ) → SFits w64 z → b ≡ in_reach m (to_z w64 (of_z w64 z)) → b ≡ in_reach m z
reach-read m b z f e = e ∙ ap (in_reach m) (to_z-of_z f)

pub reach-got : (m : ℕ) (b : Bool) (z : ℤ) → mag z < 2 ^ 63 → b ≡ in_reach m (to_z w64 (of_z w64 z)) → b ≡ in_reach m z
reach-got m b z h e = e ∙ ap (in_reach m) (got z h)

-- the code's two comparisons
module _ (z : ℤ) (f : SFits w64 z) (m : ℕ) (a : Bool) (low : a ≡ le_z (neg_ℤ (pos m)) (to_z w64 (of_z w64 z))) where
  pub reach-both : (b : Bool) → b ≡ le_z (to_z w64 (of_z w64 z)) (pos m) → a ≡ true → b ≡ in_reach m z
  unfolding in_reach
  reach-both b e t =
      let h : le_z (neg_ℤ (pos m)) z ≡ true = ap (le_z (neg_ℤ (pos m))) (sym (to_z-of_z f)) ∙ sym low ∙ t in
      e ∙ ap (λ (v : ℤ). le_z v (pos m)) (to_z-of_z f) ∙ sym (ap (λ (x : Bool). x && le_z z (pos m)) h)

  pub reach-under : a ≡ false → a ≡ in_reach m z
  unfolding in_reach
  reach-under t =
      let h : le_z (neg_ℤ (pos m)) z ≡ false = ap (le_z (neg_ℤ (pos m))) (sym (to_z-of_z f)) ∙ sym low ∙ t in
      t ∙ sym (ap (λ (x : Bool). x && le_z z (pos m)) h)

pub ruleset reaching = (reach-read, reach-got, reach-both, reach-under)
