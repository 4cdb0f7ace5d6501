-- Laws of keys: the lowest number that is no key, and that fewer than n elements leave a number below n free.
use Prim.Native.Nat.{ℕ, zero, suc, ◌+◌, ◌≤◌, ◌<◌}
use Rattle.std.specs.Prelude.{Bool, false, ◌||◌, ◌≡◌, eqb, ltb}
use Rattle.std.proofs.Math.Bool.{true}
use Rattle.std.proofs.Common.{true≢false, sym, ap, ◌∙◌}
use Rattle.std.proofs.Math.Path.{refl}
use mathlib.Core.List.{List, [], ◌∷◌, ◌++◌, map}
use native.Mathlib.Omega.{arith}
use Rattle.std.proofs.Math.ListN.{length}
use borrow.Author.Tests.{eqb-true, eqb-false, ne_eqb, ltb-true, ltb-false}
use Rattle.basis.specs.Choice.{by-test, or_left, or_right}
use Rattle.store.specs.Keys.{keyed, without, lowest_from}

-- ---- the lowest number that is not used

module _ (used : ℕ → Bool) where
  -- every number before it is used
  pub lowest-before : (k n j : ℕ) → k ≤ j → j < lowest_from used k n → used j ≡ true
  unfolding lowest_from
  lowest-before k zero j a b = absurd (omega arith)
  lowest-before k (suc n) j a b =
      by-test (used k)
      (λ e.
      let b' : j < lowest_from used (suc k) n = rw e at b in
      by-test (eqb k j)
      (λ f. let q : k ≡ j = eqb-true k j f in rw (← q) e)
      (λ f. let q : k ≡ j → ⊥ = eqb-false k j f in lowest-before (suc k) n j (omega (arith, q)) b'))
      (λ e. let b' : j < k = rw e at b in absurd (omega arith))

  -- and it is not, where it is one of the n
  pub lowest-free : (k n : ℕ) → lowest_from used k n < k + n → used (lowest_from used k n) ≡ false
  unfolding lowest_from
  lowest-free k zero a = absurd (omega arith)
  lowest-free k (suc n) a =
      by-test (used k)
      (λ e. let a' : lowest_from used (suc k) n < k + suc n = rw e at a in rw e (lowest-free (suc k) n (omega arith)))
      (λ e. rw e e)

-- two ways to say which numbers are used
pub lowest-same : (f g : ℕ → Bool) (k n : ℕ) → ((j : ℕ) → k ≤ j → j < k + n → f j ≡ g j) → lowest_from f k n ≡ lowest_from g k n
unfolding lowest_from
lowest-same f g k zero e = refl
lowest-same f g k (suc n) e = rw (e k (omega arith) (omega arith), lowest-same f g (suc k) n (λ j a b. e j (omega arith) (omega arith)))

-- ---- one element more, one key less

module _ {A : Type 0} (key : A → ℕ) where
  pub keyed-snoc : (l : List A) (x : A) (k : ℕ) → keyed key (l ++ (x ∷ [])) k ≡ (keyed key l k || eqb (key x) k)
  unfolding keyed
  keyed-snoc [] x k = by-test (eqb (key x) k) (λ e. rw e) (λ e. rw e)
  keyed-snoc (y ∷ l) x k = by-test (eqb (key y) k) (λ e. rw e) (λ e. rw e (keyed-snoc l x k))

  pub without-most : (l : List A) (k : ℕ) → length (without key l k) ≤ length l
  unfolding without
  without-most [] k = omega arith
  without-most (x ∷ l) k = let q : length (without key l k) ≤ length l = without-most l k in by-test (eqb (key x) k) (λ e. rw e (omega arith)) (λ e. rw e (omega arith))

  without-less : (l : List A) (k : ℕ) → keyed key l k ≡ true → length (without key l k) < length l
  unfolding keyed without
  without-less [] k e = absurd (true≢false (sym e))
  without-less (x ∷ l) k e =
      by-test (eqb (key x) k)
      (λ f. let q : length (without key l k) ≤ length l = without-most l k in rw f (omega arith))
      (λ f. let e' : keyed key l k ≡ true = rw f at e in let q : length (without key l k) < length l = without-less l k e' in rw f (omega arith))

  without-keyed : (l : List A) (k j : ℕ) → (j ≡ k → ⊥) → keyed key (without key l k) j ≡ keyed key l j
  unfolding keyed without
  without-keyed [] k j d = refl
  without-keyed (x ∷ l) k j d =
      by-test (eqb (key x) k)
      (λ e.
      let q : key x ≡ k = eqb-true _ _ e in
      let n : key x ≡ j → ⊥ = λ f. d (sym f ∙ q) in
      rw (e, ne_eqb (key x) j n) (without-keyed l k j d))
      (λ e. rw (e, without-keyed l k j d))

  -- a list that has every key below n has n elements or more
  pigeons : (n : ℕ) (l : List A) → ((k : ℕ) → k < n → keyed key l k ≡ true) → n ≤ length l
  pigeons zero l f = omega arith
  pigeons (suc n) l f =
      let q : n ≤ length (without key l n) = pigeons n (without key l n) (λ k a. without-keyed l n k (λ e. omega arith) ∙ f k (omega arith)) in
      let r : length (without key l n) < length l = without-less l n (f n (omega arith)) in
      omega arith

  -- so below n elements, the lowest free number is below n, and free
  pub lowest-below : (n : ℕ) (l : List A) → length l < n → lowest_from (keyed key l) 0 n < n
  lowest-below n l h =
      by-test (ltb (lowest_from (keyed key l) 0 n) n)
      (λ e. ltb-true _ _ e)
      (λ e.
      let a : n ≤ lowest_from (keyed key l) 0 n = ltb-false _ _ e in
      let q : n ≤ length l = pigeons n l (λ k b. lowest-before (keyed key l) 0 n k (omega arith) (omega arith)) in
      absurd (omega arith))

  pub lowest-new : (n : ℕ) (l : List A) → length l < n → keyed key l (lowest_from (keyed key l) 0 n) ≡ false
  lowest-new n l h = let q : lowest_from (keyed key l) 0 n < n = lowest-below n l h in lowest-free (keyed key l) 0 n (omega arith)

-- a key that no element has: none has it after elements are taken out
pub without-none : {A : Type 0} (key other : A → ℕ) (l : List A) (k j : ℕ) → keyed other l j ≡ false → keyed other (without key l k) j ≡ false
unfolding keyed without
without-none key other [] k j e = refl
without-none key other (x ∷ l) k j e =
    let a : eqb (other x) j ≡ false = or_left (eqb (other x) j) (keyed other l j) e in
    let b : keyed other (without key l k) j ≡ false = without-none key other l k j (or_right (eqb (other x) j) (keyed other l j) e) in
    by-test (eqb (key x) k) (λ f. rw f b) (λ f. rw (f, a, b))

-- ---- elements made from others

module _ {A B : Type 0} (key : B → ℕ) (f : A → B) where
  pub keyed-map : (l : List A) (k : ℕ) → keyed key (map f l) k ≡ keyed (λ x. key (f x)) l k
  unfolding keyed
  keyed-map [] k = refl
  keyed-map (x ∷ l) k = rw (keyed-map l k)

  pub without-map : (l : List A) (k : ℕ) → without key (map f l) k ≡ map f (without (λ x. key (f x)) l k)
  unfolding without
  without-map [] k = refl
  without-map (x ∷ l) k = by-test (eqb (key (f x)) k) (λ e. rw e (without-map l k)) (λ e. rw e (ap {B = List B} (λ r. f x ∷ r) (without-map l k)))

  pub keyed-map-none : (l : List A) (k : ℕ) → keyed (λ x. key (f x)) l k ≡ false → keyed key (map f l) k ≡ false
  keyed-map-none l k e = keyed-map l k ∙ e
