-- Sums below a number and over a list; lists that grow at their end.
use Rattle.std.specs.Prelude.{ℕ, zero, suc, ◌+◌, ◌≤◌, ◌<◌, Bool, true, false, cond, ◌≡◌, refl, List, [], ◌∷◌, ◌++◌, eqb, length, get_or, set}
use Rattle.std.proofs.Common.{ap, ◌∙◌, arith, eq-eqb, ne_eqb, get_or-set_same, get_or-set_other}
use Rattle.std.proofs.Math.Decide.{dec_lt}
use Rattle.basis.specs.Choice.{code_of}
use Rattle.basis.specs.All.{All, all_snoc}
use Rattle.stitch_run.specs.Stitch.{sum_below}
use Rattle.stitch_run.specs.Demand3.{sum_over}
use Rattle.select.specs.SelectTheorems.{Ascending}

-- ---- below a number

pub below-same : (f h : ℕ → ℕ) (n : ℕ) → ((j : ℕ) → j < n → f j ≡ h j) → sum_below f n ≡ sum_below h n
unfolding sum_below
below-same f h zero e = refl
below-same f h (suc n) e = omega (arith, below-same f h n (λ j d. e j (omega arith)), e n (omega arith))

pub below-most : (f h : ℕ → ℕ) (n : ℕ) → ((j : ℕ) → j < n → f j ≤ h j) → sum_below f n ≤ sum_below h n
unfolding sum_below
below-most f h zero e = omega arith
below-most f h (suc n) e = omega (arith, below-most f h n (λ j d. e j (omega arith)), e n (omega arith))

pub below_none : (n : ℕ) → sum_below (λ j. 0) n ≡ 0
unfolding sum_below
below_none zero = refl
below_none (suc n) = omega (arith, below_none n)

pub below-ones : (n : ℕ) → sum_below (λ j. 1) n ≡ n
unfolding sum_below
below-ones zero = refl
below-ones (suc n) = omega (arith, below-ones n)

-- how often k is among the numbers below n
pub below_out : (k n : ℕ) → n ≤ k → sum_below (λ j. code_of (eqb k j)) n ≡ 0
unfolding sum_below
below_out k zero h = refl
below_out k (suc n) h = rw (ne_eqb k n (λ e. let z : k ≡ n = e in omega arith)) (omega (arith, below_out k n (omega arith)))

pub below_in : (k n : ℕ) → k < n → sum_below (λ j. code_of (eqb k j)) n ≡ 1
unfolding sum_below
below_in k zero h = absurd (omega arith)
below_in k (suc n) h = go (dec_lt k n) (below_in k n)
  where
    go : Dec (k < n) → (k < n → sum_below (λ j. code_of (eqb k j)) n ≡ 1) → sum_below (λ j. code_of (eqb k j)) n + code_of (eqb k n) ≡ 1
    go (yes d) r = rw (ne_eqb k n (λ e. let z : k ≡ n = e in omega arith)) (omega (arith, r d))
    go (no d) r = rw (eq-eqb k n (omega arith)) (omega (arith, below_out k n (omega arith)))

-- ---- the marks that are set, below n

abbrev pub weighed : (ℕ → ℕ) → List Bool → ℕ → ℕ
weighed f l n = sum_below (λ j. cond (get_or l j false) (f j) 0) n

-- marks from n on do not count
pub weighed-past : (f : ℕ → ℕ) (l : List Bool) (n j : ℕ) → n ≤ j → weighed f (set l j true) n ≡ weighed f l n
weighed-past f l n j h =
    below-same _ _ n λ i d. ap (λ (b : Bool). cond b (f i) 0) (get_or-set_other l j i true false (λ e. let z : i ≡ j = e in omega arith))

-- one more is set
pub weighed-set : (f : ℕ → ℕ) (l : List Bool) (n j : ℕ) → j < n → j < length l → get_or l j false ≡ false → weighed f (set l j true) n ≡ weighed f l n + f j
unfolding sum_below
weighed-set f l zero j h d e = absurd (omega arith)
weighed-set f l (suc n) j h d e = go (dec_lt j n) (weighed-set f l n j)
  where
    go : Dec (j < n) → (j < n → j < length l → get_or l j false ≡ false → weighed f (set l j true) n ≡ weighed f l n + f j)
        → weighed f (set l j true) (suc n) ≡ weighed f l (suc n) + f j
    go (yes c) r = rw (get_or-set_other l j n true false (λ q. let z : n ≡ j = q in omega arith)) (omega (arith, r c d e))
    go (no c) r =
        let q : n ≡ j = omega arith in
        rw (q, get_or-set_same l j true false d, e) (omega (arith, weighed-past f l j j (omega arith)))

pub weighed-all : (f : ℕ → ℕ) (l : List Bool) (n : ℕ) → ((j : ℕ) → j < n → get_or l j false ≡ true) → weighed f l n ≡ sum_below f n
weighed-all f l n h = below-same _ _ n λ j d. ap (λ (b : Bool). cond b (f j) 0) (h j d)

pub weighed-most : (f : ℕ → ℕ) (l : List Bool) (n : ℕ) → weighed f l n ≤ sum_below f n
weighed-most f l n = below-most _ _ n λ j d. go (get_or l j false) (f j)
  where
    go : (b : Bool) (m : ℕ) → cond b m 0 ≤ m
    go true m = omega arith
    go false m = omega arith

pub weighed-none : (f : ℕ → ℕ) (l : List Bool) (n : ℕ) → ((j : ℕ) → j < n → get_or l j false ≡ false) → weighed f l n ≡ 0
weighed-none f l n h = below-same _ _ n (λ j d. ap (λ (b : Bool). cond b (f j) 0) (h j d)) ∙ below_none n

-- ---- over a list

pub sum-append : {A : Type 0} (f : A → ℕ) (l m : List A) → sum_over f (l ++ m) ≡ sum_over f l + sum_over f m
sum-append f [] m = omega arith
sum-append f (a ∷ l) m = omega (arith, sum-append f l m)

pub sum_ones : {A : Type 0} (l : List A) → sum_over (λ j. 1) l ≡ length l
sum_ones [] = refl
sum_ones (a ∷ l) = omega (arith, sum_ones l)

-- ---- one more at the end

pub ascending-snoc : (l : List ℕ) (i : ℕ) → Ascending l → All (λ j. j < i) l → Ascending (l ++ (i ∷ []))
ascending-snoc [] i a h = (tt, tt)
ascending-snoc (k ∷ l) i a h = (all_snoc (λ j. k < j) l i a.0 h.0, ascending-snoc l i a.1 h.1)
