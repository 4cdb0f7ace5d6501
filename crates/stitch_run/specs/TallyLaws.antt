-- The candidates, and which slices have been visited.
use Rattle.std.specs.Prelude.{ℕ, zero, suc, ◌≤◌, ◌<◌, Bool, true, false, not, cond, ◌&&◌, ◌||◌, ◌≡◌, refl, ◌⊎◌, length, get_or, set, replicate}
use Rattle.std.proofs.Common.{true≢false, sym, ap, ◌∙◌, inl, inr, not-suc-le-zero, arith, length-set}
use mathlib.Core.List.Memᴰ
use mathlib.Core.List.{List, [], ◌∷◌, ◌++◌, append-nil, Memᴰ}
use Rattle.std.proofs.Math.Decide.{dec_lt}
use Rattle.std.proofs.lemmas.List.{length-replicate, get_or-replicate}
use Rattle.basis.specs.All.{All, all-imp, all_snoc}
use Rattle.select.specs.SelectTheorems.{Ascending}
use Rattle.stitch_run.specs.Run.{passing}
use Rattle.stitch_run.specs.Stitch.{sum_below}
use Rattle.stitch_run.specs.Demand3.{sum_over}
use Rattle.stitch_run.specs.SumLaws.{below-ones, weighed, weighed-set, weighed-most, weighed-none, sum-append, sum_ones, ascending-snoc}

-- ---- the candidates

-- `passing p n` lists the numbers below n that pass, and no other: what is listed passed and is below n,
pub passing-mem : (p : ℕ → Bool) (n j : ℕ) → Memᴰ j (passing p n) → (p j ≡ true) × (j < n)
unfolding passing
passing-mem p zero j m = absurd (Memᴰ.not-nil m)
passing-mem p (suc n) j m = go (Memᴰ.append_cases (passing p n) m) (passing-mem p n j)
  where
    last : (b : Bool) → p n ≡ b → Memᴰ j (cond b (n ∷ []) []) → (p j ≡ true) × (j < suc n)
    last true e h = let q : j ≡ n = Memᴰ.eq_of_singleton h in (ap p q ∙ e, omega arith)
    last false e h = absurd (Memᴰ.not-nil h)

    go : Memᴰ j (passing p n) ⊎ Memᴰ j (cond (p n) (n ∷ []) []) → (Memᴰ j (passing p n) → (p j ≡ true) × (j < n)) → (p j ≡ true) × (j < suc n)
    go (inl h) r = let s = r h in (s.0, omega arith)
    go (inr h) r = last (p n) refl h

-- and each number below n that passes is listed.
pub passing-all : (p : ℕ → Bool) (n j : ℕ) → p j ≡ true → j < n → Memᴰ j (passing p n)
unfolding passing
passing-all p zero j e h = absurd (not-suc-le-zero h)
passing-all p (suc n) j e h = go (dec_lt j n) (passing-all p n j e)
  where
    last : (b : Bool) → b ≡ true → j ≡ n → Memᴰ j (cond b (n ∷ []) [])
    last true t q = Memᴰ.head q
    last false t q = absurd (true≢false (sym t))

    go : Dec (j < n) → (j < n → Memᴰ j (passing p n)) → Memᴰ j (passing p n ++ cond (p n) (n ∷ []) [])
    go (yes d) r = Memᴰ.append_left (cond (p n) (n ∷ []) []) (r d)
    go (no d) r = let q : j ≡ n = omega arith in Memᴰ.append_right (passing p n) (last (p n) (ap p (sym q) ∙ e) q)

-- Two tests that say the same of each number below n list the same.
pub passing-same : (p q : ℕ → Bool) (n : ℕ) → ((j : ℕ) → j < n → p j ≡ q j) → passing p n ≡ passing q n
unfolding passing
passing-same p q zero h = refl
passing-same p q (suc n) h = rw (passing-same p q n (λ j d. h j (omega arith)), h n (omega arith))

-- They ascend.
passing-below : (p : ℕ → Bool) (n : ℕ) → All (λ j. j < n) (passing p n)
unfolding passing
passing-below p zero = tt
passing-below p (suc n) = go (p n) (all-imp (λ j. j < n) (λ j. j < suc n) (λ j d. omega arith) (passing p n) (passing-below p n))
  where
    go : (b : Bool) → All (λ j. j < suc n) (passing p n) → All (λ j. j < suc n) (passing p n ++ cond b (n ∷ []) [])
    go true a = all_snoc (λ j. j < suc n) (passing p n) n a (omega arith)
    go false a = rw append-nil a

pub passing-ascends : (p : ℕ → Bool) (n : ℕ) → Ascending (passing p n)
unfolding passing
passing-ascends p zero = tt
passing-ascends p (suc n) = go (p n) (passing-ascends p n)
  where
    go : (b : Bool) → Ascending (passing p n) → Ascending (passing p n ++ cond b (n ∷ []) [])
    go true a = ascending-snoc (passing p n) n a (passing-below p n)
    go false a = rw append-nil a

-- ---- marks

pub clash : {b : Bool} → b ≡ true → b ≡ false → ⊥
clash p q = true≢false (sym p ∙ q)

-- a slice that is free and is not the first has not been visited
pub unvisited : (b c o : Bool) → c ≡ false → ((not b || c) && o) ≡ true → b ≡ false
unvisited true true o e h = e
unvisited true false o e h = sym h
unvisited false c o e h = refl

-- where all marks up to i are set, a mark that is not set lies past i
pub past-marks : (l : List Bool) (i j : ℕ) → ((k : ℕ) → k < suc i → get_or l k false ≡ true) → get_or l j false ≡ false → i < j
past-marks l i j h e = go (dec_lt i j)
  where
    go : Dec (i < j) → i < j
    go (yes d) = d
    go (no d) = absurd (clash (h j (omega arith)) e)

pub marks-more : (l : List Bool) (i : ℕ) → ((k : ℕ) → k < i → get_or l k false ≡ true) → get_or l i false ≡ true → (m : ℕ) → m < suc i → get_or l m false ≡ true
marks-more l i h e m d = go (dec_lt m i)
  where
    go : Dec (m < i) → get_or l m false ≡ true
    go (yes c) = h m c
    go (no c) = let q : m ≡ i = omega arith in rw q e

-- ---- which slices have been visited: for every weight, those placed in chains weigh as much as the marks that are set
-- The weight 1 counts them, the weight "is it k?" says how often k was placed, and offset + 1 gives the room.

pub record Tally (n : ℕ) (order : List ℕ) (visited : List Bool) : Type 0 where
  pub size : length visited ≡ n
  pub weight : (f : ℕ → ℕ) → sum_over f order ≡ weighed f visited n

pub tally-none : (n : ℕ) → Tally n [] (replicate n false)
tally-none n =
    record {
      size = length-replicate n false;
      weight = λ f. sym (weighed-none f (replicate n false) n (λ j d. get_or-replicate n j false false d));
    }

pub tally-one : (n : ℕ) (order : List ℕ) (visited : List Bool) (j : ℕ) → Tally n order visited → j < n → get_or visited j false ≡ false
    → Tally n (order ++ (j ∷ [])) (set visited j true)
tally-one n order visited j t h e =
    record {
      size = length-set visited j true ∙ t.size;
      weight = λ f. omega (arith, sum-append f order (j ∷ []), t.weight f, weighed-set f visited n j h (rw t.size h) e);
    }

-- what is placed weighs no more than all slices
pub tally-weight : (n : ℕ) (order : List ℕ) (visited : List Bool) (f : ℕ → ℕ) → Tally n order visited → sum_over f order ≤ sum_below f n
tally-weight n order visited f t = omega (arith, t.weight f, weighed-most f visited n)

-- so no more than n are placed
pub tally-most : (n : ℕ) (order : List ℕ) (visited : List Bool) → Tally n order visited → length order ≤ n
tally-most n order visited t = omega (arith, sum_ones order, tally-weight n order visited (λ j. 1) t, below-ones n)
