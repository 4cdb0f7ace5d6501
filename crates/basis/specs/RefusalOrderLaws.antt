-- A table whose rows stand in the order of the numbers gives the first number that applies. For document 01's own numbers that is the lowest.
use Rattle.std.specs.Prelude.{ℕ, ◌≤◌, ◌<◌, Bool, true, false, not, ◌&&◌, ◌||◌, ◌≡◌, refl, List, [], ◌∷◌, length, T, ltb, leb}
use Rattle.std.proofs.Common.{true≢false, sym, ap, inl, inr, arith, le_of_eq, leb-true, ltb-true, ltb-false, lt-ltb}
use Rattle.basis.specs.Choice.{by-test, T-left, T-right, true_of}
use Rattle.basis.specs.Each.{each_to}
use Rattle.basis.specs.EachLaws.{each_at}
use Rattle.basis.specs.Refuse.{Row, row, first_of}
use Rattle.basis.specs.RefusalOrder.{refusal_order, before, place_of, Applies, First, in_order_from, in_order}

-- 0 is no number of the order
zero-last : length refusal_order ≤ place_of 0
unfolding refusal_order before
zero-last = le_of_eq refl

first-applies : (t : List Row) → (first_of t ≡ 0 → ⊥) → Applies (first_of t) t
unfolding first_of
first-applies [] h = absurd (h refl)
first-applies (row true n ∷ t) h = inl (refl, refl)
first-applies (row false n ∷ t) h = inr (first-applies t h)

-- what the test of a row says
module _ (k n : ℕ) (t : List Row) (h : T (in_order_from k (row true n ∷ t))) where
  rest : T (ltb (place_of n) (length refusal_order) && in_order_from (place_of n) t)
  rest = T-right (leb k (place_of n)) _ h

  above : k ≤ place_of n
  above = leb-true k (place_of n) (true_of (leb k (place_of n)) (T-left (leb k (place_of n)) _ h))

  listed : place_of n < length refusal_order
  listed = ltb-true (place_of n) (length refusal_order) (true_of _ (T-left (ltb (place_of n) (length refusal_order)) _ rest))

  after : T (in_order_from (place_of n) t)
  after = T-right (ltb (place_of n) (length refusal_order)) _ rest

place_same : (m n : ℕ) → m ≡ n → place_of m ≡ place_of n
place_same m n e = ap place_of e

-- in a table in order each number that applies stands at k or later, and is not 0
later : (k : ℕ) (t : List Row) → T (in_order_from k t) → (n : ℕ) → Applies n t → (k ≤ place_of n) × (place_of n < length refusal_order)
later k [] h n a = absurd a
later k (row b m ∷ t) h n (inl (p, q)) =
    let e = place_same m n q in
    let u = above k m t h in
    let l = listed k m t h in
    (omega (arith, e, u), omega (arith, e, l))
later k (row b m ∷ t) h n (inr a) =
    let u = above k m t h in
    let r = later (place_of m) t (after k m t h) n a in
    (omega (arith, u, r.0), r.1)

none-applies : (k : ℕ) (t : List Row) → T (in_order_from k t) → first_of t ≡ 0 → (n : ℕ) → Applies n t → ⊥
unfolding first_of
none-applies k [] h e n a = a
none-applies k (row true m ∷ t) h e n a =
    let l = listed k m t h in
    let z = zero-last in
    let p = place_same m 0 e in
    omega (arith, l, z, p)
none-applies k (row false m ∷ t) h e n (inl (p, q)) = absurd (true≢false (sym p))
none-applies k (row false m ∷ t) h e n (inr a) = none-applies (place_of m) t (after k m t h) e n a

comes-first : (k : ℕ) (t : List Row) → T (in_order_from k t) → (n : ℕ) → Applies n t → place_of (first_of t) ≤ place_of n
unfolding first_of
comes-first k [] h n a = absurd a
comes-first k (row true m ∷ t) h n (inl (p, q)) = le_of_eq (place_same m n q)
comes-first k (row true m ∷ t) h n (inr a) = (later (place_of m) t (after k m t h) n a).0
comes-first k (row false m ∷ t) h n (inl (p, q)) = absurd (true≢false (sym p))
comes-first k (row false m ∷ t) h n (inr a) = comes-first (place_of m) t (after k m t h) n a

pub first-of : (t : List Row) → T (in_order t) → First t (first_of t)
first-of t h = record { applies = first-applies t; none = none-applies 0 t h; first = λ _. comes-first 0 t h }

-- ---- "The lowest number that applies is given": the order of document 01's own numbers is that of their size

-- of two different ones the lower stands before the other
stands : ℕ → ℕ → Bool
stands a b = not (ltb 0 a && ltb a b) || ltb (place_of a) (place_of b)

each_stands : each_to (λ a. each_to (stands a) 10) 10 ≡ true
unfolding each_to stands refusal_order before
each_stands = refl

stands-before : (a b : ℕ) → stands a b ≡ true → 0 < a → a < b → place_of a < place_of b
unfolding stands
stands-before a b e p q = ltb-true (place_of a) (place_of b) (rw (lt-ltb 0 a p, lt-ltb a b q) at e)

pub own-lowest : (n m : ℕ) → 0 < m → n ≤ 9 → m ≤ 9 → place_of n ≤ place_of m → n ≤ m
own-lowest n m some few less most =
    by-test (ltb m n)
    (λ e. let l : m < n = ltb-true m n e in
    let s = each_at (stands m) 10 n (each_at (λ a. each_to (stands a) 10) 10 m each_stands (omega arith)) (omega arith) in
    let q = stands-before m n s some l in
    absurd (omega (arith, q)))
    (λ e. ltb-false m n e)
