-- What is reported of a list of chains: how it grows with a chain, and how long it is.
use Rattle.std.specs.Prelude.{ℕ, suc, ◌+◌, ◌*◌, ◌≤◌, ◌<◌, ◌≡◌, refl, length}
use Rattle.std.proofs.Common.{ap, ◌∙◌, arith, length-append}
use mathlib.Core.List.{List, [], ◌∷◌, ◌++◌, map, flat_map}
use Rattle.std.proofs.lemmas.List.{length-reverse}
use Rattle.basis.specs.All.{All}
use Rattle.outline.specs.declared.point.Vertex.{Vertex}
use Rattle.outline.specs.Points.{vertex_numbers}
use Rattle.stitch_vertices.specs.Vertices.{drop_last}
use Rattle.stitch_run.specs.Run.{Chain, Ending, closed, too_small, no_candidate, no_selection, slices_of, rounds_of, order_of}
use Rattle.stitch_run.specs.Stitch.{loop_of, loops_of, how_of, totals}
use Rattle.stitch_run.specs.Demand3.{sum_over, LowestFirst, leaves, finished}
use Rattle.stitch_run.specs.SumLaws.{sum-append}
use Rattle.basis.specs.FlatLaws.{flat-snoc}
use Rattle.stitch_run.specs.StitchLaws.{drop-length}

-- ---- one chain more

pub order-snoc : {C : Type 0} (l : List (Chain C)) (c : Chain C) → order_of (l ++ (c ∷ [])) ≡ order_of l ++ slices_of c
unfolding order_of
order-snoc l c = flat-snoc slices_of l c

pub rounds-snoc : {C : Type 0} (l : List (Chain C)) (c : Chain C) → rounds_of (l ++ (c ∷ [])) ≡ rounds_of l ++ c.rounds
unfolding rounds_of
rounds-snoc l c = flat-snoc (λ d. d.rounds) l c

pub loops-snoc : (l : List (Chain (List Vertex))) (c : Chain (List Vertex)) → loops_of (l ++ (c ∷ [])) ≡ loops_of l ++ loop_of c.ending c.built
unfolding loops_of
loops-snoc l c = flat-snoc (λ d. loop_of d.ending d.built) l c

-- one number more
pub totals-snoc : (m : ℕ) (l : List ℕ) (k : ℕ) → totals m (l ++ (k ∷ [])) ≡ totals m l ++ ((m + sum_over (λ i. i) l + k) ∷ [])
unfolding totals
totals-snoc m [] k = let e : m + k ≡ m + 0 + k = omega arith in rw e
totals-snoc m (a ∷ l) k =
    let e : m + a + sum_over (λ i. i) l + k ≡ m + (a + sum_over (λ i. i) l) + k = omega arith in
    ap (λ (r : List ℕ). (m + a) ∷ r) (totals-snoc (m + a) l k ∙ ap (λ (n : ℕ). totals (m + a) l ++ (n ∷ [])) e)

-- ---- lengths

pub totals-length : (m : ℕ) (l : List ℕ) → length (totals m l) ≡ length l
unfolding totals
totals-length m [] = refl
totals-length m (a ∷ l) = ap suc (totals-length (m + a) l)

-- no total is above the sum of all
pub totals-most : (m most : ℕ) (l : List ℕ) → m + sum_over (λ i. i) l ≤ most → All (λ n. n ≤ most) (totals m l)
unfolding totals
totals-most m most [] h = tt
totals-most m most (a ∷ l) h = (omega arith, totals-most (m + a) most l (omega arith))

pub sum-map : {A : Type 0} (f : A → ℕ) (l : List A) → sum_over (λ i. i) (map f l) ≡ sum_over f l
sum-map f [] = refl
sum-map f (a ∷ l) = ap (λ (n : ℕ). f a + n) (sum-map f l)

pub flat-length : {A B : Type 0} (f : A → List B) (l : List A) → length (flat_map f l) ≡ sum_over (λ a. length (f a)) l
unfolding flat_map
flat-length f [] = refl
flat-length f (a ∷ l) = omega (arith, length-append (f a) (flat_map f l), flat-length f l)

numbers-length : (vs : List Vertex) → length (flat_map vertex_numbers vs) ≡ 3 * length vs
unfolding flat_map
numbers-length [] = omega arith
numbers-length (v ∷ vs) = omega (arith, numbers-length vs)

-- the flat list has three numbers for each vertex of the loops
pub flat-loops : (l : List (List Vertex)) → length (flat_map (λ vs. flat_map vertex_numbers vs) l) ≡ 3 * sum_over length l
unfolding flat_map
flat-loops [] = omega arith
flat-loops (vs ∷ l) = omega (arith, length-append (flat_map vertex_numbers vs) (flat_map (λ ws. flat_map vertex_numbers ws) l), numbers-length vs, flat-loops l)

-- the loop of a chain has the vertices that it leaves
loop-size : (e : Ending) (vs : List Vertex) → sum_over length (loop_of e vs) ≡ leaves e (length vs)
unfolding loop_of
loop-size closed vs = omega (arith, length-reverse (drop_last vs), drop-length vs)
loop-size too_small vs = refl
loop-size no_candidate vs = refl
loop-size no_selection vs = refl

loop-few : (e : Ending) (vs : List Vertex) → length (loop_of e vs) ≤ 1
unfolding loop_of
loop-few closed vs = omega arith
loop-few too_small vs = omega arith
loop-few no_candidate vs = omega arith
loop-few no_selection vs = omega arith

-- the loops of some chains have the vertices that these leave
pub loops-size : (l : List (Chain (List Vertex))) → sum_over length (loops_of l) ≡ finished length l
unfolding loops_of flat_map
loops-size [] = refl
loops-size (c ∷ l) = omega (arith, sum-append length (loop_of c.ending c.built) (loops_of l), loop-size c.ending c.built, loops-size l)

-- no more loops than chains
pub loops-few : (l : List (Chain (List Vertex))) → length (loops_of l) ≤ length l
unfolding loops_of flat_map
loops-few [] = omega arith
loops-few (c ∷ l) = omega (arith, length-append (loop_of c.ending c.built) (loops_of l), loop-few c.ending c.built, loops-few l)

-- no more chains than slices in them, where each has one
pub chains-few : {C : Type 0} (l : List (Chain C)) → All (λ c. LowestFirst (slices_of c)) l → length l ≤ length (order_of l)
unfolding order_of flat_map
chains-few [] a = omega arith
chains-few (c ∷ l) a = omega (arith, some (slices_of c) a.0, length-append (slices_of c) (order_of l), chains-few l a.1)
  where
    some : (s : List ℕ) → LowestFirst s → 1 ≤ length s
    some [] h = absurd h
    some (i ∷ s) h = omega arith

-- ---- how chains ended

how-known : (e : Ending) → how_of e < 4
unfolding how_of
how-known closed = omega arith
how-known too_small = omega arith
how-known no_candidate = omega arith
how-known no_selection = omega arith

pub hows-known : {C : Type 0} (l : List (Chain C)) → All (λ n. n < 4) (map (λ c. how_of c.ending) l)
hows-known [] = tt
hows-known (c ∷ l) = (how-known c.ending, hows-known l)
