-- Laws of the lists of values: parts through a function, and how long rows of codes, numbers and editions are.
use Rattle.std.specs.Prelude.{ℕ, zero, suc, ◌+◌, ◌*◌, ◌≤◌, ◌≡◌, refl, List, [], ◌∷◌, ◌++◌, map, length, take, drop}
use Rattle.std.proofs.Common.{ap, ◌∙◌, arith, suc-mul, length-append, length-drop, length-take-le}
use Rattle.record_form.specs.Form.{mix}

pub map-take : {A B : Type 0} (g : A → B) (n : ℕ) (l : List A) → map g (take n l) ≡ take n (map g l)
map-take g zero l = refl
map-take g (suc n) [] = refl
map-take g (suc n) (x ∷ l) = ap (◌∷◌ (g x)) (map-take g n l)

pub map-drop : {A B : Type 0} (g : A → B) (n : ℕ) (l : List A) → map g (drop n l) ≡ drop n (map g l)
map-drop g zero l = refl
map-drop g (suc n) [] = refl
map-drop g (suc n) (x ∷ l) = map-drop g n l

pub length-mix : {A : Type 0} (c m n : ℕ) (codes numbers dates : List A) → n * c ≤ length codes → n * m ≤ length numbers → n ≤ length dates
    → length (mix c m n codes numbers dates) ≡ n * (c + m + 1)
unfolding mix
length-mix c m zero codes numbers dates h k l = omega arith
length-mix c m (suc n) codes numbers dates h k l =
    let e : suc n * c ≡ n * c + c = suc-mul n c in
    let f : suc n * m ≡ n * m + m = suc-mul n m in
    let p : length (take c codes) ≡ c = length-take-le c codes (omega arith) in
    let q : length (take m numbers) ≡ m = length-take-le m numbers (omega arith) in
    let t : length (take 1 dates) ≡ 1 = length-take-le 1 dates (omega arith) in
    let r = mix c m n (drop c codes) (drop m numbers) (drop 1 dates) in
    let i : length r ≡ n * (c + m + 1) =
    length-mix c m n (drop c codes) (drop m numbers) (drop 1 dates) (rw length-drop (omega arith)) (rw length-drop (omega arith)) (rw length-drop (omega arith)) in
    length-append (take c codes) (take m numbers ++ (take 1 dates ++ r))
    ∙ omega (arith, p, q, t, length-append (take m numbers) (take 1 dates ++ r), length-append (take 1 dates) r, suc-mul n (c + m + 1), i)
