-- Stores one after another.
use Rattle.std.specs.Prelude.{ℕ, suc, ◌+◌, ◌≤◌, ◌≡◌, List, [], ◌∷◌, ◌++◌, length, set, drop}
use Rattle.std.proofs.Common.{ap, ◌∙◌, arith}
use Rattle.std.proofs.lemmas.List.Edits.{sets, sets-eq}

pub sets-append : {A : Type 0} (l : List A) (i : ℕ) (xs ys : List A) → sets l i (xs ++ ys) ≡ sets (sets l i xs) (i + length xs) ys
sets-append l i [] ys = let e : i ≡ i + 0 = omega arith in ap (λ (k : ℕ). sets l k ys) e
sets-append l i (x ∷ xs) ys =
    let e : suc i + length xs ≡ i + suc (length xs) = omega arith in
    sets-append (set l i x) (suc i) xs ys ∙ ap (λ (k : ℕ). sets (sets (set l i x) (suc i) xs) k ys) e

-- the same where the second part's place is known by another name
pub sets_then : {A : Type 0} (l : List A) (i n : ℕ) (xs ys : List A) → length xs ≡ n → sets (sets l i xs) (i + n) ys ≡ sets l i (xs ++ ys)
sets_then l i n xs ys e = rw (sets-append l i xs ys, e)

-- stores from the front on
pub sets-front : {A : Type 0} (l xs : List A) → length xs ≤ length l → sets l 0 xs ≡ xs ++ drop (length xs) l
sets-front l xs h = let e : 0 + length xs ≡ length xs = omega arith in sets-eq xs l 0 (omega arith) ∙ ap (λ (k : ℕ). xs ++ drop k l) e

pub sets-after : {A : Type 0} (l : List A) (n : ℕ) (xs ys : List A) → length xs ≡ n → sets (sets l 0 xs) n ys ≡ sets l 0 (xs ++ ys)
sets-after l n xs ys e = let z : 0 + n ≡ n = omega arith in rw z at (sets_then l 0 n xs ys e)
