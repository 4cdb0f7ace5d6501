-- The order in which refusals are looked at. Document 01: "The lowest number that applies is given, and none otherwise." The requests of document 02 put their numbers
-- between document 01's: 11, 12 and 13 "before all others"; 16 and 17 "where number 4 stands, before it"; 18 and 19 "where number 5 stands, 18 first"; 15 "after 6";
-- 14 "after 8 and before 9"; 22 "before 20 and 21". 10 is not among them: K12, "The number isn't used again."
use Rattle.std.specs.Prelude.{ℕ, suc, ◌≤◌, Bool, true, cond, ◌&&◌, ◌≡◌, ◌⊎◌, List, [], ◌∷◌, length, eqb, ltb, leb}
use Rattle.basis.specs.Refuse.{Row, row}

-- all numbers, first to last
unfoldable pub refusal_order : List ℕ
refusal_order =
    11 ∷ 12 ∷ 13 ∷ 1 ∷ 2 ∷ 3 ∷ 16 ∷ 17 ∷ 4 ∷ 5 ∷ 18 ∷ 19 ∷ 6 ∷ 15 ∷ 7 ∷ 8 ∷ 14 ∷ 9 ∷ 22 ∷ 20 ∷ 21 ∷ []

-- how many of them stand before n
unfoldable pub before : ℕ → List ℕ → ℕ
before n [] = 0
before n (m ∷ l) = cond (eqb m n) 0 (suc (before n l))

abbrev pub place_of : ℕ → ℕ
place_of n = before n refusal_order

-- a row with the number n has its fault there
abbrev pub Applies : ℕ → List Row → Type 0
Applies n [] = ⊥
Applies n (row b m ∷ t) = ((b ≡ true) × (m ≡ n)) ⊎ Applies n t

-- the number that is given for a table: it applies unless it is 0, and no number that applies stands before it
pub record First (rows : List Row) (number : ℕ) : Type 0 where
  pub applies : (number ≡ 0 → ⊥) → Applies number rows
  pub none : number ≡ 0 → (n : ℕ) → Applies n rows → ⊥
  pub first : (number ≡ 0 → ⊥) → (n : ℕ) → Applies n rows → place_of number ≤ place_of n

-- a table whose rows stand in the order, each with a number of it
abbrev pub in_order_from : ℕ → List Row → Bool
in_order_from k [] = true
in_order_from k (row b n ∷ t) = leb k (place_of n) && (ltb (place_of n) (length refusal_order) && in_order_from (place_of n) t)

abbrev pub in_order : List Row → Bool
in_order t = in_order_from 0 t
