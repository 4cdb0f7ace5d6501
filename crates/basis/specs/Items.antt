-- Items of some elements each, one after the other: item 0, item 1 and so on.
use Rattle.std.specs.Prelude.{ℕ, zero, suc, List, [], ◌++◌}

-- the first n items, in a row
unfoldable pub first_items : {A : Type 0} → (ℕ → List A) → ℕ → List A
first_items f zero = []
first_items f (suc n) = first_items f n ++ f n
