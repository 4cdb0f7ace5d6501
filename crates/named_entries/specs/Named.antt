-- Request K7: "A stitch or an area pass names the edition it uses". What its table has beside that of the call with the setting's own numbers.
-- "Refusals: 16 edition unknown, [..] where number 4 stands, before it."
use Rattle.std.specs.Prelude.{ℕ, Bool, true, not, ◌&&◌, List, [], ◌∷◌, ◌++◌, eqb, ltb}
use Rattle.basis.specs.Refuse.{Row, row}
use Rattle.settings.specs.Settings.{Held, lengths_fault, known}

-- the rows before number 4 and those from it on: the record's lengths among the lengths, the edition between the two
abbrev pub named_rows : Held → ℕ → List Row → List Row → List Row
named_rows h e front back = row (lengths_fault h) 1 ∷ (front ++ (row (not (known h.entered e)) 16 ∷ back))

-- ---- as the code looks: what the call without the two rows found, and whether 16 stands in its place

unfoldable pub unknown_fault : List ℕ → ℕ → ℕ → Bool
unknown_fault entered e number = eqb number 4 && not (known entered e)

-- rows with the numbers 1, 2 and 3 alone
abbrev pub early : List Row → Bool
early [] = true
early (row b n ∷ t) = (ltb 0 n && ltb n 4) && early t
