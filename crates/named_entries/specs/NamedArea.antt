-- The entry `mask_area_pass`: it names a setting, whose limit it uses.
use Rattle.std.specs.Prelude.{ℕ, not, List, ◌∷◌, length, Float}
use Rattle.basis.specs.Number.{limit_ok}
use Rattle.basis.specs.Refuse.{Row, row, first_of}
use Rattle.basis.specs.declared.answer.CountAnswer.{CountAnswer}
use Rattle.settings.specs.Settings.{Held, asked_of}
use Rattle.area_entries.specs.AreaEntry.{area_list_rows, area_last_rows, AreaBy}
use Rattle.named_entries.specs.Named.{named_rows}

-- the setting's limit; its tolerances are not looked at
abbrev pub limit_in : Held → ℕ → Float
limit_in h e = (asked_of h e).area_limit

abbrev pub named_area_rows : Held → ℕ → List Float → ℕ → ℕ → List Row
named_area_rows h e areas loops kept = named_rows h e (area_list_rows areas loops) (row (not (limit_ok (limit_in h e))) 4 ∷ area_last_rows areas loops kept)

unfoldable pub named_area_refusal : Held → ℕ → List Float → ℕ → ℕ → ℕ
named_area_refusal h e areas loops kept = first_of (named_area_rows h e areas loops kept)

-- the answer and the lent list, by that number and that limit
abbrev pub NamedArea : Held → ℕ → List Float → ℕ → List ℕ → CountAnswer → List ℕ → Type 0
NamedArea h e areas loops kept r left = AreaBy (named_area_refusal h e areas loops (length kept)) areas (limit_in h e) kept r left
