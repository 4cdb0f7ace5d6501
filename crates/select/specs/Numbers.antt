-- The same scan over plain numbers. A class is 0 to 3, as `place_of` counts; a choice is 1 or 2 for that outline, 3 for any, 0 for none; `no_number` stands for no slice.
use Rattle.std.specs.Prelude.{ℕ, ◌<◌, Bool, true, cond, ◌&&◌, ◌≡◌, List, [], ◌∷◌, eqb, get_or, Option, Some, None}
use Rattle.basis.specs.All.{All}
use Rattle.select.specs.declared.class.Starts.{Starts}
use Rattle.select.specs.declared.table.Choice.{Choice}
use Rattle.select.specs.declared.table.Choice.TheVariants.{One, Two, Any, Nothing}
use Rattle.select.specs.declared.table.Choices.{Choices}
use Rattle.select.specs.declared.numbers.ChoiceCodes.{ChoiceCodes}
use Rattle.select.specs.declared.numbers.BestNumbers.{BestNumbers}
use Rattle.select.specs.Select.{class_of, place_of, first_that, or_else, no_number}

abbrev pub choice_code : Choice → ℕ
choice_code Nothing = 0
choice_code One = 1
choice_code Two = 2
choice_code Any = 3

abbrev pub choice_codes : Choices → ChoiceCodes
choice_codes c = record { first = choice_code c.first; second = choice_code c.second; third = choice_code c.third }

-- the table in these codes: by selector, class and choice
abbrev pub code_table : List (List (List ℕ))
code_table =
    ((2 ∷ 1 ∷ 3 ∷ []) ∷ (1 ∷ 2 ∷ 3 ∷ []) ∷ (2 ∷ 1 ∷ 3 ∷ []) ∷ (1 ∷ 2 ∷ 3 ∷ []) ∷ [])
    ∷ ((2 ∷ 3 ∷ 3 ∷ []) ∷ (1 ∷ 3 ∷ 3 ∷ []) ∷ (2 ∷ 1 ∷ 0 ∷ []) ∷ (1 ∷ 2 ∷ 0 ∷ []) ∷ [])
    ∷ []

unfoldable pub preference_code : ℕ → ℕ → ℕ → ℕ
preference_code selector class choice = get_or (get_or (get_or code_table selector []) class []) choice 0

-- what is looked up is in the table
pub record Lookup (selector class choice : ℕ) : Type 0 where
  pub selectors : selector < 2
  pub classes : class < 4
  pub choices : choice < 3

-- a slice of this class may be taken for this choice
unfoldable pub suits_code : ℕ → ℕ → Bool
suits_code code class = cond (eqb code 3) true (cond (eqb code 1) (eqb class 0) (eqb code 2 && eqb class 1))

unfoldable pub choose_code : Starts → ℕ → List ℕ → Option ℕ
choose_code s code l = first_that (λ j. suits_code code (place_of (class_of s j))) l

unfoldable pub pick_code : ChoiceCodes → Starts → List ℕ → Option ℕ
pick_code c s l = or_else (choose_code s c.first l) (or_else (choose_code s c.second l) (choose_code s c.third l))

unfoldable pub no_numbers : BestNumbers
no_numbers = record { first = no_number; second = no_number; third = no_number }

unfoldable pub kept_number : ℕ → ℕ → ℕ → ℕ → ℕ
kept_number before code candidate class = cond (eqb before no_number) (cond (suits_code code class) candidate before) before

unfoldable pub offer_numbers : BestNumbers → ChoiceCodes → ℕ → ℕ → BestNumbers
offer_numbers b c candidate class =
    record {
      first = kept_number b.first c.first candidate class;
      second = kept_number b.second c.second candidate class;
      third = kept_number b.third c.third candidate class;
    }

unfoldable pub chosen_number : BestNumbers → Option ℕ
chosen_number b =
    cond (eqb b.first no_number)
    (cond (eqb b.second no_number) (cond (eqb b.third no_number) None (Some b.third)) (Some b.second))
    (Some b.first)

-- an answer as the scan keeps it
abbrev pub number_of : Option ℕ → ℕ
number_of (Some j) = j
number_of None = no_number

-- of each choice the first of the list that suits
unfoldable pub best_numbers : ChoiceCodes → Starts → List ℕ → BestNumbers
best_numbers c s l =
    record { first = number_of (choose_code s c.first l); second = number_of (choose_code s c.second l); third = number_of (choose_code s c.third l) }

-- the list l of slices' numbers was offered, and b was kept
pub record NumbersScanned (c : ChoiceCodes) (s : Starts) (l : List ℕ) (b : BestNumbers) : Type 0 where
  pub below : All (λ j. j < no_number) l
  pub is : b ≡ best_numbers c s l
