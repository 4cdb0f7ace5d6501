-- Worked examples, each computed. A byte is its ASCII code.
use Rattle.std.specs.Prelude.{ℕ, Bool, true, false, ◌≡◌, refl, [], ◌∷◌}
use Rattle.text.specs.declared.lines.Line.{Line}
use Rattle.text.specs.declared.lines.Stage.{Stage}
use Rattle.text.specs.declared.lines.Stage.TheVariants.{Start, FirstDigits, SecondSign, SecondDigits, After, NoPair}
use Rattle.text.specs.Lines.{is_blank, is_digit, on_blank, on_minus, on_digit, in_first, more, stage_of, other_read, step, line_from, line_of}

abbrev pair : Stage → Bool → ℕ → Bool → ℕ → Line
pair s a x b y = record { stage = s; negative = b; size = y; first_negative = a; first_size = x }

-- `4 -20`
plain : line_of (52 ∷ 32 ∷ 45 ∷ 50 ∷ 48 ∷ []) ≡ pair SecondDigits false 4 true 20
unfolding line_from step is_digit is_blank on_blank on_minus on_digit in_first more stage_of other_read
plain = refl

-- tabs, more blanks, and a carriage return at the end
blanks : line_of (32 ∷ 9 ∷ 45 ∷ 49 ∷ 9 ∷ 32 ∷ 55 ∷ 13 ∷ []) ≡ pair After true 1 false 7
unfolding line_from step is_digit is_blank on_blank on_minus on_digit in_first more stage_of other_read
blanks = refl

empty : (line_of (32 ∷ 13 ∷ [])).stage ≡ Start
unfolding line_from step is_digit is_blank on_blank on_minus on_digit in_first more stage_of other_read
empty = refl

-- `400000000 400000001`: the last number in range, and the first past it
far : line_of (52 ∷ 48 ∷ 48 ∷ 48 ∷ 48 ∷ 48 ∷ 48 ∷ 48 ∷ 48 ∷ 32 ∷ 52 ∷ 48 ∷ 48 ∷ 48 ∷ 48 ∷ 48 ∷ 48 ∷ 48 ∷ 49 ∷ []) ≡ pair SecondDigits false 400000000 false 400000001
unfolding line_from step is_digit is_blank on_blank on_minus on_digit in_first more stage_of other_read
far = refl

-- one number, three numbers, a sign alone, two signs, a sign behind a digit, a letter, a fraction
one_number : (line_of (52 ∷ [])).stage ≡ FirstDigits
unfolding line_from step is_digit is_blank on_blank on_minus on_digit in_first more stage_of other_read
one_number = refl

three-numbers : (line_of (49 ∷ 32 ∷ 50 ∷ 32 ∷ 51 ∷ [])).stage ≡ NoPair
unfolding line_from step is_digit is_blank on_blank on_minus on_digit in_first more stage_of other_read
three-numbers = refl

sign-alone : (line_of (49 ∷ 32 ∷ 45 ∷ [])).stage ≡ SecondSign
unfolding line_from step is_digit is_blank on_blank on_minus on_digit in_first more stage_of other_read
sign-alone = refl

two-signs : (line_of (45 ∷ 45 ∷ 49 ∷ 32 ∷ 50 ∷ [])).stage ≡ NoPair
unfolding line_from step is_digit is_blank on_blank on_minus on_digit in_first more stage_of other_read
two-signs = refl

sign-behind : (line_of (49 ∷ 45 ∷ 32 ∷ 50 ∷ [])).stage ≡ NoPair
unfolding line_from step is_digit is_blank on_blank on_minus on_digit in_first more stage_of other_read
sign-behind = refl

letter : (line_of (49 ∷ 32 ∷ 120 ∷ [])).stage ≡ NoPair
unfolding line_from step is_digit is_blank on_blank on_minus on_digit in_first more stage_of other_read
letter = refl

fraction : (line_of (49 ∷ 46 ∷ 53 ∷ 32 ∷ 50 ∷ [])).stage ≡ NoPair
unfolding line_from step is_digit is_blank on_blank on_minus on_digit in_first more stage_of other_read
fraction = refl
