-- The report of document 02, K8, as a program: a vertex is a line of two whole numbers, and an empty line parts outlines. How a line is read, byte by byte:
-- blanks, a whole number, blanks, a whole number, blanks; or blanks alone, which is an empty line.
use Rattle.std.specs.Prelude.{ℕ, ◌+◌, ◌-◌, ◌*◌, ◌≤◌, Bool, true, false, cond, ◌&&◌, ◌≡◌, List, [], ◌∷◌, eqb, ltb, leb, ℤ, pos, ◌-ℤ◌}
use Rattle.text.specs.declared.lines.Line.{Line}
use Rattle.text.specs.declared.lines.NumberedLine.{NumberedLine}
use Rattle.text.specs.declared.lines.Stage.{Stage}
use Rattle.text.specs.declared.lines.Stage.TheVariants.{Start, FirstSign, FirstDigits, Between, SecondSign, SecondDigits, After, NoPair}

-- a space, a tab or a carriage return
unfoldable pub is_blank : ℕ → Bool
is_blank c = cond (eqb c 32) true (cond (eqb c 9) true (eqb c 13))

-- `0` to `9`
unfoldable pub is_digit : ℕ → Bool
is_digit c = leb 48 c && leb c 57

-- where a stage leads (`Stage` of src/lines.rt says what each means): a blank, a minus sign, a digit
unfoldable pub on_blank : Stage → Stage
on_blank Start = Start
on_blank FirstDigits = Between
on_blank Between = Between
on_blank SecondDigits = After
on_blank After = After
on_blank s = NoPair

unfoldable pub on_minus : Stage → Stage
on_minus Start = FirstSign
on_minus Between = SecondSign
on_minus s = NoPair

unfoldable pub on_digit : Stage → Stage
on_digit Start = FirstDigits
on_digit FirstSign = FirstDigits
on_digit FirstDigits = FirstDigits
on_digit Between = SecondDigits
on_digit SecondSign = SecondDigits
on_digit SecondDigits = SecondDigits
on_digit s = NoPair

-- the first number's digits are being read
unfoldable pub in_first : Stage → Bool
in_first FirstDigits = true
in_first s = false

-- a digit more: ten times the number and the digit. Past 400,000,000 a number is out of range, whatever follows
unfoldable pub more : ℕ → ℕ → ℕ
more size digit = cond (ltb 400000000 size) size (10 * size + digit)

-- `0` is 48
abbrev pub digit_of : ℕ → ℕ
digit_of c = c - 48

abbrev pub digit_read : Line → ℕ → Line
digit_read l c = record { stage = on_digit l.stage; negative = l.negative; size = more l.size (digit_of c); first_negative = l.first_negative; first_size = l.first_size }

abbrev pub minus_read : Line → Line
minus_read l = record { stage = on_minus l.stage; negative = true; size = l.size; first_negative = l.first_negative; first_size = l.first_size }

-- the first number is read, and the second begins
abbrev pub shifted : Line → Stage → Line
shifted l s = record { stage = s; negative = false; size = 0; first_negative = l.negative; first_size = l.size }

abbrev pub moved : Line → Stage → Line
moved l s = record { stage = s; negative = l.negative; size = l.size; first_negative = l.first_negative; first_size = l.first_size }

-- a byte that is no digit and no minus sign: only a blank may follow a number
unfoldable pub stage_of : Stage → ℕ → Stage
stage_of s c = cond (is_blank c) (on_blank s) NoPair

unfoldable pub other_read : Line → ℕ → Line
other_read l c = cond (in_first l.stage) (shifted l (stage_of l.stage c)) (moved l (stage_of l.stage c))

-- `-` is 45
unfoldable pub step : Line → ℕ → Line
step l c = cond (is_digit c) (digit_read l c) (cond (eqb c 45) (minus_read l) (other_read l c))

-- a whole line, without its end
abbrev pub fresh : Line
fresh = record { stage = Start; negative = false; size = 0; first_negative = false; first_size = 0 }

unfoldable pub line_from : Line → List ℕ → Line
line_from l [] = l
line_from l (c ∷ r) = line_from (step l c) r

abbrev pub line_of : List ℕ → Line
line_of text = line_from fresh text

-- it is a pair where it ended in the second number or in blanks after it
abbrev pub ends_pair : Stage → Bool
ends_pair SecondDigits = true
ends_pair After = true
ends_pair s = false

unfoldable pub is_pair : Line → Bool
is_pair l = ends_pair l.stage

-- and empty where there was nothing but blanks
abbrev pub only_blanks : Stage → Bool
only_blanks Start = true
only_blanks s = false

abbrev pub is_empty : Line → Bool
is_empty l = only_blanks l.stage

-- a number past the range is read as 400,000,001, so that it is refused as out of range
abbrev pub capped_of : ℕ → ℕ
capped_of size = cond (ltb 400000000 size) 400000001 size

unfoldable pub coordinate_of : Bool → ℕ → ℤ
coordinate_of negative size = cond negative (pos 0 -ℤ pos (capped_of size)) (pos (capped_of size))

pub record Capped (size r : ℕ) : Type 0 where
  pub is : r ≡ capped_of size
  pub most : r ≤ 400000001

-- a stage by its number, in the order of `Stage`; every number past them is no pair, as 7 is
unfoldable pub stage_numbered : ℕ → Stage
stage_numbered n =
    cond (eqb n 0) Start (cond (eqb n 1) FirstSign (cond (eqb n 2) FirstDigits (cond (eqb n 3) Between (cond (eqb n 4) SecondSign (cond (eqb n 5) SecondDigits (cond (eqb n 6) After NoPair))))))

-- a line by its numbers: 1 is a minus sign
unfoldable pub line_numbered : NumberedLine → Line
line_numbered l =
    record { stage = stage_numbered l.stage; negative = eqb l.negative 1; size = l.size; first_negative = eqb l.first_negative 1; first_size = l.first_size }
