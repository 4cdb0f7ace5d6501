-- A line of two numerals reads as their numbers: exactly where they are in range, and as past the range where they are past it.
use Rattle.std.specs.Prelude.{ℕ, ◌+◌, ◌*◌, ◌≤◌, ◌<◌, ◌≡◌, refl, Bool, true, false, cond, List, [], ◌∷◌, ◌++◌, eqb, ltb}
use Rattle.std.proofs.Common.{arith, ap, ◌∙◌, lt-ltb, ltb-true}
use Rattle.basis.specs.Choice.{by-test, and_left, and_right}
use Rattle.basis.specs.All.{all_of}
use Rattle.text.specs.declared.lines.Line.{Line}
use Rattle.text.specs.declared.lines.Stage.{Stage}
use Rattle.text.specs.declared.lines.Stage.TheVariants.{Start, FirstSign, FirstDigits, Between, SecondSign, SecondDigits}
use Rattle.text.specs.Lines.{is_blank, is_digit, on_blank, on_minus, on_digit, in_first, more, digit_of, digit_read, minus_read, stage_of, other_read, step, line_from, line_of}

-- the number that digits say, without bound, and what is read of it
abbrev pub value_from : ℕ → List ℕ → ℕ
value_from n [] = n
value_from n (c ∷ r) = value_from (10 * n + digit_of c) r

abbrev pub size_from : ℕ → List ℕ → ℕ
size_from n [] = n
size_from n (c ∷ r) = size_from (more n (digit_of c)) r

-- ---- what is read is the number, or past the range like it
grows : (n : ℕ) (r : List ℕ) → 400000000 < n → 400000000 < value_from n r
grows n [] h = h
grows n (c ∷ r) h = grows (10 * n + digit_of c) r (omega arith)

stays : (n : ℕ) (r : List ℕ) → 400000000 < n → 400000000 < size_from n r
unfolding more
stays n [] h = h
stays n (c ∷ r) h = stays (more n (digit_of c)) r (subst-more (ap (λ (b : Bool). cond b n (10 * n + digit_of c)) (lt-ltb 400000000 n h)))
  where
    subst-more : more n (digit_of c) ≡ n → 400000000 < more n (digit_of c)
    subst-more e = omega arith

-- in range: exactly; past it: past it
pub size_exact : (n : ℕ) (r : List ℕ) → value_from n r ≤ 400000000 → size_from n r ≡ value_from n r
unfolding more
size_exact n [] h = refl
size_exact n (c ∷ r) h =
    by-test (ltb 400000000 n)
    (λ t. let k = grows (10 * n + digit_of c) r (far (ltb-true 400000000 n t)) in absurd (clash-of k h))
    (λ t. ap (λ (b : Bool). size_from (cond b n (10 * n + digit_of c)) r) t ∙ size_exact (10 * n + digit_of c) r h)
  where
    far : 400000000 < n → 400000000 < 10 * n + digit_of c
    far p = omega arith

    clash-of : 400000000 < value_from (10 * n + digit_of c) r → value_from (10 * n + digit_of c) r ≤ 400000000 → ⊥
    clash-of p q = omega arith

pub size-past : (n : ℕ) (r : List ℕ) → 400000000 < value_from n r → 400000000 < size_from n r
unfolding more
size-past n [] h = h
size-past n (c ∷ r) h =
    by-test (ltb 400000000 n)
    (λ t. stays n (c ∷ r) (ltb-true 400000000 n t))
    (λ t. past (ap (λ (b : Bool). size_from (cond b n (10 * n + digit_of c)) r) t) (size-past (10 * n + digit_of c) r h))
  where
    past : {a b : ℕ} → a ≡ b → 400000000 < b → 400000000 < a
    past e p = omega arith

-- ---- how a line goes on
abbrev line : Stage → Bool → ℕ → Bool → ℕ → Line
line s neg size fn fs = record { stage = s; negative = neg; size = size; first_negative = fn; first_size = fs }

from-append : (l : Line) (xs ys : List ℕ) → line_from l (xs ++ ys) ≡ line_from (line_from l xs) ys
unfolding line_from
from-append l [] ys = refl
from-append l (x ∷ xs) ys = from-append (step l x) xs ys

digit-step : (s : Stage) (neg : Bool) (size : ℕ) (fn : Bool) (fs c : ℕ) → is_digit c ≡ true → step (line s neg size fn fs) c ≡ line (on_digit s) neg (more size (digit_of c)) fn fs
unfolding step
digit-step s neg size fn fs c h =
    let l = line s neg size fn fs in
    ap (λ (b : Bool). cond b (digit_read l c) (cond (eqb c 45) (minus_read l) (other_read l c))) h

digits-on : (s : Stage) (neg : Bool) (size : ℕ) (fn : Bool) (fs : ℕ) (r : List ℕ) → on_digit s ≡ s → all_of is_digit r ≡ true → line_from (line s neg size fn fs) r ≡ line s neg (size_from size r) fn fs
unfolding line_from all_of
digits-on s neg size fn fs [] k h = refl
digits-on s neg size fn fs (c ∷ r) k h =
    ap (λ (l : Line). line_from l r) (digit-step s neg size fn fs c (and_left (is_digit c) _ h) ∙ ap (λ (n : Stage). line n neg (more size (digit_of c)) fn fs) k)
    ∙ digits-on s neg (more size (digit_of c)) fn fs r k (and_right (is_digit c) _ h)

-- a numeral: a minus sign or none, and digits
abbrev pub numeral : Bool → List ℕ → List ℕ
numeral true ds = 45 ∷ ds
numeral false ds = ds

-- the first number, from the start of a line
first_on : (a : Bool) (d : ℕ) (ds : List ℕ) → all_of is_digit (d ∷ ds) ≡ true → line_from (line Start false 0 false 0) (numeral a (d ∷ ds)) ≡ line FirstDigits a (size_from 0 (d ∷ ds)) false 0
unfolding line_from all_of step is_digit is_blank on_minus on_digit
first_on true d ds h =
    ap (λ (l : Line). line_from l ds) (digit-step FirstSign true 0 false 0 d (and_left (is_digit d) _ h)) ∙ digits-on FirstDigits true (more 0 (digit_of d)) false 0 ds refl (and_right (is_digit d) _ h)
first_on false d ds h =
    ap (λ (l : Line). line_from l ds) (digit-step Start false 0 false 0 d (and_left (is_digit d) _ h)) ∙ digits-on FirstDigits false (more 0 (digit_of d)) false 0 ds refl (and_right (is_digit d) _ h)

-- the second, after the blank
second-on : (fn : Bool) (fs : ℕ) (a : Bool) (d : ℕ) (ds : List ℕ) → all_of is_digit (d ∷ ds) ≡ true
    → line_from (line Between false 0 fn fs) (numeral a (d ∷ ds)) ≡ line SecondDigits a (size_from 0 (d ∷ ds)) fn fs
unfolding line_from all_of step is_digit is_blank on_minus on_digit
second-on fn fs true d ds h =
    ap (λ (l : Line). line_from l ds) (digit-step SecondSign true 0 fn fs d (and_left (is_digit d) _ h)) ∙ digits-on SecondDigits true (more 0 (digit_of d)) fn fs ds refl (and_right (is_digit d) _ h)
second-on fn fs false d ds h =
    ap (λ (l : Line). line_from l ds) (digit-step Between false 0 fn fs d (and_left (is_digit d) _ h)) ∙ digits-on SecondDigits false (more 0 (digit_of d)) fn fs ds refl (and_right (is_digit d) _ h)

blank-on : (neg : Bool) (size : ℕ) → step (line FirstDigits neg size false 0) 32 ≡ line Between false 0 neg size
unfolding step is_digit is_blank on_blank in_first stage_of other_read
blank-on neg size = refl

-- two numerals with a space between them: a pair, of these numbers
pub pair_reads : (a b : Bool) (d e : ℕ) (ds es : List ℕ) → all_of is_digit (d ∷ ds) ≡ true → all_of is_digit (e ∷ es) ≡ true
    → line_of (numeral a (d ∷ ds) ++ (32 ∷ numeral b (e ∷ es))) ≡ line SecondDigits b (size_from 0 (e ∷ es)) a (size_from 0 (d ∷ ds))
unfolding line_from
pair_reads a b d e ds es h k =
    from-append (line Start false 0 false 0) (numeral a (d ∷ ds)) (32 ∷ numeral b (e ∷ es))
    ∙ ap (λ (l : Line). line_from l (32 ∷ numeral b (e ∷ es))) (first_on a d ds h)
    ∙ ap (λ (l : Line). line_from l (numeral b (e ∷ es))) (blank-on a (size_from 0 (d ∷ ds)))
    ∙ second-on a (size_from 0 (d ∷ ds)) b e es k
