-- Dividing by ten in halves of a word; digits from the last to the first; zeros in front.
use Prim.Native.Nat.{ℕ, zero, suc, ◌+◌, ◌-◌, ◌*◌, ◌/◌, ◌%◌, ◌^◌, ◌≤◌, ◌<◌}
use mathlib.Core.Path.{◌≡◌, refl, sym, ap, subst, ◌∙◌}
use mathlib.Core.Bool.{Bool, cond}
use mathlib.Core.List.{List, [], ◌∷◌, ◌++◌, append_assoc}
use native.Mathlib.Omega.{arith}
use native.Mathlib.Nat.{le_refl}
use native.Mathlib.Numerals.{add-one}
use lib.ListN.{length, get_or, set, drop, drop_of_length-le, length-set, length-drop}
use lib.Seq.{drop-cons}
use borrow.Author.Tests.{eq-eqb, ne_eqb}
use Rattle.whole.specs.declared.two.Two.{Two}
use Rattle.whole.specs.Two.{value}
use Rattle.whole.specs.TwoLaws.{value-two}
use Rattle.text.specs.declared.decimal.Tenth.{Tenth}
use Rattle.text.specs.Decimal.{glyph_of, digits_of, trimmed, tenths_of, Digit, Begins}

-- a number h 2^64 + a 2^32 + b: what is left of each part goes beside the next
parts : (h a b u w : ℕ) → u ≡ 4294967296 * (h % 10) + a → w ≡ 4294967296 * (u % 10) + b
    → 10 * (h / 10 * 18446744073709551616 + (4294967296 * (u / 10) + w / 10)) + w % 10 ≡ h * 18446744073709551616 + (a * 4294967296 + b)
parts h a b u w e f = omega arith

small_low : (a h u w b : ℕ) → a < 4294967296 → b < 4294967296 → u ≡ 4294967296 * (h % 10) + a → w ≡ 4294967296 * (u % 10) + b → 4294967296 * (u / 10) + w / 10 < 18446744073709551616
small_low a h u w b p q e f = omega arith

tenth-words : (d n l h : ℕ) → 10 * (h * 18446744073709551616 + l) + d ≡ n → d < 10 → l < 18446744073709551616
    → (h ≡ n / 10 / 18446744073709551616) × (l ≡ n / 10 % 18446744073709551616) × (d ≡ n % 10)
tenth-words d n l h e k j = (omega arith, omega arith, omega arith)

pub tenth-is : (t : Two) (u w : ℕ) → t.low < 2 ^ 64 → u ≡ 4294967296 * (t.high % 10) + t.low / 4294967296 → w ≡ 4294967296 * (u % 10) + t.low % 4294967296
    → record { high = t.high / 10; low = 4294967296 * (u / 10) + w / 10; digit = w % 10 } ≡ tenths_of (value t)
tenth-is t u w k e f =
    let a = t.low / 4294967296 in
    let b = t.low % 4294967296 in
    let whole : a * 4294967296 + b ≡ t.low = omega arith in
    let sum = parts t.high a b u w e f ∙ ap (λ (n : ℕ). t.high * 18446744073709551616 + n) whole in
    let x = tenth-words (w % 10) (value t) (4294967296 * (u / 10) + w / 10) (t.high / 10) sum (omega arith) (small_low a t.high u w b (omega arith) (omega arith) e f) in
    λ i. record { high = x.0 i; low = x.1 i; digit = x.2 i }

pub upper_fits : (h l : ℕ) → l < 2 ^ 64 → 4294967296 * (h % 10) + l / 4294967296 < 2 ^ 64
upper_fits h l k = omega arith

pub digit-small : (t : Two) (q : Tenth) → q ≡ tenths_of (value t) → Digit q.digit
digit-small t q e = let d : q.digit ≡ value t % 10 = ap (λ (x : Tenth). x.digit) e in record { small = omega arith }

-- ---- digits from the last to the first: i places are left, and what is left of the number goes there
drop-set : (out : List ℕ) (j x : ℕ) → j < length out → drop j (set out j x) ≡ x ∷ drop (suc j) out
drop-set [] j x h = absurd (none j h)
  where
    none : (j : ℕ) → j < 0 → ⊥
    none j h = omega arith
drop-set (a ∷ r) zero x h = refl
drop-set (a ∷ r) (suc j) x h = drop-set r j x (omega arith)

turn : (out : List ℕ) (j r r' x : ℕ) → j < length out → x ≡ glyph_of (r % 10) → r' ≡ r / 10 → digits_of j r' ++ drop j (set out j x) ≡ digits_of (suc j) r ++ drop (suc j) out
unfolding digits_of
turn out j r r' x h e f =
    (λ i. digits_of j (f i) ++ drop-set out j x h i) ∙ ap (λ (c : ℕ). digits_of j (r / 10) ++ (c ∷ drop (suc j) out)) e
    ∙ sym (append_assoc (digits_of j (r / 10)) (glyph_of (r % 10) ∷ []) (drop (suc j) out))

pub record Spelling (n : ℕ) (entry out : List ℕ) (i r : ℕ) : Type 0 where
  pub ahead : i ≤ length entry
  pub long : length out ≡ length entry
  pub digits : digits_of i r ++ drop i out ≡ digits_of (length entry) n

append-none : (l : List ℕ) → l ++ [] ≡ l
append-none [] = refl
append-none (x ∷ l) = ap (λ (r : List ℕ). x ∷ r) (append-none l)

pub spell-none : (n : ℕ) (entry : List ℕ) → Spelling n entry entry (length entry) n
spell-none n entry =
    record {
      ahead = le_refl (length entry);
      long = refl;
      digits = ap (λ (l : List ℕ). digits_of (length entry) n ++ l) (drop_of_length-le entry (le_refl (length entry))) ∙ append-none (digits_of (length entry) n);
    }

pub spell-turn : (n : ℕ) (entry out : List ℕ) (i x : ℕ) (t : Two) (q : Tenth) (r : Two) → Spelling n entry out i (value t) → 0 < i → q ≡ tenths_of (value t) → x ≡ glyph_of q.digit
    → r ≡ record { high = q.high; low = q.low } → Spelling n entry (set out (i - 1) x) (i - 1) (value r)
spell-turn n entry out zero x t q r s h e f g = absurd (omega arith)
spell-turn n entry out (suc j) x t q r s h e f g =
    subst (λ (m : ℕ). Spelling n entry (set out m x) m (value r)) before
    (record {
      ahead = omega (arith, s.ahead);
      long = length-set out j x ∙ s.long;
      digits = turn out j (value t) (value r) x (omega (arith, s.ahead, s.long)) (f ∙ ap (λ (y : Tenth). glyph_of y.digit) e)
          (ap value g ∙ ap (λ (y : Tenth). y.high * 2 ^ 64 + y.low) e ∙ value-two (value t / 10)) ∙ s.digits;
    })
  where
    before : j ≡ suc j - 1
    before = omega arith

pub spell-end : (n : ℕ) (entry out : List ℕ) (i r : ℕ) → Spelling n entry out i r → i ≤ 0 → out ≡ digits_of (length entry) n
unfolding digits_of
spell-end n entry out zero r s h = s.digits
spell-end n entry out (suc i) r s h = absurd (omega arith)

-- ---- zeros in front
pub trim-none : (text : List ℕ) → trimmed (drop 0 text) ≡ trimmed text
trim-none text = refl

pub trim-more : (text : List ℕ) (i : ℕ) → i + 1 < length text → get_or text i 0 ≡ 48 → trimmed (drop i text) ≡ trimmed text → trimmed (drop (i + 1) text) ≡ trimmed text
unfolding trimmed
trim-more text i h z s = sym (skip (drop-cons text i 0 (omega arith)) (drop-cons text (i + 1) 0 h)) ∙ s
  where
    skip : drop i text ≡ get_or text i 0 ∷ drop (suc i) text → drop (i + 1) text ≡ get_or text (i + 1) 0 ∷ drop (suc (i + 1)) text → trimmed (drop i text) ≡ trimmed (drop (i + 1) text)
    skip p q =
        let d = get_or text (i + 1) 0 in
        let r = drop (suc (i + 1)) text in
        ap trimmed (p ∙ (λ k. z k ∷ (ap (λ (m : ℕ). drop m text) (sym (add-one i)) ∙ q) k))
        ∙ ap (λ (b : Bool). cond b (trimmed (d ∷ r)) (48 ∷ d ∷ r)) (eq-eqb 48 48 refl)
        ∙ ap trimmed (sym q)

pub trim-stop : (text : List ℕ) (i : ℕ) → i + 1 < length text → (get_or text i 0 ≡ 48 → ⊥) → trimmed (drop i text) ≡ trimmed text → Begins i text
unfolding trimmed
trim-stop text i h z s = record { inside = omega arith; rest = sym (kept (drop-cons text i 0 (omega arith)) (drop-cons text (i + 1) 0 h)) ∙ s }
  where
    kept : drop i text ≡ get_or text i 0 ∷ drop (suc i) text → drop (i + 1) text ≡ get_or text (i + 1) 0 ∷ drop (suc (i + 1)) text → trimmed (drop i text) ≡ drop i text
    kept p q =
        let a = get_or text i 0 in
        let d = get_or text (i + 1) 0 in
        let r = drop (suc (i + 1)) text in
        let both : drop i text ≡ a ∷ d ∷ r = p ∙ ap (λ (l : List ℕ). a ∷ l) (ap (λ (m : ℕ). drop m text) (sym (add-one i)) ∙ q) in
        ap trimmed both ∙ ap (λ (b : Bool). cond b (trimmed (d ∷ r)) (a ∷ d ∷ r)) (ne_eqb a 48 z) ∙ sym both

pub trim_end : (text : List ℕ) (i : ℕ) → i ≤ length text → length text ≤ i + 1 → trimmed (drop i text) ≡ trimmed text → Begins i text
unfolding trimmed
trim_end text i h k s = record { inside = h; rest = sym (short (drop i text) few) ∙ s }
  where
    few : length (drop i text) ≤ 1
    few = omega (arith, length-drop i text)

    short : (l : List ℕ) → length l ≤ 1 → trimmed l ≡ l
    short [] h = refl
    short (c ∷ []) h = refl
    short (c ∷ d ∷ r) h = absurd (omega arith)

pub ruleset spelling = (spell-none, spell-turn, spell-end)

pub ruleset trimming = (trim-none, trim-more, trim-stop, trim_end)
