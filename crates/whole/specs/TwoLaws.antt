-- The laws of two words: they say one number, and one number has one pair of them; sums, differences and comparisons word by word.
use Rattle.std.specs.Prelude.{◌≡◌, ℕ, ◌+◌, ◌-◌, ◌*◌, ◌/◌, ◌%◌, ◌^◌, ◌<◌, ◌≤◌, refl, Bool, true, false, cond, T, nat_lt}
use Rattle.std.proofs.Common.{sym, ap, ◌∙◌, arith, lt_of_mul-lt-mul_right, lt_of_le_of_lt, le_trans, le-add_right, ltb→lt, lt-ltb, le-ltb, ltb-true, ltb-false}
use mir.Val.{bool_byte}
use Rattle.basis.specs.Choice.{by-test, code_of}
use Rattle.whole.specs.declared.two.Two.{Two}
use Rattle.whole.specs.Two.{value, two, carry_of, NoMore}

-- words that say n, the low one below 2^64, are the words of n
pub two_is : (t : Two) (n : ℕ) → t.low < 2 ^ 64 → value t ≡ n → t ≡ two n
two_is t n h e = λ i. record { high = upper i; low = lower i }
  where
    upper : t.high ≡ n / 2 ^ 64
    upper = omega arith

    lower : t.low ≡ n % 2 ^ 64
    lower = omega arith

-- and the words of n say n
pub value-two : (n : ℕ) → value (two n) ≡ n
value-two n = omega arith

-- a number at most m, below k · 2^64, has its high word below k
pub high-below : (t : Two) (m k : ℕ) → value t ≤ m → T (nat_lt m (k * 2 ^ 64)) → t.high < k
high-below t m k h l = lt_of_mul-lt-mul_right (2 ^ 64) (lt_of_le_of_lt (le_trans (le-add_right (t.high * 2 ^ 64) t.low) h) (ltb→lt m (k * 2 ^ 64) l))

-- a truth value as a number of the machine
pub byte-code : (t : Bool) → bool_byte t ≡ code_of t
byte-code true = refl
byte-code false = refl

-- ---- the sum: the wrapped low word and the carry that the comparison finds
carried : (a b low : ℕ) → a < 2 ^ 64 → b < 2 ^ 64 → low ≡ (a + b) % 2 ^ 64 → carry_of low b * 2 ^ 64 + low ≡ a + b
unfolding carry_of
carried a b low h k e =
    by-test (nat_lt low b)
    (λ t. let l = ltb-true low b t in rw t (omega arith))
    (λ t. let l = ltb-false low b t in rw t (omega arith))

pub carry-most : (low b carry : ℕ) → carry ≡ carry_of low b → carry ≤ 1
unfolding carry_of
carry-most low b carry e =
    by-test (nat_lt low b)
    (λ t. let d : carry ≡ 1 = e ∙ ap (λ (x : Bool). cond x 1 0) t in omega arith)
    (λ t. let d : carry ≡ 0 = e ∙ ap (λ (x : Bool). cond x 1 0) t in omega arith)

pub added : (a b : Two) (low carry : ℕ) → a.low < 2 ^ 64 → b.low < 2 ^ 64 → low ≡ (a.low + b.low) % 2 ^ 64 → carry ≡ carry_of low b.low
    → (a.high + b.high + carry) * 2 ^ 64 + low ≡ value a + value b
added a b low carry h k e f = let s : carry * 2 ^ 64 + low ≡ a.low + b.low = ap (λ (x : ℕ). x * 2 ^ 64 + low) f ∙ carried a.low b.low low h k e in omega arith

-- ---- the difference: the wrapped low word, and whether one is borrowed
high_le : (a b : Two) → a.low < 2 ^ 64 → value b ≤ value a → b.high ≤ a.high
high_le a b h k = omega arith

high_lt : (a b : Two) → a.low < b.low → value b ≤ value a → b.high < a.high
high_lt a b h k = omega arith

pub plain-high : (a b : Two) → a.low < 2 ^ 64 → NoMore a b → b.high ≤ a.high
plain-high a b h k = high_le a b h k.least

pub borrow-high : (a b : Two) → a.low < b.low → NoMore a b → 1 ≤ a.high - b.high
borrow-high a b l k = let h = high_lt a b l k.least in omega arith

low-wraps : (r b a : ℕ) → r < 2 ^ 64 → b < 2 ^ 64 → (r + b) % 2 ^ 64 ≡ a → a < b → r + b ≡ a + 2 ^ 64
low-wraps r b a h k e l = omega arith

low-plain : (r b a : ℕ) → r < 2 ^ 64 → b < 2 ^ 64 → (r + b) % 2 ^ 64 ≡ a → b ≤ a → r + b ≡ a
low-plain r b a h k e l = omega arith

pub borrowed : (a b : Two) (r : ℕ) → r < 2 ^ 64 → b.low < 2 ^ 64 → (r + b.low) % 2 ^ 64 ≡ a.low → a.low < b.low → NoMore a b
    → (a.high - b.high - 1) * 2 ^ 64 + r ≡ value a - value b
borrowed a b r h k e l v = close (high_lt a b l v.least) (low-wraps r b.low a.low h k e l)
  where
    close : b.high < a.high → r + b.low ≡ a.low + 2 ^ 64 → (a.high - b.high - 1) * 2 ^ 64 + r ≡ value a - value b
    close p q = omega arith

pub not-borrowed : (a b : Two) (r : ℕ) → r < 2 ^ 64 → a.low < 2 ^ 64 → b.low < 2 ^ 64 → (r + b.low) % 2 ^ 64 ≡ a.low → b.low ≤ a.low → NoMore a b
    → (a.high - b.high) * 2 ^ 64 + r ≡ value a - value b
not-borrowed a b r h ha k e l v = close (high_le a b ha v.least) (low-plain r b.low a.low h k e l)
  where
    close : b.high ≤ a.high → r + b.low ≡ a.low → (a.high - b.high) * 2 ^ 64 + r ≡ value a - value b
    close p q = omega arith

-- ---- the order: the high words decide, and where they are equal the low ones
pub high-decides : (a b : Two) → a.low < 2 ^ 64 → a.high < b.high → true ≡ nat_lt (value a) (value b)
high-decides a b h k = sym (lt-ltb (value a) (value b) (omega arith))

pub high-denies : (a b : Two) → b.low < 2 ^ 64 → b.high < a.high → false ≡ nat_lt (value a) (value b)
high-denies a b h k = sym (le-ltb (value a) (value b) (omega arith))

pub low-decides : (a b : Two) → b.high ≤ a.high → a.high ≤ b.high → nat_lt a.low b.low ≡ nat_lt (value a) (value b)
low-decides a b h k =
    by-test (nat_lt a.low b.low)
    (λ e. let l = ltb-true a.low b.low e in e ∙ sym (lt-ltb (value a) (value b) (omega arith)))
    (λ e. let l = ltb-false a.low b.low e in e ∙ sym (le-ltb (value a) (value b) (omega arith)))

-- what the code of two words is proved by
pub ruleset words = (two_is, carry-most, added, plain-high, borrow-high, borrowed, not-borrowed, high-decides, high-denies, low-decides)
