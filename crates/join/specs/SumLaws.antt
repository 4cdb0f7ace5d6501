-- A sum and a difference of finite floats are those of their whole numbers, rounded. Over any format, so that no power is worked out.
use Rattle.std.specs.Prelude.{ℕ, suc, ◌+◌, ◌-◌, ◌*◌, ◌^◌, ◌≤◌, ◌<◌, Bool, not, cond, ◌&&◌, ◌≡◌, T, ltb, Float}
use Rattle.std.proofs.Math.Bool.{true, false}
use Rattle.std.proofs.Math.Path.{sym, ap}
use Rattle.std.proofs.Common.{◌∙◌, mul_comm, mul-pos, mul-le-mul_right, le_of_mul-le-mul_right, ltb→lt, nltb→le}
use Rattle.std.proofs.Math.Nat.{mul-sub, mul_assoc, mul_right_comm}
use native.Mathlib.Omega.{arith}
use Rattle.std.specs.Float.Ieee.{nan, prec, emax, low, up, down, round, sum, add, sub, neg}
use Rattle.std.specs.Float.{inf, fin, Format}
use Rattle.std.specs.Float.Ieee.Fits.{down_pos, neg-fits}
use Rattle.basis.specs.OrderLaws.{over}
use Rattle.basis.specs.UnitLaws.{units_of, units-exact}
use Rattle.join.specs.WholeLaws.{top_of, bottom_of, Number, fin-top, fin-bottom}
use Rattle.join.specs.RoundLaws.{round-close}

-- a − b, in size, is below 2 ^ (prec + 1 + k)
pub record Below (f : Format) (k a b : ℕ) : Type 0 where
  pub over : a < b + 2 ^ (prec f + suc k)
  pub under : b < a + 2 ^ (prec f + suc k)

-- z is a finite value, at most c units from a − b
pub record Sums (f : Format) (c a b : ℕ) (z : Float) : Type 0 where
  pub number : Number f z
  pub high : top_of f z + b ≤ a + bottom_of f z + c
  pub low : a + bottom_of f z ≤ top_of f z + b + c

-- ---- negation exchanges the parts

negative : (f : Format) (x : Float) → Number f x → Number f (neg x)
unfolding neg
negative f nan p = absurd p.finite
negative f (inf s) p = absurd p.finite
negative f (fin s m e) p = record { held = neg-fits f (fin s m e) p.held; finite = tt }

negated : (f : Format) (x : Float) → Number f x → (top_of f (neg x) ≡ bottom_of f x) × (bottom_of f (neg x) ≡ top_of f x)
unfolding neg
negated f nan p = absurd p.finite
negated f (inf s) p = absurd p.finite
negated f (fin false m e) p = (fin-top f m e true ∙ sym (fin-bottom f m e false), fin-bottom f m e true ∙ sym (fin-top f m e false))
negated f (fin true m e) p = (fin-top f m e false ∙ sym (fin-bottom f m e true), fin-bottom f m e false ∙ sym (fin-top f m e true))

-- ---- the sum

minus-mul : (a b c : ℕ) → (a - b) * c ≡ a * c - b * c
minus-mul a b c = mul_comm (a - b) c ∙ mul-sub c a b ∙ ap (λ (x : ℕ). x - c * b) (mul_comm c a) ∙ ap (λ (x : ℕ). a * c - x) (mul_comm c b)

module _ (f : Format) (k : ℕ) (room : prec f + suc (suc k) ≤ low f + suc (emax f)) where
  -- `round` at a sign and a size that together are a − b
  finish : (s : Bool) (num den w a b : ℕ) → 0 < den → num * 2 ^ low f ≡ w * den → over s w + b ≡ a + over (not s) w → Below f k a b → Sums f (2 ^ k) a b (round f s num den)
  finish true num den w a b D e q h =
      let r = round-close f true num den w k D e (omega arith) room in
      let o = r.close in
      record { number = r.number; high = omega (arith, r.top, r.bottom); low = omega (arith, r.top, r.bottom) }
  finish false num den w a b D e q h =
      let r = round-close f false num den w k D e (omega arith) room in
      let o = r.close in
      record { number = r.number; high = omega (arith, r.top, r.bottom); low = omega (arith, r.top, r.bottom) }

  -- a / d is m units, and b / d is n
  module _ (a b m n d : ℕ) (D : 0 < d) (p : a * 2 ^ low f ≡ m * d) (q : b * 2 ^ low f ≡ n * d) where
    plus : (a + b) * 2 ^ low f ≡ (m + n) * d
    plus = omega (arith, p, q)

    less : (b - a) * 2 ^ low f ≡ (n - m) * d
    less = minus-mul b a (2 ^ low f) ∙ rw (p, q) (sym (minus-mul n m d))

    more : (a - b) * 2 ^ low f ≡ (m - n) * d
    more = minus-mul a b (2 ^ low f) ∙ rw (p, q) (sym (minus-mul m n d))

    up_to : a ≤ b → m ≤ n
    up_to h = le_of_mul-le-mul_right (omega (arith, mul-le-mul_right (2 ^ low f) h, p, q)) D

    down_to : b ≤ a → n ≤ m
    down_to h = le_of_mul-le-mul_right (omega (arith, mul-le-mul_right (2 ^ low f) h, p, q)) D

    sum-close : (s t : Bool) → Below f k (over s m + over t n) (over (not s) m + over (not t) n)
        → Sums f (2 ^ k) (over s m + over t n) (over (not s) m + over (not t) n) (sum f s a t b d)
    unfolding sum
    sum-close false false h = finish false (a + b) d (m + n) _ _ D plus (omega arith) h
    sum-close true true h = finish true (a + b) d (m + n) _ _ D plus (omega arith) h
    sum-close false true h = go (ltb a b) (ltb→lt a b) (nltb→le a b)
      where
        go : (c : Bool) → (T c → a < b) → (T (not c) → b ≤ a) → Sums f (2 ^ k) (m + 0) (0 + n) (cond c (round f true (b - a) d) (round f false (a - b) d))
        go true x y = let z = x tt in let g = up_to (omega arith) in finish true (b - a) d (n - m) _ _ D less (omega arith) h
        go false x y = let g = down_to (y tt) in finish false (a - b) d (m - n) _ _ D more (omega arith) h
    sum-close true false h = go (ltb a b) (ltb b a) (ltb→lt a b) (nltb→le a b) (nltb→le b a)
      where
        go : (c r : Bool) → (T c → a < b) → (T (not c) → b ≤ a) → (T (not r) → a ≤ b) → Sums f (2 ^ k) (0 + n) (m + 0) (cond c (round f false (b - a) d) (round f (true && r) (a - b) d))
        go true r x y w = let z = x tt in let g = up_to (omega arith) in finish false (b - a) d (n - m) _ _ D less (omega arith) h
        go false true x y w = let g = down_to (y tt) in finish true (a - b) d (m - n) _ _ D more (omega arith) h
        go false false x y w = let g = down_to (y tt) in let i = up_to (w tt) in finish false (a - b) d (m - n) _ _ D more (omega arith) h

  pub add-close : (x y : Float) → Number f x → Number f y → Below f k (top_of f x + top_of f y) (bottom_of f x + bottom_of f y)
      → Sums f (2 ^ k) (top_of f x + top_of f y) (bottom_of f x + bottom_of f y) (add f x y)
  unfolding add
  add-close nan y p q h = absurd p.finite
  add-close (inf s) y p q h = absurd p.finite
  add-close (fin s m e) nan p q h = absurd q.finite
  add-close (fin s m e) (inf t) p q h = absurd q.finite
  add-close (fin s m e) (fin t n d) p q h =
      let a : m * up e * down d * 2 ^ low f ≡ units_of f m e * (down e * down d) =
      mul_right_comm (m * up e) (down d) (2 ^ low f) ∙ ap (λ (i : ℕ). i * down d) (sym (units-exact f s m e p.held)) ∙ mul_assoc (units_of f m e) (down e) (down d) in
      let b : n * up d * down e * 2 ^ low f ≡ units_of f n d * (down e * down d) =
      mul_right_comm (n * up d) (down e) (2 ^ low f) ∙ ap (λ (i : ℕ). i * down e) (sym (units-exact f t n d q.held)) ∙ omega arith in
      rw (fin-top f m e s, fin-top f n d t, fin-bottom f m e s, fin-bottom f n d t)
      (sum-close (m * up e * down d) (n * up d * down e) (units_of f m e) (units_of f n d) (down e * down d) (mul-pos (down_pos e) (down_pos d)) a b s t
      (rw (fin-top f m e s, fin-top f n d t, fin-bottom f m e s, fin-bottom f n d t) at h))

  -- a difference is the sum with the negation
  pub sub-close : (x y : Float) → Number f x → Number f y → Below f k (top_of f x + bottom_of f y) (bottom_of f x + top_of f y)
      → Sums f (2 ^ k) (top_of f x + bottom_of f y) (bottom_of f x + top_of f y) (sub f x y)
  unfolding sub
  sub-close x y p q h =
      let n = negated f y q in
      rw (sym n.0, sym n.1) (add-close x (neg y) p (negative f y q) (rw (n.0, n.1) h))
