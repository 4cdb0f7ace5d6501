-- Rounding a fraction that is a whole number of a format's smallest values: the result is again such a number, at most half of its last place off.
-- Over any format, so that no power is worked out.
use Prim.Native.Nat.{ℕ, suc, ◌+◌, ◌-◌, ◌*◌, ◌/◌, ◌%◌, ◌^◌, ◌≤◌, ◌<◌, compare, Ordering}
use Rattle.std.specs.Prelude.{Bool, not, ◌≡◌, T, eqb, Float}
use Rattle.std.proofs.Common.{sym, ap, subst, ◌∙◌, mul_assoc, mul-pos, mul-le-mul_right, mul-div_cancel, div-add-mod', mod-lt, arith, leb→le, eqb→eq, pow_pos, pow_mono}
use Rattle.std.proofs.Math.Arith.{lt_of_le-ne}
use Rattle.std.proofs.Math.Dec.{is_le, compare_is_eq, nleb→lt, eqb_refl}
use Rattle.std.specs.Float.{nan, inf, fin, Format}
use Rattle.std.specs.Float.Ieee.{prec, emax, low, down, size, nearest, units, round, fits}
use Rattle.std.specs.Float.Ieee.Digits.{size-le}
use Rattle.std.specs.Float.Ieee.Fits.{round_is, round-fits, down_pos}
use Rattle.std.specs.Float.Ieee.Exact.{HasValue, units_val}
use Rattle.std.specs.Float.Ieee.Nearest.{closest, closest_same}
use Rattle.std.specs.Float.Ieee.Scale.{round_same}
use Rattle.basis.specs.OrderLaws.{over}
use Rattle.basis.specs.UnitLaws.{units_of}
use Rattle.join.specs.WholeLaws.{top_of, bottom_of, Number, fin-top, fin-bottom}

-- ---- a / b to the nearest whole number is at most a half away from it

abbrev Compared : Ordering → ℕ → ℕ → Type 0
Compared Ordering.lt a b = a < b
Compared Ordering.eq a b = a ≡ b
Compared Ordering.gt a b = b < a

compared : (a b : ℕ) → Compared (compare a b) a b
compared a b = go (compare a b) (leb→le a b) (nleb→lt a b) (eqb→eq a b) (λ (e : a ≡ b). subst (λ (x : ℕ). T (eqb a x)) e (eqb_refl a))
  where
    go : (o : Ordering) → (T (is_le o) → a ≤ b) → (T (not (is_le o)) → b < a) → (T (compare_is_eq o) → a ≡ b) → (a ≡ b → T (compare_is_eq o)) → Compared o a b
    go Ordering.lt h k e n = lt_of_le-ne (h tt) n
    go Ordering.eq h k e n = e tt
    go Ordering.gt h k e n = k tt

-- twice the distance of x and y is at most b
abbrev Half : ℕ → ℕ → ℕ → Type 0
Half b x y = (x * 2 ≤ y * 2 + b) × (y * 2 ≤ x * 2 + b)

nearest-half : (q r b : ℕ) (o : Ordering) → Compared o (r * 2) b → r < b → Half b (nearest q o * b) (q * b + r)
nearest-half q r b Ordering.lt c h = omega arith
nearest-half q r b Ordering.eq c h = let l : q % 2 ≤ 1 = omega arith in omega (arith, mul-le-mul_right b l)
nearest-half q r b Ordering.gt c h = omega arith

closest-half : (a b : ℕ) → 0 < b → Half b (closest a b * b) a
closest-half a b h =
    subst (λ (x : ℕ). Half b (closest a b * b) x) (div-add-mod' a b) (nearest-half (a / b) (a % b) b (compare (a % b * 2) b) (compared (a % b * 2) b) (mod-lt a h))

-- ---- w units, rounded to p digits

abbrev dropped : ℕ → ℕ → ℕ
dropped p w = size w - p

abbrev rounded : ℕ → ℕ → ℕ
rounded p w = closest w (2 ^ dropped p w) * 2 ^ dropped p w

-- r is at most c from w
pub record Close (c r w : ℕ) : Type 0 where
  pub high : r ≤ w + c
  pub low : w ≤ r + c

-- of p + 1 + k digits k + 1 are dropped, so the last place is 2 ^ (k + 1)
rounded-close : (p w k : ℕ) → w < 2 ^ (p + suc k) → Close (2 ^ k) (rounded p w) w
rounded-close p w k h =
    let d = dropped p w in
    let few : d ≤ suc k = omega (arith, size-le w (p + suc k) h) in
    let last : 2 ^ d ≤ 2 ^ suc k = pow_mono few in
    let t = closest-half w (2 ^ d) (pow_pos d) in
    record { high = omega arith; low = omega arith }

-- ---- `round`, of a fraction num / den that is w units

module _ (f : Format) where
  round-units : (s : Bool) (w : ℕ) → round f s w (2 ^ low f) ≡ units f s (closest w (2 ^ dropped (prec f) w)) (dropped (prec f) w)
  round-units s w =
      let l = 2 ^ low f in
      let d = dropped (prec f) w in
      let e : w * l / l ≡ w = mul-div_cancel w (pow_pos (low f)) in
      let c : closest (w * l) (l * 2 ^ d) ≡ closest w (2 ^ d) = closest_same (w * l) (l * 2 ^ d) w (2 ^ d) (mul-pos (pow_pos (low f)) (pow_pos d)) (pow_pos d) (mul_assoc w l (2 ^ d)) in
      round_is f s w l ∙ ap (λ (n : ℕ). units f s (closest (w * l) (l * 2 ^ (size n - prec f))) (size n - prec f)) e ∙ ap (λ (n : ℕ). units f s n d) c

  -- x is finite: so many units, with the sign s, at most c of them from w
  pub record Rounds (s : Bool) (w c : ℕ) (x : Float) : Type 0 where
    pub number : Number f x
    pub count : ℕ
    pub top : top_of f x ≡ over s count
    pub bottom : bottom_of f x ≡ over (not s) count
    pub close : Close c count w

  by_value : (s : Bool) (w c n : ℕ) (x : Float) → T (fits f x) → HasValue x s n (2 ^ low f) → Close c n w → Rounds s w c x
  by_value s w c n nan h v o = absurd v
  by_value s w c n (inf t) h v o = absurd v
  by_value s w c n (fin t m e) h v o =
      let u : units_of f m e ≡ n = ap (λ (k : ℕ). k / down e) v.1 ∙ mul-div_cancel n (down_pos e) in
      record {
        number = record { held = h; finite = tt };
        count = n;
        top = fin-top f m e t ∙ rw (u, v.0);
        bottom = fin-bottom f m e t ∙ rw (u, v.0);
        close = o;
      }

  -- below 2 ^ (prec + 1 + k) units it is off by at most 2 ^ k, and no infinity where the format has a digit more
  pub round-close : (s : Bool) (num den w k : ℕ) → 0 < den → num * 2 ^ low f ≡ w * den → w < 2 ^ (prec f + suc k) → prec f + suc (suc k) ≤ low f + suc (emax f)
      → Rounds s w (2 ^ k) (round f s num den)
  round-close s num den w k D e h room =
      let o = rounded-close (prec f) w k h in
      let a : 2 ^ k ≤ 2 ^ (prec f + suc k) = pow_mono (omega arith) in
      let b : 2 ^ suc (prec f + suc k) ≤ 2 ^ (low f + suc (emax f)) = pow_mono (omega arith) in
      let q : round f s num den ≡ units f s (closest w (2 ^ dropped (prec f) w)) (dropped (prec f) w) =
      round_same f s num den w (2 ^ low f) D (pow_pos (low f)) e ∙ round-units s w in
      by_value s w (2 ^ k) (rounded (prec f) w) (round f s num den) (round-fits f s num den)
      (subst (λ (x : Float). HasValue x s (rounded (prec f) w) (2 ^ low f)) (sym q) (units_val f s (closest w (2 ^ dropped (prec f) w)) (dropped (prec f) w) (omega (arith, o.high)))) o
