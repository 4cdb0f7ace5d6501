-- The loop of `get`: the bytes from at + i on are read, the highest first.
use Prim.Native.Nat.{ℕ, suc, ◌+◌, ◌-◌, ◌*◌, ◌^◌, ◌≤◌, ◌<◌}
use mathlib.Core.Path.{◌≡◌, ap, ◌∙◌}
use mathlib.Core.List.{List}
use native.Mathlib.Omega.{arith}
use native.Mathlib.Nat.{pow-suc, pow-le-pow_right}
use lib.ListN.{get_or, drop}
use lib.Seq.{get_or-drop, drop-drop}
use Rattle.fields.specs.Fields.{value_of}
use Rattle.fields.specs.Ready.{FieldAt, Value}

pub record Getting (l : List ℕ) (at w v i : ℕ) : Type 0 where
  pub field : FieldAt l at w
  pub within : i ≤ w
  pub value : v ≡ value_of (w - i) (drop (at + i) l)
  pub below : v < 256 ^ (w - i)

pub getting-none : (l : List ℕ) (at w : ℕ) → FieldAt l at w → Getting l at w 0 w
unfolding value_of
getting-none l at w f =
    let e : w - w ≡ 0 = omega arith in
    record { field = f; within = omega arith; value = rw e; below = rw e (omega arith) }

module _ (l : List ℕ) (at w v i : ℕ) (g : Getting l at w v i) (h : 0 < i) (x : ℕ) where
  one_more : w - (i - 1) ≡ suc (w - i)
  one_more = let k : i ≤ w = g.within in omega arith

  getting-power : x < 256 → x + 256 * v < 256 ^ (w - (i - 1))
  getting-power b = rw (one_more, pow-suc) (omega (arith, g.below))

  pub getting-fits : x < 256 → x + 256 * v < 18446744073709551616
  getting-fits b =
      let k : w - (i - 1) ≤ 8 = omega (arith, g.field.thin) in
      let p : 256 ^ (w - (i - 1)) ≤ 256 ^ 8 = pow-le-pow_right (omega arith) k in
      omega (arith, getting-power b)

  getting-more : x ≡ get_or l (at + (i - 1)) 0 → x < 256 → Getting l at w (x + 256 * v) (i - 1)
  unfolding value_of
  getting-more e b =
      let p : at + (i - 1) + 0 ≡ at + (i - 1) = omega arith in
      let q : at + (i - 1) + 1 ≡ at + i = omega arith in
      record {
        field = g.field;
        within = omega (arith, g.within);
        value = rw (one_more, get_or-drop (at + (i - 1)) l 0 0, p, drop-drop 1 (at + (i - 1)) l, q, ← e, ← g.value);
        below = getting-power b;
      }

  -- the byte was read at a place p that is at + (i - 1)
  pub getting-at : (p : ℕ) → p ≡ at + (i - 1) → x ≡ get_or l p 0 → x < 256 → Getting l at w (x + 256 * v) (i - 1)
  getting-at p q e b = getting-more (e ∙ ap (λ (k : ℕ). get_or l k 0) q) b

pub getting-end : (l : List ℕ) (at w v i : ℕ) → i ≤ 0 → Getting l at w v i → Value l at w v
getting-end l at w v i z g =
    let e : w - i ≡ w = omega arith in
    let f : at + i ≡ at = omega arith in
    record { value = rw (e, f) at g.value; below = rw e at g.below }
