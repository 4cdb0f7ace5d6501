-- How far apart two numbers can be that a box takes for near: e − t ≤ p ≤ e + t, the sides rounded. Over any format, so that no power is worked out.
use Rattle.std.specs.Prelude.{ℕ, suc, ◌+◌, ◌^◌, ◌≤◌, ◌<◌, true, ◌≡◌, nat_abs, ◌-ℤ◌, Float}
use Rattle.std.proofs.Math.Decide.{dec_le}
use Rattle.std.proofs.Common.{arith}
use Rattle.std.specs.Float.{Format}
use Rattle.std.specs.Float.Ieee.{prec, emax, low, add, sub, le}
use Rattle.join.specs.Join.{scaled}
use Rattle.join.specs.WholeLaws.{abs-parts, apart-le, top_of, bottom_of, Number, le-whole}
use Rattle.join.specs.SumLaws.{Below, add-close, sub-close}

-- t is a finite value above 0
pub record Positive (f : Format) (t : Float) : Type 0 where
  pub number : Number f t
  pub some : 0 < top_of f t
  pub none : bottom_of f t ≡ 0

module _ (f : Format) (k : ℕ) (room : prec f + suc (suc k) ≤ low f + suc (emax f)) (t e p : Float) (pt : Positive f t) (pe : Number f e) (pp : Number f p) where
  -- A side that is below the bound, 2 ^ (prec + 1 + k), is off by at most 2 ^ k: p ≤ e + t,
  high : Below f k (top_of f e + top_of f t) (bottom_of f e + bottom_of f t) → le p (add f e t) ≡ true → top_of f p + bottom_of f e ≤ top_of f e + top_of f t + bottom_of f p + 2 ^ k
  high h m =
      let n = pt.none in
      let z = add-close f k room e t pe pt.number h in
      omega (arith, z.high, le-whole p (add f e t) pp z.number m)

  -- and e − t ≤ p.
  deep : Below f k (top_of f e + bottom_of f t) (bottom_of f e + top_of f t) → le (sub f e t) p ≡ true → top_of f e + bottom_of f p ≤ bottom_of f e + top_of f t + top_of f p + 2 ^ k
  deep h m =
      let n = pt.none in
      let z = sub-close f k room e t pe pt.number h in
      omega (arith, z.low, le-whole (sub f e t) p z.number pp m)

  abbrev Apart : Type 0
  Apart = nat_abs (scaled (low f) p -ℤ scaled (low f) e) ≤ nat_abs (scaled (low f) t) + 2 ^ k

  both : top_of f p + bottom_of f e ≤ top_of f e + top_of f t + bottom_of f p + 2 ^ k → top_of f e + bottom_of f p ≤ bottom_of f e + top_of f t + top_of f p + 2 ^ k → Apart
  both h l =
      let s = abs-parts (scaled (low f) t) in
      let n = pt.none in
      apart-le (nat_abs (scaled (low f) t) + 2 ^ k) (scaled (low f) p) (scaled (low f) e) (omega arith) (omega arith)

  -- Whatever p is: e and t together are below the bound.
  pub span-any : nat_abs (scaled (low f) e) + nat_abs (scaled (low f) t) < 2 ^ (prec f + suc k) → le (sub f e t) p ≡ true → le p (add f e t) ≡ true → Apart
  span-any h l m =
      let s = abs-parts (scaled (low f) t) in
      let r = abs-parts (scaled (low f) e) in
      let n = pt.none in
      both (high (omega arith) m) (deep (omega arith) l)

  -- Where e and p are at most the bound: a side that p is beyond lies between two such numbers, so it is below the bound.
  pub span-near : nat_abs (scaled (low f) e) ≤ 2 ^ (prec f + suc k) → nat_abs (scaled (low f) p) ≤ 2 ^ (prec f + suc k) → le (sub f e t) p ≡ true → le p (add f e t) ≡ true → Apart
  span-near h g l m = both (top (dec_le _ _)) (bottom (dec_le _ _))
    where
      top : Dec (top_of f p + bottom_of f e ≤ top_of f e + top_of f t + bottom_of f p) → top_of f p + bottom_of f e ≤ top_of f e + top_of f t + bottom_of f p + 2 ^ k
      top (yes d) = omega arith
      top (no d) =
          let n = pt.none in
          let s = pt.some in
          let r = abs-parts (scaled (low f) e) in
          let q = abs-parts (scaled (low f) p) in
          high (omega arith) m

      bottom : Dec (top_of f e + bottom_of f p ≤ bottom_of f e + top_of f t + top_of f p) → top_of f e + bottom_of f p ≤ bottom_of f e + top_of f t + top_of f p + 2 ^ k
      bottom (yes d) = omega arith
      bottom (no d) =
          let n = pt.none in
          let s = pt.some in
          let r = abs-parts (scaled (low f) e) in
          let q = abs-parts (scaled (low f) p) in
          deep (omega arith) l
