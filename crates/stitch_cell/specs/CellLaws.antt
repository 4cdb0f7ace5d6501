-- The cell does not fall where the coordinate rises, so what lies in a box has its cells between those of the box's sides.
use Rattle.std.specs.Prelude.{◌≤◌, true, false, not, ◌≡◌, refl, T, Float}
use Rattle.std.proofs.Common.{true≢false, sym}
use Rattle.std.specs.Float.{nan, inf, fin}
use Rattle.std.specs.Float.Ieee.{binary64, add, mul, lt, le, fits, is_nan, of_bits}
use Rattle.std.specs.Float.Ieee.Bits.{of_bits-fits}
use Rattle.std.specs.Float.Ieee.Fits.{add-fits, mul-fits}
use Rattle.basis.specs.Choice.{by-test}
use Rattle.basis.specs.Number.{+0}
use Rattle.basis.specs.OrderLaws.{Finite}
use Rattle.stitch_cell.specs.declared.cell.Plane.{Plane}
use Rattle.stitch_cell.specs.Cell.{kept_off, cell_of, Steady}
use Rattle.stitch_cell.specs.BitsLaws.{Clear, bits_mono, bits-under}
use Rattle.stitch_cell.specs.MoveLaws.{ahead, kept-clear, moved-mono}

kept-fits : (near z : Float) → T (fits binary64 near) → T (fits binary64 z) → T (fits binary64 (kept_off near z))
unfolding kept_off
kept-fits near z a b = by-test (le near z) (λ e. rw e b) (λ e. rw e a)

clear-number : (x : Float) → Clear x → T (not (is_nan x))
unfolding is_nan
clear-number nan p = absurd p
clear-number (inf s) p = tt
clear-number (fin s m e) p = tt

module _ (v : Plane) (h : Steady v) where
  moved-clear : (p : Float) → Clear (kept_off v.near (add binary64 p v.far))
  moved-clear p = kept-clear v.near h.near (add binary64 p v.far)

  moved-fits : (p : Float) → T (fits binary64 (kept_off v.near (add binary64 p v.far)))
  moved-fits p = kept-fits v.near _ h.held (add-fits binary64 p v.far)

  pub cell-mono : (p q : Float) → le p q ≡ true → cell_of v p ≤ cell_of v q
  unfolding cell_of
  cell-mono p q l = bits_mono binary64 _ _ (moved-fits p) (moved-clear p) (moved-clear q) (moved-mono v.near h.near p q v.far h.far (ahead v.far h.ahead) l)

  -- no cell is above the infinity's
  pub cell-under : (p : Float) → cell_of v p ≤ 0x7ff0_0000_0000_0000
  unfolding cell_of
  cell-under p = bits-under binary64 _ (moved-fits p) (moved-clear p)

-- what `to_bits` asks
pub bits_of : (v : Plane) (p k : Float) → Steady v → k ≡ kept_off v.near (add binary64 p v.far) → T (not (is_nan k))
bits_of v p k f e = rw e (clear-number _ (moved-clear v f p))

-- ---- planes that are steady
abbrev half : Float
half = of_bits binary64 0x3fe0_0000_0000_0000

abbrev farthest : Float
farthest = of_bits binary64 0x43d0_0000_0000_0000

finite-between : (x : Float) → lt +0 x ≡ true → le x farthest ≡ true → Finite x
unfolding le of_bits
finite-between nan h k = true≢false (sym h)
finite-between (inf true) h k = true≢false (sym h)
finite-between (inf false) h k = true≢false (sym k)
finite-between (fin s m e) h k = tt

pub steady : (far : Float) → lt +0 (mul binary64 half far) ≡ true → lt +0 far ≡ true → le far farthest ≡ true → Steady (record { far = far; near = mul binary64 half far })
steady far a b c = record { far = finite-between far b c; ahead = b; near = a; held = mul-fits binary64 half far }

pub steady-two : Steady (record { far = of_bits binary64 0x4000_0000_0000_0000; near = of_bits binary64 0x3ff0_0000_0000_0000 })
unfolding lt of_bits
steady-two = record { far = tt; ahead = refl; near = refl; held = of_bits-fits binary64 0x3ff0_0000_0000_0000 }

pub ruleset planes = (steady, steady-two)
