-- The cell of a coordinate: the bit pattern of the coordinate moved far out, rounded once, and no nearer than `near`.
use Rattle.std.specs.Prelude.{ℕ, true, cond, ◌≡◌, T, Float}
use Rattle.std.specs.Float.{binary64}
use Rattle.std.specs.Float.Ieee.{add, lt, le, fits, to_bits}
use Rattle.basis.specs.Number.{+0}
use Rattle.basis.specs.OrderLaws.{Finite}
use Rattle.stitch_cell.specs.declared.cell.Plane.{Plane}

-- z, or `near` where z is nearer or a NaN
unfoldable pub kept_off : Float → Float → Float
kept_off near z = cond (le near z) z near

unfoldable pub cell_of : Plane → Float → ℕ
cell_of v p = to_bits binary64 (kept_off v.near (add binary64 p v.far))

-- how far an axis is moved: any finite number above 0, and any number above 0 for the nearest
pub record Steady (v : Plane) : Type 0 where
  pub far : Finite v.far
  pub ahead : lt +0 v.far ≡ true
  pub near : lt +0 v.near ≡ true
  pub held : T (fits binary64 v.near)
