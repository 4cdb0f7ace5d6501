-- The numbers of a call are f64, as all numbers in memory are.
use Rattle.std.specs.Prelude.{List, T, Float}
use Rattle.std.specs.Float.{binary64}
use Rattle.std.specs.Float.Ieee.{fits}
use Rattle.basis.specs.All.{All}
use Rattle.stitch_run.specs.Stitch.{Given}

-- x is an f64: the format holds it
abbrev pub Double : Float → Type 0
Double x = T (fits binary64 x)

abbrev pub AllDouble : List Float → Type 0
AllDouble l = All Double l

-- every number of a stitch is
pub record Doubles (g : Given) : Type 0 where
  pub tolerance_x : Double g.tolerance.x
  pub tolerance_y : Double g.tolerance.y
  pub first : AllDouble g.outline1
  pub second : AllDouble g.outline2
  pub numbers : AllDouble g.slice
