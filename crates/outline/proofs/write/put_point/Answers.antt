use native.Mathlib.Omega.{arith}
use native.Mathlib.Numerals.{towards_suc}
use lib.ListN.{length-set}
use Rattle.outline.proofs.write.put_point.Goals as goal

pub bounds-room-at-2 : goal.bounds-room-at-2
bounds-room-at-2 c = simp length-set (omega arith)

pub returns : goal.returns
returns c = simp towards_suc
