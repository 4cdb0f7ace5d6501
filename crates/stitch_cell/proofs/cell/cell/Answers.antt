use mathlib.Core.Path.{ap}
use lib.Ieee.{Float, binary64, to_bits}
use Rattle.stitch_cell.specs.Cell.{cell_of}
use Rattle.stitch_cell.specs.CellLaws.{bits_of}
use Rattle.stitch_cell.proofs.cell.cell.Goals as goal

pub float_to_bits-result : goal.float_to_bits-result
float_to_bits-result c = bits_of _ _ _ c.requires c.kept_off.ensures

pub returns : goal.returns
unfolding cell_of
returns c = ap (λ (z : Float). to_bits binary64 z) c.kept_off.ensures
