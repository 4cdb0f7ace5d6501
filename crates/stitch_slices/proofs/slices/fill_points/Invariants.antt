use lib.ListN.{length}
use Rattle.stitch_run.specs.Stitch.{given_of}
use Rattle.stitch_slices.proofs.Slicing.{Pointing}
use Rattle.stitch_slices.proofs.slices.fill_points.Given as goal

abbrev pub invariant-loop-i : goal.invariant-loop-i
invariant-loop-i l = Pointing (given_of l.s) (length l.initial.points) l.points l.i
