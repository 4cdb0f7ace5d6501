use Rattle.std.proofs.Common.{◌≡◌}
use Rattle.basis.specs.Each.{each_to}
use Rattle.slice.specs.Slice.{shape_at}
use Rattle.straight_cut.specs.Straight.{straight_shape}
use Rattle.straight_cut.proofs.flat.straight_laps.Given as goal

abbrev pub invariant-loop-i : goal.invariant-loop-i
invariant-loop-i l = l.ok ≡ each_to (λ j. straight_shape (shape_at l.lap j)) l.i
