use Rattle.std.proofs.Common.{◌≡◌}
use Rattle.basis.specs.Each.{each_to}
use Rattle.outline.specs.Outline.{vertex_at}
use Rattle.straight_cut.specs.Straight.{straight_vertex}
use Rattle.straight_cut.proofs.flat.straight_outline.Given as goal

abbrev pub invariant-loop-i : goal.invariant-loop-i
invariant-loop-i l = l.ok ≡ each_to (λ j. straight_vertex (vertex_at l.outline j)) l.i
