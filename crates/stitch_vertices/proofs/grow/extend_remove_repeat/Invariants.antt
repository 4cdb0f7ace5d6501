use Rattle.view.specs.View.{vertex_of}
use Rattle.stitch_vertices.proofs.Growing.{Adding}
use Rattle.stitch_vertices.proofs.grow.extend_remove_repeat.Given as goal

abbrev pub invariant-loop-k : goal.invariant-loop-k
invariant-loop-k l = Adding l.t (vertex_of l.outline l.vc l.view) l.count l.n l.initial.room l.m l.room l.k
