use Rattle.stitch_vertices.proofs.Growing.{adding}
use borrow.Author.Rules.{rules}
use Rattle.stitch_vertices.proofs.grow.add_or_replace_vertex.Goals as goal

pub overflow_sub-last_bulge : goal.overflow_sub-last_bulge
overflow_sub-last_bulge c = search (rules, adding)

pub returns-then-is_repeat : goal.returns-then-is_repeat
returns-then-is_repeat c = search (rules, adding)

pub returns : goal.returns
returns c = search (rules, adding)
