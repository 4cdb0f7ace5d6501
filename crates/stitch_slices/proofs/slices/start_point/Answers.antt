use Rattle.stitch_slices.proofs.Slicing.{slicing}
use borrow.Author.Rules.{rules}
use Rattle.stitch_slices.proofs.slices.start_point.Goals as goal

pub vertex_of-requires : goal.vertex_of-requires
vertex_of-requires c = search (rules, slicing)

pub returns-then-codes_at-eq1 : goal.returns-then-codes_at-eq1
returns-then-codes_at-eq1 c = search (rules, slicing)

pub vertex_of-requires-2 : goal.vertex_of-requires-2
vertex_of-requires-2 c = search (rules, slicing)

pub returns : goal.returns
returns c = search (rules, slicing)
