use borrow.Author.Rules.{rules}
use Rattle.stitch_vertices.proofs.Growing.{extending}
use Rattle.stitch_vertices.proofs.grow.extend_remove_repeat.Goals as goal

pub loop-k-init : goal.loop-k-init
loop-k-init c = search (rules, extending)

pub add_or_replace_vertex-m-requires : goal.add_or_replace_vertex-m-requires
add_or_replace_vertex-m-requires c = search (rules, extending)

pub loop-k-preserved : goal.loop-k-preserved
loop-k-preserved c = search (rules, extending)

pub returns : goal.returns
returns c = search (rules, extending)
