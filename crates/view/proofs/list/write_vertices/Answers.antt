use borrow.Author.Rules.{rules}
use Rattle.view.proofs.Listing.{list-more, listing}
use Rattle.view.proofs.list.write_vertices.Goals as goal

pub loop-k-init : goal.loop-k-init
loop-k-init c = search (rules, listing)

pub put_vertex-requires : goal.put_vertex-requires
put_vertex-requires c = search (rules, listing)

pub loop-k-preserved : goal.loop-k-preserved
loop-k-preserved c =
    list-more _ _ _ _ _ _ _ _ c.loop-k.invariant (search rules) c.vertex_of.ensures c.put_vertex.ensures

pub returns : goal.returns
returns c = search (rules, listing)
