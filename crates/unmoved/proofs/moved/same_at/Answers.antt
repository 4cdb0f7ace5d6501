use Rattle.unmoved.specs.UnmovedLaws.{vertices}
use borrow.Author.Rules.{rules}
use Rattle.unmoved.proofs.moved.same_at.Goals as goal

pub same_vertex-requires : goal.same_vertex-requires
same_vertex-requires c = search (rules, vertices)

pub returns : goal.returns
returns c = search (rules, vertices)
