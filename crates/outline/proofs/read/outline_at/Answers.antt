use Rattle.outline.specs.OutlineLaws.{reading}
use borrow.Author.Rules.{rules}
use Rattle.outline.proofs.read.outline_at.Goals as goal

pub vertex_at-requires : goal.vertex_at-requires
vertex_at-requires c = search (rules, reading)

pub returns : goal.returns
returns c = search (rules, reading)
