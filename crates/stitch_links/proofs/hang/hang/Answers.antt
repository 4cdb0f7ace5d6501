use Rattle.stitch_links.specs.Hanging.{hanging}
use borrow.Author.Rules.{rules}
use Rattle.stitch_links.proofs.hang.hang.Goals as goal

pub returns-then-lists-eq0 : goal.returns-then-lists-eq0
returns-then-lists-eq0 c = search (rules, hanging)

pub link_slices-requires : goal.link_slices-requires
link_slices-requires c = search (rules, hanging)
