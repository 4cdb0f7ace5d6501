use borrow.Author.Rules.{rules}
use Rattle.prune_write.specs.WriteLaws.{both, both-next}
use Rattle.prune_write.proofs.write.write_both.Goals as goal

pub write_kept-second-requires : goal.write_kept-second-requires
write_kept-second-requires c =
    both-next _ _ _ _ _ _ _ c.requires c.write_kept-first.ensures.wrote

pub returns : goal.returns
returns c = search (rules, both)
