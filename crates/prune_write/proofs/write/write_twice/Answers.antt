use Rattle.prune_write.specs.WriteLaws.{twice_of}
use borrow.Author.Rules.{rules}
use Rattle.prune_write.proofs.write.write_twice.Goals as goal

pub returns : goal.returns
returns c = search (rules, twice_of)
