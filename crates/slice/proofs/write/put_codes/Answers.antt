use Rattle.slice.specs.PutLaws.{putting}
use borrow.Author.Rules.{rules}
use Rattle.slice.proofs.write.put_codes.Goals as goal

pub returns : goal.returns
returns c = search (rules, putting)
