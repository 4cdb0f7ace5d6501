use Rattle.stitch_round.proofs.Scanning.{near_of}
use borrow.Author.Rules.{rules}
use Rattle.stitch_round.proofs.scan.is_near.Goals as goal

pub returns : goal.returns
returns c = search (rules, near_of)
