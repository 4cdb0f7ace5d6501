use Rattle.std.proofs.Common.{rules}
use Rattle.record.proofs.Heading.{number_of}
use Rattle.record.proofs.head.number_in.Goals as goal

pub returns : goal.returns
returns c = search (rules, number_of)
