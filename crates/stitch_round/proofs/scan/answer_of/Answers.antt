use Rattle.std.proofs.Common.{rules}
use Rattle.stitch_round.proofs.Scanning.{answering}
use Rattle.stitch_round.proofs.scan.answer_of.Goals as goal

pub returns-in_err-met : goal.returns-in_err-met
returns-in_err-met c = search (rules, answering)

pub returns : goal.returns
returns c = search (rules, answering)
