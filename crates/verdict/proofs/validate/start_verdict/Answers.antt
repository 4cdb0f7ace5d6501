use Rattle.std.proofs.Common.{rules}
use Rattle.verdict.specs.ValidateLaws.{verdicts}
use Rattle.verdict.proofs.validate.start_verdict.Goals as goal

pub end_verdict-requires : goal.end_verdict-requires
end_verdict-requires c = search (rules, verdicts)
