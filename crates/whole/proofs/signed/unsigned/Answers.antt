use Rattle.whole.specs.FitLaws.{cast_ok}
use Rattle.whole.proofs.signed.unsigned.Goals as goal

pub overflow_cast-result : goal.overflow_cast-result
overflow_cast-result c = cast_ok c.args.x c.ranges.x c.requires
