use Rattle.text.proofs.LinesLaws.{capped-is}
use Rattle.text.proofs.lines.capped.Goals as goal

pub returns : goal.returns
returns c = capped-is _ _ c.min.ensures
