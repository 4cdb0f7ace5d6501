use Rattle.std.proofs.Common.{rules}
use Rattle.store.proofs.Looking.{numbering-none, numbering-more, numbering-end}
use Rattle.store.proofs.marks.number_marks.Goals as goal

pub loop-k-init : goal.loop-k-init
loop-k-init c = search (rules, numbering-none)

pub loop-k-preserved : goal.loop-k-preserved
loop-k-preserved c = search (rules, numbering-more)

pub returns : goal.returns
returns c = search (rules, numbering-end)
