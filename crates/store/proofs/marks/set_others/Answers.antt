use Rattle.std.proofs.Common.{rules}
use Rattle.store.proofs.Looking.{others-none, others-same, others-more, others-end}
use Rattle.store.proofs.marks.set_others.Goals as goal

pub loop-m-init : goal.loop-m-init
loop-m-init c = search (rules, others-none)

pub loop-m-preserved-then-handle_of-h : goal.loop-m-preserved-then-handle_of-h
loop-m-preserved-then-handle_of-h c = search (rules, others-same)

pub loop-m-preserved : goal.loop-m-preserved
loop-m-preserved c = search (rules, others-more)

pub returns : goal.returns
returns c = search (rules, others-end)
