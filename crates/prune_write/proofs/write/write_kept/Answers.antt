use Rattle.std.proofs.Common.{rules}
use Rattle.prune_write.specs.WriteLaws.{keeping}
use Rattle.prune_write.proofs.write.write_kept.Goals as goal

pub loop-k-init : goal.loop-k-init
loop-k-init c = search (rules, keeping)

pub loop-k-preserved-then-cands-k : goal.loop-k-preserved-then-cands-k
loop-k-preserved-then-cands-k c = search (rules, keeping)

pub loop-k-preserved : goal.loop-k-preserved
loop-k-preserved c = search (rules, keeping)
