use borrow.Author.Rules.{rules}
use Rattle.stitch.proofs.Writing.{sum-offset, summing}
use Rattle.stitch.proofs.write.room_need.Goals as goal

pub returns-then-count-eq0 : goal.returns-then-count-eq0
returns-then-count-eq0 c = search (rules, summing)

pub loop-i-init : goal.loop-i-init
loop-i-init c = search (rules, summing)

pub overflow_add-sum-in-loop-i : goal.overflow_add-sum-in-loop-i
overflow_add-sum-in-loop-i c = let h = sum-offset _ _ _ c.requires c.loop-i-test.true in search rules

pub overflow_add-sum-in-loop-i-2 : goal.overflow_add-sum-in-loop-i-2
overflow_add-sum-in-loop-i-2 c = let h = sum-offset _ _ _ c.requires c.loop-i-test.true in search rules

pub loop-i-preserved : goal.loop-i-preserved
loop-i-preserved c = search (rules, summing)

pub returns : goal.returns
returns c = search (rules, summing)
