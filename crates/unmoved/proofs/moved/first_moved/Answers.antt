use Prim.Native.Nat.{◌-◌}
use mathlib.Core.Bool.{true, not}
use mathlib.Core.Path.{ap}
use Rattle.unmoved.specs.Unmoved.{same_at}
use Rattle.unmoved.specs.UnmovedLaws.{moved-some, moving}
use native.Mathlib.Omega.{arith}
use borrow.Author.Rules.{rules}
use Rattle.unmoved.proofs.moved.first_moved.Goals as goal

pub loop-k-init : goal.loop-k-init
loop-k-init c = search (rules, moving)

pub returns-then-not-same_at : goal.returns-then-not-same_at
returns-then-not-same_at c =
    moved-some _ _ _ _ _ _ _ c.loop-k.invariant.1 c.same_at.ensures (ap not c.if-not-same_at.true) (omega arith)

pub loop-k-preserved : goal.loop-k-preserved
loop-k-preserved c = search (rules, moving)

pub returns : goal.returns
returns c = search (rules, moving)
