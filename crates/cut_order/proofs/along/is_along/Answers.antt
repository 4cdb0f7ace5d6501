use native.Mathlib.Omega.{arith}
use mathlib.Core.Path.{refl}
use borrow.Author.Rules.{rules}
use Rattle.cut_order.proofs.Following.{follow-triple, follow-more, follow-end}
use Rattle.cut_order.proofs.along.is_along.Goals as goal

pub key_of-key-requires : goal.key_of-key-requires
key_of-key-requires c = follow-triple _ _ _ _ c.loop-i.invariant (omega (arith, c.loop-i-test.true, c.count-count.ensures)) _ refl _ (omega (arith, c.if-count-n.false, c.count-count.ensures)) c.cut_of-c.ensures

pub loop-i-preserved : goal.loop-i-preserved
loop-i-preserved c = follow-more _ _ _ _ c.loop-i.invariant (omega (arith, c.loop-i-test.true, c.count-count.ensures)) _ _ _ (omega (arith, c.if-count-n.false, c.count-count.ensures)) c.cut_of-c.ensures c.key_of-key.ensures c.follows.ensures (search rules)

pub returns : goal.returns
returns c = follow-end _ _ _ _ c.loop-i.invariant (omega (arith, c.loop-i-test.false, c.count-count.ensures))
