use Rattle.fields.proofs.Putting.{putting-more, putting-end}
use Rattle.fields.proofs.field.put.Goals as goal

pub loop-i-preserved : goal.loop-i-preserved
loop-i-preserved c = putting-more _ c.loop-i.invariant c.loop-i-test.true c.low.ensures

pub returns : goal.returns
returns c = putting-end c.loop-i.invariant c.loop-i-test.false
