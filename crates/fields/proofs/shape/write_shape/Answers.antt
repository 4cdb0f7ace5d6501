use Rattle.std.proofs.Common.{rules}
use native.Mathlib.Omega.{arith}
use Rattle.fields.proofs.Shaping.{writing-inside, writing_more, writing-end}
use Rattle.fields.proofs.shape.write_shape.Goals as goal

pub put-requires : goal.put-requires
put-requires c = search (rules, writing-inside)

pub overflow_add-p : goal.overflow_add-p
overflow_add-p c = let g = c.loop-i.invariant in omega (arith, writing-inside g c.loop-i-test.true, g.long)

pub loop-i-preserved : goal.loop-i-preserved
loop-i-preserved c = search (rules, writing_more)

pub returns : goal.returns
returns c = search (rules, writing-end)
