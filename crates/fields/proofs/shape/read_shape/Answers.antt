use Rattle.std.proofs.Common.{rules}
use native.Mathlib.Omega.{arith}
use Rattle.fields.proofs.Shaping.{reading-field, reading-more, reading-end}
use Rattle.fields.proofs.shape.read_shape.Goals as goal

pub get-requires : goal.get-requires
get-requires c = search (rules, reading-field)

pub overflow_add-p : goal.overflow_add-p
overflow_add-p c = let f = reading-field c.loop-i.invariant c.loop-i-test.true in omega (arith, f.inside)

pub loop-i-preserved : goal.loop-i-preserved
loop-i-preserved c = search (rules, reading-more)

pub returns : goal.returns
returns c = search (rules, reading-end)
