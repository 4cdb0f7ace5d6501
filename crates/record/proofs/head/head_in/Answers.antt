use Rattle.std.proofs.Common.{rules, refl}
use native.Mathlib.Omega.{arith}
use Rattle.record.proofs.Heading.{head-fits, selector-fits, edition1-fits, edition2-fits, plan-said, head_read_lem}
use Rattle.record.proofs.head.head_in.Goals as goal

pub read_shape-requires : goal.read_shape-requires
read_shape-requires c = search (rules, head-fits)

pub overflow_cast-plan : goal.overflow_cast-plan
overflow_cast-plan c = omega (arith, selector-fits c.requires c.head_widths.ensures refl c.read_shape.ensures)

pub overflow_cast-result : goal.overflow_cast-result
overflow_cast-result c = omega (arith, edition1-fits c.requires c.head_widths.ensures refl c.read_shape.ensures)

pub overflow_cast-result-2 : goal.overflow_cast-result-2
overflow_cast-result-2 c = omega (arith, edition2-fits c.requires c.head_widths.ensures refl c.read_shape.ensures)

pub returns : goal.returns
returns c = head_read_lem c.requires c.head_widths.ensures refl c.read_shape.ensures _ (plan-said c.args.v c.read_shape.new.values _ c.tolerance_in.ensures)
