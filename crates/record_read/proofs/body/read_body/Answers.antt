use Rattle.std.proofs.Common.{arith, refl}
use Rattle.record_read.proofs.Reading.{lists-fit, lists_filled}
use Rattle.record_read.proofs.body.read_body.Goals as goal

pub fill_lists-requires : goal.fill_lists-requires
fill_lists-requires c = lists-fit c.requires _ _ _ refl c.list_values.ensures (λ i. omega (arith, c.type_inv.bytes i))

pub returns-clause-filled : goal.returns-clause-filled
returns-clause-filled c = lists_filled c.requires _ _ _ refl c.list_values.ensures c.fill_lists.ensures.filled
