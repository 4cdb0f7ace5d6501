use Rattle.std.proofs.Common.{rules}
use native.Mathlib.Omega.{arith}
use Rattle.basis.specs.RefusalLaws.{looks, found-none}
use Rattle.cut_entries.proofs.Ordering.{parts, input-few}
use Rattle.cut_entries.proofs.order.refusal.Goals as goal

pub returns-in_err-input_refusal : goal.returns-in_err-input_refusal
returns-in_err-input_refusal c = search (rules, parts, looks)

pub count-requires : goal.count-requires
count-requires c = omega (arith, input-few _ _ c.input_refusal.ensures (found-none _ _ c.in_ok-input_refusal.was))

pub room_refusal-requires : goal.room_refusal-requires
room_refusal-requires c = search (rules, input-few, looks)

pub returns : goal.returns
returns c = search (rules, parts, looks)
