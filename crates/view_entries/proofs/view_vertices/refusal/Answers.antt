use Rattle.std.proofs.Common.{rules, arith}
use Rattle.basis.specs.RefusalLaws.{looks, found-none}
use Rattle.view_entries.specs.ViewVertices.{list-shaped, list_rows}
use Rattle.view_entries.proofs.view_vertices.refusal.Goals as goal

pub returns-in_err-refusal : goal.returns-in_err-refusal
returns-in_err-refusal c = search (rules, list_rows, looks)

pub overflow_add-v : goal.overflow_add-v
overflow_add-v c = let s = list-shaped _ _ _ 0 _ c.refusal.ensures (found-none _ _ c.in_ok-refusal.was) in omega arith

pub overflow_mul-v : goal.overflow_mul-v
overflow_mul-v c = let s = list-shaped _ _ _ 0 _ c.refusal.ensures (found-none _ _ c.in_ok-refusal.was) in omega arith

pub returns : goal.returns
returns c = search (rules, list_rows, looks)
