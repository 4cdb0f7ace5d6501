use borrow.Author.Rules.{rules}
use native.Mathlib.Omega.{arith}
use Rattle.record.proofs.Heading.{slices-small, head_small, length-told}
use Rattle.record.proofs.head.length_of.Goals as goal

pub overflow_mul-result-3 : goal.overflow_mul-result-3
overflow_mul-result-3 c = let p = c.requires in omega (arith, slices-small p c.slice_bytes-stride.ensures)

pub overflow_add-result : goal.overflow_add-result
overflow_add-result c = let p = c.requires in omega (arith, slices-small p c.slice_bytes-stride.ensures, p.counts.second)

pub overflow_add-result-2 : goal.overflow_add-result-2
overflow_add-result-2 c = let p = c.requires in omega (arith, slices-small p c.slice_bytes-stride.ensures, p.counts.first, p.counts.second)

pub overflow_add-result-3 : goal.overflow_add-result-3
overflow_add-result-3 c = let p = c.requires in omega (arith, slices-small p c.slice_bytes-stride.ensures, head_small p.form c.head_bytes-head.ensures, p.counts.first, p.counts.second)

pub returns : goal.returns
returns c = search (rules, length-told)
