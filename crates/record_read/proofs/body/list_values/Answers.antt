use borrow.Author.Rules.{rules}
use native.Mathlib.Omega.{arith}
use Rattle.record_read.proofs.Reading.{head-short, vertex-rows, slice_rows, values_listed, room-still}
use Rattle.record_read.proofs.body.list_values.Goals as goal

pub overflow_add-from : goal.overflow_add-from
overflow_add-from c = let w = c.requires.all in omega (arith, head-short w, w.few1, w.few2, c.head_bytes-head.ensures)

pub read_rows-requires : goal.read_rows-requires
read_rows-requires c = search (rules, vertex-rows)

pub read_rows-requires-2 : goal.read_rows-requires-2
read_rows-requires-2 c = search (rules, slice_rows, room-still)

pub returns : goal.returns
returns c = search (rules, values_listed)
