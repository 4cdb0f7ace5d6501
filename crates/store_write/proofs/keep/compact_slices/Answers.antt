use Rattle.std.proofs.Common.{rules}
use Rattle.store_write.proofs.Calling.{blank-start, lay-codes, lay-numbers, lay-editions, compact-done}
use Rattle.store_write.proofs.keep.compact_slices.Goals as goal

pub find-requires : goal.find-requires
find-requires c = blank-start _ (search rules)

pub lay_codes-requires : goal.lay_codes-requires
lay_codes-requires c = search (rules, lay-codes)

pub lay_numbers-requires : goal.lay_numbers-requires
lay_numbers-requires c = search (rules, lay-numbers)

pub lay_editions-requires : goal.lay_editions-requires
lay_editions-requires c = search (rules, lay-editions)

pub returns : goal.returns
returns c = search (rules, compact-done)
