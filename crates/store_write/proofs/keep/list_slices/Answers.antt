use Rattle.std.proofs.Common.{rules}
use Rattle.store_write.proofs.Calling.{blank-start, show-codes, show-numbers, show-editions, list-done}
use Rattle.store_write.proofs.keep.list_slices.Goals as goal

pub find-requires : goal.find-requires
find-requires c = blank-start _ (search rules)

pub show-requires : goal.show-requires
show-requires c = search (rules, show-codes)

pub show-requires-2 : goal.show-requires-2
show-requires-2 c = search (rules, show-numbers)

pub show-requires-3 : goal.show-requires-3
show-requires-3 c = search (rules, show-editions)

pub returns : goal.returns
returns c = search (rules, list-done)
