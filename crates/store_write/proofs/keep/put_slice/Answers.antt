use Rattle.std.proofs.Common.{rules}
use Rattle.store_write.proofs.Calling.{blank-start, put_full, put_low, put-write, put-done}
use Rattle.store_write.proofs.keep.put_slice.Goals as goal

pub find-requires : goal.find-requires
find-requires c = blank-start _ (search rules)

pub returns-then-live-cap : goal.returns-then-live-cap
returns-then-live-cap c = search (rules, put_full)

pub mark_at-requires : goal.mark_at-requires
mark_at-requires c = search (rules, put_low)

pub write_slice-requires : goal.write_slice-requires
write_slice-requires c = search (rules, put-write)

pub returns : goal.returns
returns c = search (rules, put-done)
