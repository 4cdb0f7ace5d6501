use Rattle.std.proofs.Common.{arith}
use Rattle.store.proofs.Looking.{lowest-found}
use Rattle.store.proofs.marks.lowest.Goals as goal

pub returns : goal.returns
returns c = lowest-found c.args.flags.now c.args.cap c.first_free.result c.unwrap_or.result (omega arith) c.first_free.ensures c.unwrap_or.ensures
