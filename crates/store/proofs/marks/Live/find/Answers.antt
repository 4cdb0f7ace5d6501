use Rattle.std.proofs.Common.{rules}
use Rattle.store.proofs.Looking.{looked-none}
use Rattle.store.proofs.marks.Live.find.Goals as goal

pub loop-p-init : goal.loop-p-init
loop-p-init c = search (rules, looked-none)
