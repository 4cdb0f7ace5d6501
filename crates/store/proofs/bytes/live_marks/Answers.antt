use Rattle.std.proofs.Common.{rules}
use Rattle.store.proofs.LookingBytes.{looked-none}
use Rattle.store.proofs.bytes.live_marks.Goals as goal

pub loop-p-init : goal.loop-p-init
loop-p-init c = search (rules, looked-none)
