use Rattle.std.proofs.Common.{rules}
use Rattle.basis.specs.RoomLaws.{clearing}
use Rattle.basis.proofs.room.fill.Goals as goal

pub loop-i-init : goal.loop-i-init
loop-i-init g c = search (rules, clearing)

pub loop-i-preserved : goal.loop-i-preserved
loop-i-preserved g c = search (rules, clearing)
