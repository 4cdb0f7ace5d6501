use Rattle.std.proofs.Common.{w64}
use mir.Facts.{to_z_pos}
use Rattle.whole.proofs.signed.signed.Goals as goal

pub returns : goal.returns
returns c = to_z_pos w64 c.requires.below
