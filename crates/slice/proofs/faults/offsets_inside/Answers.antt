use Rattle.std.proofs.Common.{rules}
use Rattle.slice.specs.Faults.{offset_inside}
use Rattle.slice.proofs.faults.offsets_inside.Goals as goal

pub returns : goal.returns
returns c = c.all_slices.ensures (offset_inside c.args.vc1 c.args.vc2) (record { told = λ x b p. search rules })
