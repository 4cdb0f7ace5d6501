use Rattle.std.proofs.Common.{rules}
use Rattle.slice.specs.Faults.{start_inside}
use Rattle.slice.proofs.faults.starts_inside.Goals as goal

pub returns : goal.returns
returns c = c.all_slices.ensures (start_inside c.args.vc1 c.args.vc2) (record { told = λ x b p. search rules })
