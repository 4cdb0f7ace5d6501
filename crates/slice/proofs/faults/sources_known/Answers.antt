use Rattle.std.proofs.Common.{rules}
use Rattle.slice.specs.Faults.{source_known}
use Rattle.slice.proofs.faults.sources_known.Goals as goal

pub returns : goal.returns
returns c = c.all_slices.ensures source_known (record { told = λ x b p. search rules })
