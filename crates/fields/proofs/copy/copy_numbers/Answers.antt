use Rattle.fields.specs.Fields.{num_of}
use Rattle.fields.proofs.Copying.{copied-map}
use Rattle.fields.proofs.copy.copy_numbers.Goals as goal

pub returns : goal.returns
returns c = copied-map num_of c.copy_by.ensures
