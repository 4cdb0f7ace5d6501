use Rattle.fields.specs.Fields.{bits_of}
use Rattle.fields.proofs.Copying.{copied-map, all-numbers}
use Rattle.fields.proofs.copy.copy_bits.Goals as goal

pub copy_by-requires-clause-taken : goal.copy_by-requires-clause-taken
copy_by-requires-clause-taken c = all-numbers _ c.requires.plain

pub returns : goal.returns
returns c = copied-map bits_of c.copy_by.ensures
