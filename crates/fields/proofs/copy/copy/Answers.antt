use Rattle.fields.proofs.Copying.{copied}
use Rattle.fields.proofs.copy.copy.Goals as goal

pub returns : goal.returns
returns c = copied c.args.source.now c.args.out.now _ _ _ _ c.requires c.copy_from_slice.ensures.after
