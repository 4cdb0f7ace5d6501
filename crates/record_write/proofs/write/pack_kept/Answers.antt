use Rattle.std.proofs.Common.{rules}
use Rattle.record_write.proofs.Keeping.{pack-fits, packed-as}
use Rattle.record_write.proofs.write.pack_kept.Goals as goal

pub pack_form-requires : goal.pack_form-requires
pack_form-requires c = search (rules, pack-fits)

pub returns : goal.returns
returns c =
    packed-as c.requires c.head_widths.ensures c.slice_widths.ensures c.head_values.ensures _ _ _ c.pack_form.ensures
