use Rattle.std.proofs.Common.{refl}
use Rattle.record_write.proofs.Keeping.{kept-packs, kept-written}
use Rattle.record_write.proofs.write.write_kept.Goals as goal

pub pack_kept-requires : goal.pack_kept-requires
pack_kept-requires c = kept-packs _ _ _ c.requires _ _ refl c.list_values.ensures

pub returns : goal.returns
returns c = kept-written _ _ _ c.requires _ _ refl c.list_values.ensures _ _ c.pack_kept.ensures
