use Rattle.std.proofs.Common.{rules}
use Rattle.basis.specs.RefusalLaws.{looks}
use Rattle.area_entries.proofs.Ways.{area-accepted}
use Rattle.area_entries.proofs.areas.entry.Goals as goal

pub write_kept-requires : goal.write_kept-requires
write_kept-requires c = search (rules, area-accepted, looks)
