use Rattle.std.proofs.Common.{rules}
use Rattle.basis.specs.RefusalLaws.{looks}
use Rattle.settings_entries.specs.SettingsEntryLaws.{enter-open}
use Rattle.settings_entries.proofs.enter.entry.Goals as goal

pub enter-requires : goal.enter-requires
enter-requires c = search (rules, enter-open, looks)
