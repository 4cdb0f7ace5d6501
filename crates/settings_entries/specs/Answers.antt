-- The flat answers of the entries over settings. "A refusal returns its number and zero counts": all but the number is 0.
use Rattle.std.specs.Prelude.{ℕ}
use Rattle.basis.specs.Number.{+0}
use Rattle.settings.specs.declared.Setting.{Setting}
use Rattle.settings_entries.specs.declared.answer.EditionAnswer.{EditionAnswer}
use Rattle.settings_entries.specs.declared.answer.SettingAnswer.{SettingAnswer}

abbrev pub edition_refused : ℕ → EditionAnswer
edition_refused n = record { refusal = n; edition = 0 }

abbrev pub edition_given : ℕ → EditionAnswer
edition_given e = record { refusal = 0; edition = e }

abbrev pub setting_refused : ℕ → SettingAnswer
setting_refused n = record { refusal = n; tolerance_x = +0; tolerance_y = +0; area_limit = +0 }

abbrev pub setting_given : Setting → SettingAnswer
setting_given s = record { refusal = 0; tolerance_x = s.tolerance_x; tolerance_y = s.tolerance_y; area_limit = s.area_limit }
