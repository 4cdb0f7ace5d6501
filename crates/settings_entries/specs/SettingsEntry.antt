-- The entries `mask_settings_enter` and `mask_settings_ask`: their refusals, their answers, and what the record holds afterwards.
-- "Refusals: 16 edition unknown, 17 settings full; both where number 4 stands, before it."
use Rattle.std.specs.Prelude.{ℕ, ◌+◌, Bool, not, ◌&&◌, ◌≡◌, List, [], ◌∷◌, Float}
use Rattle.basis.specs.Number.{tolerance_of, tolerable, limit_ok}
use Rattle.basis.specs.Refuse.{Row, row, first_of, answer}
use Rattle.settings.specs.declared.Setting.{Setting}
use Rattle.settings.specs.Settings.{Held, lengths_fault, count_of, full, known, asked_of, extended}
use Rattle.settings_entries.specs.declared.answer.EditionAnswer.{EditionAnswer}
use Rattle.settings_entries.specs.declared.answer.SettingAnswer.{SettingAnswer}
use Rattle.settings_entries.specs.Answers.{edition_refused, edition_given, setting_refused, setting_given}

-- "each with both tolerances and the area limit"
abbrev pub setting_of : Float → Float → Float → Setting
setting_of x y a = record { tolerance_x = x; tolerance_y = y; area_limit = a }

-- ---- entering

-- 4 where it fails: "tolerance or area limit is not finite or is out of range"; "number 4 covers either" tolerance
unfoldable pub setting_ok : Setting → Bool
setting_ok s = tolerable (tolerance_of s.tolerance_x s.tolerance_y) && limit_ok s.area_limit

abbrev pub enter_rows : Held → Setting → List Row
enter_rows h s = row (lengths_fault h) 1 ∷ row (full h.entered) 17 ∷ row (not (setting_ok s)) 4 ∷ []

unfoldable pub enter_refusal : Held → Setting → ℕ
enter_refusal h s = first_of (enter_rows h s)

-- "Editions count from 1"
unfoldable pub enter_answer : Held → Setting → EditionAnswer
enter_answer h s = answer edition_refused (enter_refusal h s) (edition_given (count_of h.entered + 1))

-- the record afterwards: extended by the setting, and as it was where the entry is refused
unfoldable pub enter_held : Held → Setting → Held
enter_held h s = answer (λ _. h) (enter_refusal h s) (extended h s)

pub record EnterLeft (h : Held) (s : Setting) (r : EditionAnswer) (left : Held) : Type 0 where
  pub answers : r ≡ enter_answer h s
  pub lists : left ≡ enter_held h s

-- ---- asking

abbrev pub ask_rows : Held → ℕ → List Row
ask_rows h e = row (lengths_fault h) 1 ∷ row (not (known h.entered e)) 16 ∷ []

unfoldable pub ask_refusal : Held → ℕ → ℕ
ask_refusal h e = first_of (ask_rows h e)

unfoldable pub ask_answer : Held → ℕ → SettingAnswer
ask_answer h e = answer setting_refused (ask_refusal h e) (setting_given (asked_of h e))
