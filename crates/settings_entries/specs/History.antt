-- Request K7, "after any sequence of entries and refused entries": the calls of a host on one record, one after the other.
use Rattle.std.specs.Prelude.{ℕ, ◌+◌, ◌-◌, not, cond, ◌&&◌, List, [], ◌∷◌, ◌++◌, length, get_or, eqb, ltb, leb}
use Rattle.basis.specs.Machine.{Turn, turn, answers}
use Rattle.basis.specs.Refuse.{row, first_of, answer}
use Rattle.settings.specs.declared.Setting.{Setting}
use Rattle.settings.specs.Settings.{Held, settings_of, none}
use Rattle.settings_entries.specs.declared.answer.EditionAnswer.{EditionAnswer}
use Rattle.settings_entries.specs.declared.answer.SettingAnswer.{SettingAnswer}
use Rattle.settings_entries.specs.Answers.{edition_refused, edition_given, setting_refused, setting_given}
use Rattle.settings_entries.specs.SettingsEntry.{setting_ok, enter_answer, enter_held, ask_answer}

pub data Call : Type 0 where
  enter : Setting → Call
  ask : ℕ → Call

pub data Told : Type 0 where
  entered : EditionAnswer → Told
  asked : SettingAnswer → Told

-- what a call is answered, and the record that it leaves: by the contracts of the two entries
unfoldable pub step : Held → Call → Turn Held Told
step h (enter s) = turn (entered (enter_answer h s)) (enter_held h s)
step h (ask e) = turn (asked (ask_answer h e)) h

-- ---- the same of a plain list of settings, of which nothing is ever taken away or changed

-- "A seventeenth is refused and changes nothing."
unfoldable pub plain_number : List Setting → Setting → ℕ
plain_number l s = first_of (row (eqb (length l) 16) 17 ∷ row (not (setting_ok s)) 4 ∷ [])

unfoldable pub plain_entered : List Setting → Setting → EditionAnswer
plain_entered l s = answer edition_refused (plain_number l s) (edition_given (length l + 1))

unfoldable pub plain_more : List Setting → Setting → List Setting
plain_more l s = answer (λ _. l) (plain_number l s) (l ++ (s ∷ []))

-- "Editions count from 1"; "16 edition unknown"
unfoldable pub plain_asked : List Setting → ℕ → SettingAnswer
plain_asked l e = cond (ltb 0 e && leb e (length l)) (setting_given (get_or l (e - 1) none)) (setting_refused 16)

unfoldable pub plain_step : List Setting → Call → Turn (List Setting) Told
plain_step l (enter s) = turn (entered (plain_entered l s)) (plain_more l s)
plain_step l (ask e) = turn (asked (plain_asked l e)) l

-- ---- what was entered

-- the setting of an accepted entry: its answer has no refusal
unfoldable pub entry_in : Call → Told → List Setting
entry_in (enter s) (entered a) = cond (eqb a.refusal 0) (s ∷ []) []
entry_in (enter s) (asked a) = []
entry_in (ask e) told = []

-- the settings of the accepted entries of a history, in their order
unfoldable pub accepted : List Call → List Told → List Setting
accepted [] told = []
accepted (c ∷ calls) [] = []
accepted (c ∷ calls) (t ∷ told) = entry_in c t ++ accepted calls told

-- what a record held, and then the settings of the accepted entries of the calls on it
unfoldable pub held_after : Held → List Call → List Setting
held_after h calls = settings_of h ++ accepted calls (answers step h calls)
