-- Closed examples, computed.
use Rattle.std.specs.Prelude.{false, ◌≡◌, refl, [], ◌∷◌, replicate, negsuc}
use Rattle.std.specs.Float.{nan, inf, fin}
use Rattle.std.specs.Float.Ieee.{neg, lt, eq, le, of_bits}
use Rattle.basis.specs.Machine.{answers}
use Rattle.basis.specs.Number.{+0, one, tolerable_on, tolerable, limit_ok}
use Rattle.basis.specs.Refuse.{first_of, answer}
use Rattle.settings.specs.declared.Setting.{Setting}
use Rattle.settings.specs.Settings.{Held, held, lengths_fault, count_of, setting_at, settings_to, settings_of, known, asked_of, full, written, extended}
use Rattle.settings_entries.specs.Answers.{edition_refused, edition_given, setting_refused, setting_given}
use Rattle.settings_entries.specs.SettingsEntry.{setting_of, setting_ok, enter_refusal, enter_answer, enter_held, ask_refusal, ask_answer}
use Rattle.settings_entries.specs.History.{enter, ask, entered, asked, step}

abbrev zeros : Held
zeros = held (0 ∷ []) (replicate 48 +0)

-- tolerances of 2 ^ -10 for x and 2 ^ -11 for y, and an area limit of 1
abbrev fine : Setting
fine = setting_of (fin false 1 (negsuc 9)) (fin false 1 (negsuc 10)) one

-- the widest: both tolerances 1, and every area stays
abbrev wide : Setting
wide = setting_of one one (neg +0)

-- zeros are the empty record
pub none_yet_lem : settings_of zeros ≡ []
unfolding settings_of settings_to count_of
none_yet_lem = refl

-- two entries, one between them that is refused, and questions: 0 and 3 are unknown
pub first-calls :
    answers step zeros (ask 1 ∷ enter fine ∷ enter (setting_of one one nan) ∷ enter wide ∷ ask 1 ∷ ask 2 ∷ ask 0 ∷ ask 3 ∷ [])
    ≡ asked (setting_refused 16) ∷ entered (edition_given 1) ∷ entered (edition_refused 4) ∷ entered (edition_given 2)
    ∷ asked (setting_given fine) ∷ asked (setting_given wide) ∷ asked (setting_refused 16) ∷ asked (setting_refused 16) ∷ []
unfolding answers step enter_answer enter_held enter_refusal ask_answer ask_refusal first_of answer lengths_fault full known count_of setting_at asked_of written extended setting_ok tolerable tolerable_on limit_ok neg lt le eq of_bits
first-calls = refl

-- a count above 16 reads as 16: a full record
abbrev crowded : Held
crowded = held (99 ∷ []) (replicate 48 one)

-- which number comes first: 1, then 17, then 4
pub numbers-in-order :
    enter_refusal (held (99 ∷ []) []) (setting_of +0 one one) ∷ enter_refusal crowded (setting_of +0 one one) ∷ enter_refusal zeros (setting_of +0 one one) ∷ []
    ≡ 1 ∷ 17 ∷ 4 ∷ []
unfolding enter_refusal first_of lengths_fault full count_of setting_ok tolerable tolerable_on limit_ok lt le eq of_bits
numbers-in-order = refl

-- the sixteenth is asked for, and a seventeenth is unknown
pub sixteen : ask_refusal crowded 16 ∷ ask_refusal crowded 17 ∷ ask_refusal crowded 99 ∷ [] ≡ 0 ∷ 16 ∷ 16 ∷ []
unfolding ask_refusal first_of lengths_fault known count_of
sixteen = refl

-- "position tolerance: above 0 to 1"; "area limit: 0 to any finite": what is not in range is 4, a NaN and an infinity too
pub out_of_range :
    enter_refusal zeros (setting_of one +0 one)
    ∷ enter_refusal zeros (setting_of (fin false 3 (negsuc 0)) one one)
    ∷ enter_refusal zeros (setting_of one (inf false) one)
    ∷ enter_refusal zeros (setting_of nan one one)
    ∷ enter_refusal zeros (setting_of one one (neg one))
    ∷ enter_refusal zeros (setting_of one one (inf false))
    ∷ []
    ≡ replicate 6 4
unfolding enter_refusal first_of lengths_fault full count_of setting_ok tolerable tolerable_on limit_ok neg lt le eq of_bits
out_of_range = refl
