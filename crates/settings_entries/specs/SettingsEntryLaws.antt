-- What each entry answers and leaves, where it is accepted and where it is refused.
use Rattle.std.specs.Prelude.{ℕ, Bool, ◌&&◌, ◌≡◌}
use Rattle.std.proofs.Math.Path.{refl, ap}
use Rattle.std.proofs.Common.{sym, ◌∙◌}
use Rattle.basis.specs.Number.{tolerance_of, tolerable, limit_ok}
use Rattle.basis.specs.RefuseLaws.{clear, answer-no, answer-yes}
use Rattle.settings.specs.declared.Setting.{Setting}
use Rattle.settings.specs.Settings.{Held, Open, Entered, asked_of}
use Rattle.settings.specs.SettingsLaws.{lengths-ok, not_full}
use Rattle.settings_entries.specs.declared.answer.EditionAnswer.{EditionAnswer}
use Rattle.settings_entries.specs.declared.answer.SettingAnswer.{SettingAnswer}
use Rattle.settings_entries.specs.Answers.{edition_refused, edition_given, setting_refused, setting_given}
use Rattle.settings_entries.specs.SettingsEntry.{setting_ok, enter_rows, enter_refusal, enter_answer, enter_held, EnterLeft, ask_refusal, ask_answer}

-- the tests of a setting
pub good-by : (s : Setting) (t a : Bool) → t ≡ tolerable (tolerance_of s.tolerance_x s.tolerance_y) → a ≡ limit_ok s.area_limit → (t && a) ≡ setting_ok s
unfolding setting_ok
good-by s t a e f = rw (e, f)

module _ (h : Held) (s : Setting) (number : ℕ) (e : number ≡ enter_refusal h s) where
  -- an entry that is taken has an open record
  pub enter-open : number ≡ 0 → Open h
  unfolding enter_refusal
  enter-open z =
      let ok = clear (enter_rows h s) tt (sym e ∙ z) in
      record { sized = lengths-ok h (search ok); fewer = not_full h.entered (search ok) }

  pub enter-refused : (r : EditionAnswer) → (number ≡ 0 → ⊥) → r ≡ edition_refused number → EnterLeft h s r h
  unfolding enter_answer enter_held
  enter-refused r some q =
      record { answers = answer-no edition_refused number _ _ r e some q; lists = answer-no (λ _. h) number _ _ h e some refl }

  pub enter-given : (edition : ℕ) (r : EditionAnswer) (left : Held) → number ≡ 0 → Entered h s edition left → r ≡ edition_given edition → EnterLeft h s r left
  unfolding enter_answer enter_held
  enter-given edition r left z w q =
      record {
        answers = answer-yes edition_refused number _ _ r e z (q ∙ ap (λ (n : ℕ). edition_given n) w.edition);
        lists = answer-yes (λ _. h) number _ _ left e z w.lists;
      }

module _ (h : Held) (e number : ℕ) (r : SettingAnswer) (told : number ≡ ask_refusal h e) where
  pub ask-refused : (number ≡ 0 → ⊥) → r ≡ setting_refused number → r ≡ ask_answer h e
  unfolding ask_answer
  ask-refused some q = answer-no setting_refused number _ _ r told some q

  pub ask-given : (s : Setting) → number ≡ 0 → s ≡ asked_of h e → r ≡ setting_given s → r ≡ ask_answer h e
  unfolding ask_answer
  ask-given s z a q = answer-yes setting_refused number _ _ r told z (q ∙ ap (λ (x : Setting). setting_given x) a)

pub ruleset entering = (enter-open, enter-refused, enter-given)

pub ruleset asking = (ask-refused, ask-given)
