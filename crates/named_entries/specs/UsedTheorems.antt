-- What a stitch or an area pass uses under an edition is what was entered under it, after any sequence of entries, refused entries and questions.
use Rattle.std.specs.Prelude.{ℕ, ◌≡◌, List}
use Rattle.std.proofs.Math.Path.{refl, sym, ap}
use Rattle.std.proofs.Common.{◌∙◌}
use borrow.Author.Tests.{not-false}
use Rattle.basis.specs.Machine.{after}
use Rattle.basis.specs.Number.{tolerance_of}
use Rattle.basis.specs.RefuseLaws.{clear, answer-zero, answer-accepted}
use Rattle.settings.specs.declared.Setting.{Setting}
use Rattle.settings.specs.Settings.{Held, known, asked_of}
use Rattle.settings.specs.SettingsLaws.{lengths-ok}
use Rattle.settings_entries.specs.declared.answer.SettingAnswer.{SettingAnswer}
use Rattle.settings_entries.specs.Answers.{setting_refused, setting_given}
use Rattle.settings_entries.specs.SettingsEntry.{enter_answer, enter_held, ask_rows, ask_refusal, ask_answer}
use Rattle.settings_entries.specs.History.{Call, step}
use Rattle.settings_entries.specs.HistoryTheorems.{stands}
use Rattle.named_entries.specs.NamedStitch.{Holding}
use Rattle.named_entries.specs.NamedArea.{limit_in}

-- any record, any setting that was taken, any calls after it
module _ (h : Held) (s : Setting) (taken : (enter_answer h s).refusal ≡ 0) (calls : List Call) where
  abbrev later : Held
  later = after step (enter_held h s) calls

  abbrev edition : ℕ
  edition = (enter_answer h s).edition

  number : ask_refusal later edition ≡ 0
  unfolding ask_answer
  number = answer-zero setting_refused (λ (a : SettingAnswer). a.refusal) (ask_refusal later edition) _ (setting_given s) (λ n. refl) (sym (stands h s taken calls)) refl

  asked : setting_given (asked_of later edition) ≡ setting_given s
  unfolding ask_answer
  asked = sym (answer-accepted setting_refused (ask_refusal later edition) _ (ask_answer later edition) refl number) ∙ stands h s taken calls

  -- a stitch that names the edition has the tolerances that were entered, and its record holds it
  pub used-tolerances : Holding later edition (tolerance_of s.tolerance_x s.tolerance_y)
  unfolding ask_refusal
  used-tolerances =
      let ok = clear (ask_rows later edition) tt number in
      record {
        sized = lengths-ok later ok.0;
        there = not-false (known later.entered edition) ok.1.0;
        tolerances = ap (λ (a : SettingAnswer). tolerance_of a.tolerance_x a.tolerance_y) asked;
      }

  -- and an area pass the limit
  pub used-limit : limit_in later edition ≡ s.area_limit
  used-limit = ap (λ (a : SettingAnswer). a.area_limit) asked
