-- What the area pass by a setting is proved by: the record's lengths, an unknown setting, and a known one.
use Prim.Native.Nat.{ℕ}
use mathlib.Core.Bool.{Bool, true, false, not}
use mathlib.Core.Path.{◌≡◌, refl, sym, ap, subst, ◌∙◌}
use mathlib.Core.List.{List}
use native.Mathlib.Omega.{arith}
use lib.ListN.{length}
use lib.Ieee.{Float, neg, le, of_bits}
use Rattle.basis.specs.Number.{limit_ok}
use Rattle.basis.specs.RefuseLaws.{answer-no}
use Rattle.basis.specs.declared.answer.CountAnswer.{CountAnswer}
use Rattle.basis.specs.Answers.{count_refused}
use Rattle.settings.specs.declared.Setting.{Setting}
use Rattle.settings.specs.Settings.{Held, lengths_fault, known, asked_of}
use Rattle.settings.specs.SettingsLaws.{asked-none}
use Rattle.area_entries.specs.AreaEntry.{area_list_rows, area_last_rows, area_refusal, AreaLeft}
use Rattle.named_entries.specs.Named.{unknown_fault}
use Rattle.named_entries.specs.NamedLaws.{is-1, is-16, is_same, was-4, answer-number, answer-same, answer-still}
use Rattle.named_entries.specs.NamedArea.{limit_in, named_area_refusal, NamedArea}

module _ (h : Held) (e : ℕ) (areas : List Float) (loops : ℕ) (kept : List ℕ) where
  -- an unknown setting's limit is out of range
  limit-out : known h.entered e ≡ false → not (limit_ok (limit_in h e)) ≡ true
  unfolding limit_ok neg le of_bits
  limit-out f = ap (λ (s : Setting). not (limit_ok s.area_limit)) (asked-none h e f)

  pub area-length : (b : Bool) (k : ℕ) (r : CountAnswer) → b ≡ lengths_fault h → b ≡ true → k ≡ 1 → r ≡ count_refused k → NamedArea h e areas loops kept r kept
  unfolding named_area_refusal
  area-length b k r is bad z q =
      let one = is-1 h e (area_list_rows areas loops) _ (sym is ∙ bad) in
      record { answers = answer-no count_refused 1 _ _ r one (λ z. omega arith) (q ∙ ap count_refused z); list = answer-no (λ _. kept) 1 _ _ kept one (λ z. omega arith) refl }

  module _ (b : Bool) (s : Setting) (a : CountAnswer) (left : List ℕ) (u : Bool) (r : CountAnswer) (is : b ≡ lengths_fault h) (good : b ≡ false) (asked : s ≡ asked_of h e)
      (given : AreaLeft areas loops s.area_limit kept a left) (told : u ≡ unknown_fault h.entered e a.refusal) where
    given' : AreaLeft areas loops (limit_in h e) kept a left
    given' = subst (λ (t : Setting). AreaLeft areas loops t.area_limit kept a left) asked given

    abbrev number : ℕ
    number = area_refusal areas loops (limit_in h e) (length kept)

    of_number : u ≡ unknown_fault h.entered e number
    of_number = told ∙ ap (λ (n : ℕ). unknown_fault h.entered e n) (answer-number count_refused (λ (x : CountAnswer). x.refusal) number _ a (λ k. refl) refl given'.answers)

    pub area-unknown : (k : ℕ) → u ≡ true → k ≡ 16 → r ≡ count_refused k → NamedArea h e areas loops kept r left
    unfolding area_refusal named_area_refusal
    area-unknown k q z w =
        let n = is-16 h e (sym is ∙ good) (area_last_rows areas loops (length kept)) (area_list_rows areas loops) _ tt limit-out number refl u of_number q in
        record {
          answers = answer-no count_refused 16 _ _ r n (λ z. omega arith) (w ∙ ap count_refused z);
          list = answer-still kept _ left number _ (was-4 h.entered e number u of_number q) n given'.list;
        }

    pub area-named : u ≡ false → r ≡ a → NamedArea h e areas loops kept r left
    unfolding area_refusal named_area_refusal
    area-named q w =
        let n = is_same h e (sym is ∙ good) (area_last_rows areas loops (length kept)) (area_list_rows areas loops) _ tt limit-out number refl u of_number q in
        record {
          answers = answer-same count_refused number _ _ r n (w ∙ given'.answers);
          list = answer-same (λ _. kept) number _ _ left n given'.list;
        }

pub ruleset ways = (area-length, area-unknown, area-named)
