-- The entry `mask_validate_for_source`: its refusals, its answer, and what acceptance gives.
-- "Here those faults are verdicts, so this entry gives neither 2 (too short) nor 7, nor 6 on an outline that is too short."
-- K3: it compares the view's edition with the outline's. 14 comes before any verdict, on an outline that is too short too.
use Rattle.std.specs.Prelude.{ℕ, zero, suc, ◌≤◌, ◌<◌, Bool, false, not, ◌&&◌, ◌≡◌, length, leb, eqb, Float, Result}
use Rattle.std.proofs.Math.Path.{refl}
use Rattle.std.proofs.Common.{sym, ap, subst, ◌∙◌, arith, leb-false, le-leb}
use mathlib.Core.List.{List, [], ◌∷◌, ◌++◌}
use Rattle.basis.specs.Number.{all_within}
use Rattle.basis.specs.declared.refuse.Refusal.{Refusal}
use Rattle.basis.specs.declared.refuse.Refusal.TheVariants.{Edition}
use Rattle.basis.specs.Refusals.{when, found}
use Rattle.basis.specs.Refuse.{Row, row, first_of, answer, or_else, length_fault, long_fault, choice_fault}
use Rattle.basis.specs.RefuseLaws.{Clear, clear, none-clear, clear-left, first_found, first-later, length-ok, long_ok}
use Rattle.view.specs.declared.data.ViewData.{ViewData}
use Rattle.verdict.specs.declared.validate.ViewDataValidation.{ViewDataValidation}
use Rattle.view.specs.View.{view_numbers}
use Rattle.verdict.specs.Validate.{Asked, verdict_of}
use Rattle.view_entries.specs.declared.input.View.{View}
use Rattle.verdict_answer.specs.declared.answer.VerdictAnswer.{VerdictAnswer}
use Rattle.view_entries.specs.LookLaws.{found-when}
use Rattle.view_entries.specs.Inputs.{view_data}
use Rattle.verdict_answer.specs.VerdictAnswers.{verdict_refused, verdict_given}

-- 6, of an outline that is not too short
unfoldable pub start_fault : ℕ → ℕ → Bool
start_fault vc start = leb 2 vc && leb vc start

-- what a verdict asks for: the rows that both entries share, `mask_validate_for_source` and `mask_reopen`
abbrev pub ask_rows : List Float → ℕ → View → ℕ → ℕ → List Row
ask_rows o vc v start_on end_on =
    row (length_fault 3 (length o) vc) 1
    ∷ row (long_fault vc) 2
    ∷ row (choice_fault v.inverted_direction) 3
    ∷ row (choice_fault start_on) 3
    ∷ row (choice_fault end_on) 3
    ∷ row (not (all_within o)) 5
    ∷ row (not (all_within (view_numbers (view_data v)))) 5
    ∷ row (start_fault vc v.start_index) 6
    ∷ []

unfoldable pub ask_refusal : List Float → ℕ → View → ℕ → ℕ → ℕ
ask_refusal o vc v start_on end_on = first_of (ask_rows o vc v start_on end_on)

-- 14: "edition differs"
abbrev pub edition_rows : ℕ → ℕ → List Row
edition_rows edition view_edition = row (not (eqb view_edition edition)) 14 ∷ []

abbrev pub validate_rows : List Float → ℕ → ℕ → View → ℕ → ℕ → ℕ → List Row
validate_rows o vc edition v view_edition start_on end_on = ask_rows o vc v start_on end_on ++ edition_rows edition view_edition

unfoldable pub validate_refusal : List Float → ℕ → ℕ → View → ℕ → ℕ → ℕ → ℕ
validate_refusal o vc edition v view_edition start_on end_on = first_of (validate_rows o vc edition v view_edition start_on end_on)

-- the verdict, flat; it does not look at editions
abbrev pub verdict_answered : List Float → ℕ → View → ℕ → ℕ → VerdictAnswer
verdict_answered o vc v start_on end_on = verdict_given (verdict_of o vc (view_data v) (eqb start_on 1) (eqb end_on 1))

abbrev pub validate_answer : List Float → ℕ → ℕ → View → ℕ → ℕ → ℕ → VerdictAnswer
validate_answer o vc edition v view_edition start_on end_on =
    answer verdict_refused (validate_refusal o vc edition v view_edition start_on end_on) (verdict_answered o vc v start_on end_on)

start-ok : (vc start : ℕ) → start_fault vc start ≡ false → 2 ≤ vc → start < vc
unfolding start_fault
start-ok vc start e h = leb-false vc start (sym (ap (λ (b : Bool). b && leb vc start) (le-leb 2 vc h)) ∙ e)

module _ (o : List Float) (vc : ℕ) (v : View) (start_on end_on : ℕ) where
  ask-clear : (number : ℕ) → number ≡ ask_refusal o vc v start_on end_on → number ≡ 0 → Clear (ask_rows o vc v start_on end_on)
  unfolding ask_refusal
  ask-clear number e z = clear (ask_rows o vc v start_on end_on) tt (sym e ∙ z)

  pub ask-accepted : (number : ℕ) (w : ViewData) → number ≡ ask_refusal o vc v start_on end_on → number ≡ 0 → w ≡ view_data v → Asked o vc w
  ask-accepted number w e z q =
      let ok = ask-clear number e z in
      subst (λ (u : ViewData). Asked o vc u) (sym q)
      (record {
        triples = length-ok 3 (length o) vc (search ok);
        most = long_ok vc (search ok);
        starts = start-ok vc v.start_index (search ok);
      })

  pub validate-of : (w : ViewData) (d : ViewDataValidation) (r : VerdictAnswer) → w ≡ view_data v → d ≡ verdict_of o vc w (eqb start_on 1) (eqb end_on 1) → r ≡ verdict_given d → r ≡ verdict_answered o vc v start_on end_on
  validate-of w d r e q p = cc

  module _ (edition view_edition : ℕ) where
    -- 14 after the others: a number of theirs stays
    pub edition-last : (number r : ℕ) → number ≡ ask_refusal o vc v start_on end_on → r ≡ or_else number (not (eqb view_edition edition)) 14 → r ≡ validate_refusal o vc edition v view_edition start_on end_on
    unfolding ask_refusal validate_refusal or_else first_of
    edition-last number r e q = go number e q
      where
        s : List Row
        s = ask_rows o vc v start_on end_on

        t : List Row
        t = edition_rows edition view_edition

        go : (number : ℕ) → number ≡ first_of s → r ≡ or_else number (not (eqb view_edition edition)) 14 → r ≡ first_of (s ++ t)
        go zero e q = q ∙ sym (first-later s t (clear s tt (sym e)))
        go (suc k) e q = q ∙ e ∙ sym (first_found s t (λ z. absurd (omega (arith, e, z))))

    -- the same as the code looks: a number of theirs stays,
    pub ask-found : (number : ℕ) → number ≡ ask_refusal o vc v start_on end_on → (number ≡ 0 → ⊥) → number ≡ validate_refusal o vc edition v view_edition start_on end_on
    unfolding ask_refusal validate_refusal
    ask-found number e h = e ∙ sym (first_found (ask_rows o vc v start_on end_on) (edition_rows edition view_edition) (λ z. h (e ∙ z)))

    -- and where they found none it is 14 or none
    pub edition-looked : (number : ℕ) (w : Result Unit Refusal) → number ≡ ask_refusal o vc v start_on end_on → number ≡ 0 → w ≡ when (not (eqb view_edition edition)) Edition
        → found w ≡ validate_refusal o vc edition v view_edition start_on end_on
    unfolding ask_refusal validate_refusal first_of
    edition-looked number w e z q =
        ap found q
        ∙ found-when (not (eqb view_edition edition)) Edition
        ∙ sym (first-later (ask_rows o vc v start_on end_on) (edition_rows edition view_edition) (clear (ask_rows o vc v start_on end_on) tt (sym e ∙ z)))

    -- where this entry accepts, the verdict may be given
    pub validate-accepted : (number : ℕ) (w : ViewData) → number ≡ validate_refusal o vc edition v view_edition start_on end_on → number ≡ 0 → w ≡ view_data v → Asked o vc w
    unfolding ask_refusal validate_refusal
    validate-accepted number w e z q =
        let ok = clear-left (ask_rows o vc v start_on end_on) (edition_rows edition view_edition) (clear (validate_rows o vc edition v view_edition start_on end_on) tt (sym e ∙ z)) in
        ask-accepted 0 w (sym (none-clear (ask_rows o vc v start_on end_on) ok)) refl q

pub ruleset ask_laws = (ask-accepted, validate-of)

pub ruleset validate_laws = (validate-accepted, validate-of)
