-- What a reopened slice is, so that a reader can trust the definition of `ReopenEntry`. No code is proved by it.
use Rattle.std.specs.Prelude.{ℕ, zero, suc, false, ◌≡◌, List, eqb, Float}
use Rattle.std.proofs.Math.Path.{refl}
use Rattle.std.proofs.Common.{sym, ap, ◌∙◌, arith, eq-eqb, ne_eqb}
use Rattle.basis.specs.Refuse.{answer, or_else}
use Rattle.view.specs.View.{Fit}
use Rattle.verdict.specs.declared.validate.ViewDataValidation.{ViewDataValidation}
use Rattle.verdict.specs.declared.validate.ViewDataValidation.TheVariants as verdict
use Rattle.verdict.specs.Validate.{verdict_of}
use Rattle.verdict.specs.ValidateTheorems.{valid-fits}
use Rattle.view_entries.specs.declared.input.View.{View}
use Rattle.view_entries.specs.Inputs.{view_data}
use Rattle.verdict_answer.specs.declared.answer.VerdictAnswer.{VerdictAnswer}
use Rattle.verdict_answer.specs.declared.answer.ReopenAnswer.{ReopenAnswer}
use Rattle.verdict_answer.specs.VerdictAnswers.{verdict_refused, verdict_given}
use Rattle.verdict_entries.specs.ValidateEntry.{ask_refusal, validate_refusal, verdict_answered, validate_answer, ask-accepted, edition-last}
use Rattle.verdict_entries.specs.ReopenEntry.{new_edition, reopen_refused, reopen_given, reopen_answer}

-- a reopening's answer without its edition
abbrev pub verdict_part : ReopenAnswer → VerdictAnswer
verdict_part r =
    record {
      refusal = r.refusal;
      verdict = r.verdict;
      offset = r.offset;
      source_length = r.source_length;
      point = r.point;
      vertex = r.vertex;
      updated_bulge = r.updated_bulge;
      expected = r.expected;
    }

-- 7 is valid, and nothing else is
only-valid : (d : ViewDataValidation) → (verdict_given d).verdict ≡ 7 → d ≡ verdict.IsValid
unfolding verdict_given
only-valid verdict.SourceHasNoSegments e = absurd (omega arith)
only-valid (verdict.OffsetOutOfRange offset length) e = absurd (omega arith)
only-valid (verdict.UpdatedStartNotOnSegment p) e = absurd (omega arith)
only-valid (verdict.EndPointNotOnSegment p) e = absurd (omega arith)
only-valid (verdict.EndPointOnFinalOffsetVertex p v) e = absurd (omega arith)
only-valid (verdict.UpdatedBulgeDoesNotMatch updated expected) e = absurd (omega arith)
only-valid verdict.IsValid e = refl

module _ (o : List Float) (vc : ℕ) (v : View) (start_on end_on : ℕ) where
  -- with equal editions number 14 is not there
  equal-editions : (edition : ℕ) → validate_refusal o vc edition v edition start_on end_on ≡ ask_refusal o vc v start_on end_on
  equal-editions edition = sym (edition-last o vc v start_on end_on edition edition (ask_refusal o vc v start_on end_on) (ask_refusal o vc v start_on end_on) refl (rw (eq-eqb edition edition refl) (go (ask_refusal o vc v start_on end_on))))
    where
      go : (n : ℕ) → n ≡ or_else n false 14
      go zero = unfold or_else in refl
      go (suc n) = unfold or_else in refl

  module _ (edition view_edition : ℕ) (r : ReopenAnswer) (is : r ≡ reopen_answer o vc edition v view_edition start_on end_on) where
    -- "it gives the same verdict": all but the edition is what `mask_validate_for_source` answers of a view of the outline's own edition
    pub same-verdict : verdict_part r ≡ validate_answer o vc edition v edition start_on end_on
    same-verdict =
        ap verdict_part is
        ∙ go (ask_refusal o vc v start_on end_on)
        ∙ ap (λ (n : ℕ). answer verdict_refused n (verdict_answered o vc v start_on end_on)) (sym (equal-editions edition))
      where
        go : (n : ℕ) → verdict_part (answer reopen_refused n (reopen_given (verdict_answered o vc v start_on end_on) edition view_edition)) ≡ answer verdict_refused n (verdict_answered o vc v start_on end_on)
        go zero = unfold answer in refl
        go (suc n) = unfold answer in refl

    -- "only "valid" gives the slice the new edition": it does
    pub valid-edition : r.verdict ≡ 7 → r.edition ≡ edition
    valid-edition e = go (ask_refusal o vc v start_on end_on) is e
      where
        go : (n : ℕ) → r ≡ answer reopen_refused n (reopen_given (verdict_answered o vc v start_on end_on) edition view_edition) → r.verdict ≡ 7 → r.edition ≡ edition
        go zero q e = unfold answer new_edition in (rw q (rw (eq-eqb _ _ (rw q at e))))
        go (suc n) q e = absurd (unfold answer verdict_refused in (omega (arith, rw q at e)))

    -- and nothing else does
    pub other-edition : r.refusal ≡ 0 → (r.verdict ≡ 7 → ⊥) → r.edition ≡ view_edition
    other-edition z e = go (ask_refusal o vc v start_on end_on) is z e
      where
        go : (n : ℕ) → r ≡ answer reopen_refused n (reopen_given (verdict_answered o vc v start_on end_on) edition view_edition) → r.refusal ≡ 0 → (r.verdict ≡ 7 → ⊥) → r.edition ≡ view_edition
        go zero q z e = unfold answer new_edition in (rw q (rw (ne_eqb _ _ (rw q at e))))
        go (suc n) q z e = absurd (unfold answer verdict_refused in (omega (arith, rw q at z)))

    -- from then on the slice passes `mask_validate_for_source`, which answers as the reopening did: it is not refused with 14
    pub validates : r.verdict ≡ 7 → validate_answer o vc edition v r.edition start_on end_on ≡ verdict_part r
    validates e = ap (λ (n : ℕ). validate_answer o vc edition v n start_on end_on) (valid-edition e) ∙ sym same-verdict

    -- its start is below the new outline's vertex count and its offset at most that
    pub valid-fit : r.verdict ≡ 7 → Fit o vc (view_data v)
    valid-fit e = go (ask_refusal o vc v start_on end_on) refl is e
      where
        go : (n : ℕ) → n ≡ ask_refusal o vc v start_on end_on → r ≡ answer reopen_refused n (reopen_given (verdict_answered o vc v start_on end_on) edition view_edition) → r.verdict ≡ 7 → Fit o vc (view_data v)
        go zero p q e =
            valid-fits o vc (view_data v) (eqb start_on 1) (eqb end_on 1) (only-valid (verdict_of o vc (view_data v) (eqb start_on 1) (eqb end_on 1)) (unfold answer in (rw q at e)))
            (ask-accepted o vc v start_on end_on 0 (view_data v) p refl refl)
        go (suc n) p q e = absurd (unfold answer verdict_refused in (omega (arith, rw q at e)))
