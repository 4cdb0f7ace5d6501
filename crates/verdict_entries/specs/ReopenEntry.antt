-- The entry `mask_reopen`. Document 02, K3: "it gives the same verdict against the new outline without comparing editions; only "valid" gives the slice the new edition, and
-- every other field stays." The view goes in by value and is not handed back, so the edition is all of the slice that can change.
use Rattle.std.specs.Prelude.{ℕ, cond, ◌≡◌, List, eqb, Float}
use Rattle.std.proofs.Common.{ap, ◌∙◌}
use Rattle.basis.specs.Refuse.{answer}
use Rattle.view_entries.specs.declared.input.View.{View}
use Rattle.verdict_answer.specs.declared.answer.VerdictAnswer.{VerdictAnswer}
use Rattle.verdict_answer.specs.declared.answer.ReopenAnswer.{ReopenAnswer}
use Rattle.verdict_answer.specs.VerdictAnswers.{verdict_refused, reopen_record}
use Rattle.verdict_entries.specs.ValidateEntry.{ask_refusal, verdict_answered}

-- "only "valid" gives the slice the new edition": valid is 7
unfoldable pub new_edition : ℕ → ℕ → ℕ → ℕ
new_edition verdict edition view_edition = cond (eqb verdict 7) edition view_edition

-- "A refusal returns its number", all else 0, the edition too
abbrev pub reopen_refused : ℕ → ReopenAnswer
reopen_refused n = reopen_record (verdict_refused n) 0

abbrev pub reopen_given : VerdictAnswer → ℕ → ℕ → ReopenAnswer
reopen_given a edition view_edition = reopen_record a (new_edition a.verdict edition view_edition)

abbrev pub reopen_answer : List Float → ℕ → ℕ → View → ℕ → ℕ → ℕ → ReopenAnswer
reopen_answer o vc edition v view_edition start_on end_on =
    answer reopen_refused (ask_refusal o vc v start_on end_on) (reopen_given (verdict_answered o vc v start_on end_on) edition view_edition)

pub refused-of : (n : ℕ) (a : VerdictAnswer) (r : ReopenAnswer) → a ≡ verdict_refused n → r ≡ reopen_record a 0 → r ≡ reopen_refused n
refused-of n a r e q = q ∙ ap (λ (b : VerdictAnswer). reopen_record b 0) e

pub reopen-of : (a b : VerdictAnswer) (edition view_edition kept : ℕ) (r : ReopenAnswer) → a ≡ b → kept ≡ new_edition a.verdict edition view_edition → r ≡ reopen_record a kept → r ≡ reopen_given b edition view_edition
reopen-of a b edition view_edition kept r e q p = p ∙ ap (reopen_record a) q ∙ ap (λ (c : VerdictAnswer). reopen_given c edition view_edition) e

pub ruleset reopen_laws = (refused-of, reopen-of)
