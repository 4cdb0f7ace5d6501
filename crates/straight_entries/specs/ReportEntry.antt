-- The entry `mask_straight_report`: its refusals, its answer, and what acceptance gives. "18 coordinate out of range, 19 too many loops (not 1), where number 5 stands, 18 first."
use Rattle.std.specs.Prelude.{ℕ, ◌≡◌, Bool, not, List, [], ◌∷◌, eqb, ltb, length, ℤ}
use Rattle.std.proofs.Common.{sym, ap, ◌∙◌, arith}
use borrow.Author.Tests.{not-false, eqb-true, ltb-false}
use Rattle.basis.specs.Refuse.{Row, row, first_of, answer, length_fault}
use Rattle.basis.specs.RefuseLaws.{clear, length-ok}
use Rattle.straight_report.specs.declared.Report.{Report}
use Rattle.straight_report.specs.Report.{outlines, report_of, last_of, sizes_fault, Loops}
use Rattle.straight_entries.specs.declared.answer.ReportAnswer.{ReportAnswer}
use Rattle.straight_entries.specs.Answers.{report_refused, report_found}
use Rattle.straight_entries.specs.Range.{all_in_reach}
use Rattle.straight_entries.specs.RangeLaws.{all-close}

-- 1: the ends are not as many as is said, or the numbers not twice as many as the last end says; 2: an outline is too short or too long
abbrev pub report_rows : List ℤ → List ℕ → ℕ → List Row
report_rows l ends loops =
    row (not (eqb (length ends) loops)) 1
    ∷ row (length_fault 2 (length l) (last_of 0 ends)) 1
    ∷ row (sizes_fault 0 ends) 2
    ∷ row (not (all_in_reach l)) 18
    ∷ row (ltb 4096 loops) 19
    ∷ []

unfoldable pub report_refusal : List ℤ → List ℕ → ℕ → ℕ
report_refusal l ends loops = first_of (report_rows l ends loops)

abbrev pub report_answer : List ℤ → List ℕ → ℕ → ReportAnswer
report_answer l ends loops = answer report_refused (report_refusal l ends loops) (report_found loops (report_of (outlines l 0 ends)))

module _ (l : List ℤ) (ends : List ℕ) (loops : ℕ) where
  pub report-accepted : (number : ℕ) → number ≡ report_refusal l ends loops → number ≡ 0 → Loops l ends
  unfolding report_refusal
  report-accepted number e z =
      let ok = clear (report_rows l ends loops) tt (sym e ∙ z) in
      let said = eqb-true (length ends) loops (not-false (eqb (length ends) loops) (search ok)) in
      record {
        sized = search ok;
        whole = length-ok 2 (length l) (last_of 0 ends) (search ok);
        few = omega (arith, said, ltb-false 4096 loops (search ok));
        close = all-close l (not-false (all_in_reach l) (search ok));
      }

  pub report-is : (t : Report) (r : ReportAnswer) → t ≡ report_of (outlines l 0 ends) → r ≡ report_found loops t → r ≡ report_found loops (report_of (outlines l 0 ends))
  report-is t r e q = q ∙ ap (report_found loops) e

-- number 1 with the end that was worked out
pub length-of : (b : Bool) (n m : ℕ) (ends : List ℕ) → b ≡ length_fault 2 n m → m ≡ last_of 0 ends → b ≡ length_fault 2 n (last_of 0 ends)
length-of b n m ends e f = e ∙ ap (length_fault 2 n) f

pub ruleset report_laws = (report-accepted, report-is)
