-- What the entries over the candidates are proved by: the parts of their table, the two ways out, the room for the editions.
use Prim.Native.Nat.{ℕ}
use mathlib.Core.Path.{◌≡◌, refl, sym, ap, ◌∙◌}
use mathlib.Core.List.{List}
use native.Mathlib.Omega.{arith}
use lib.ListN.{replicate}
use lib.Ieee.{Float}
use Rattle.basis.specs.Room.{room_of, Stretch}
use Rattle.basis.specs.Refuse.{first_from}
use Rattle.basis.specs.RefuseLaws.{first-from, answer-no, answer-yes}
use Rattle.basis.specs.declared.answer.CountAnswer.{CountAnswer}
use Rattle.basis.specs.Answers.{count_refused, counted}
use Rattle.cut.specs.Cuts.{Given, cut_count}
use Rattle.candidate.specs.Ready.{Rooms, Written}
use Rattle.candidate_write.specs.CandidateTheorems.{count_most}
use Rattle.cut_entries.specs.CutRows.{list_rows, value_rows, index_rows}
use Rattle.cut_entries.specs.CutRowsLaws.{few-passed}
use Rattle.candidate_faults.specs.declared.Lengths.{Lengths}
use Rattle.candidate_lists.specs.Lists.{along_cuts}
use Rattle.candidate_entries.specs.Candidates.{Lent, lent, rooms_of, lengths, later_rows, candidates_rows, candidates_refusal, cand_number, Sliced, Roomed, Dated}
use Rattle.candidate_entries.specs.CandidatesLaws.{cand-pass, cand-accepted, editions-roomy}

-- ---- the whole table
pub looked : (g : Given) (splits : List Float) (lent : Lengths) (p : ℕ) → p ≡ first_from 0 (candidates_rows g splits lent) → p ≡ candidates_refusal g splits lent
unfolding candidates_refusal
looked g splits lent p e = first-from (candidates_rows g splits lent) p (unfold list_rows value_rows index_rows later_rows in tt) e

-- ---- the two ways out
module _ (g : Given) (splits : List Float) (edition : ℕ) (l : Lent) (number : ℕ) (is : number ≡ cand_number g splits l) where
  pub cand-ready : number ≡ 0 → Roomed g splits l
  cand-ready z =
      let none = sym is ∙ z in
      record { ok = cand-accepted g splits l none; few = few-passed g (cand-pass g splits (lengths l) none).cuts; editions = editions-roomy g splits l none }

  pub cand-refused : (r : CountAnswer) → (number ≡ 0 → ⊥) → r ≡ count_refused number → Sliced g splits edition l r l
  cand-refused r h q =
      record {
        answers = answer-no count_refused number _ _ r is h q;
        at = answer-no (λ _. l.at) number _ _ l.at is h refl;
        cand = answer-no (λ _. l.cand) number _ _ l.cand is h refl;
        probe = answer-no (λ _. l.probe) number _ _ l.probe is h refl;
        editions = answer-no (λ _. l.edition) number _ _ l.edition is h refl;
      }

  pub cand-given : (m : ℕ) (r : CountAnswer) (left : Lent) → number ≡ 0 → Dated g splits edition l m left → r ≡ counted m → Sliced g splits edition l r left
  cand-given m r left z d q =
      let w = d.written in
      record {
        answers = answer-yes count_refused number _ _ r is z (q ∙ ap (λ (n : ℕ). counted n) w.counted);
        at = answer-yes (λ _. l.at) number _ _ left.at is z w.at;
        cand = answer-yes (λ _. l.cand) number _ _ left.cand is z w.cand;
        probe = answer-yes (λ _. l.probe) number _ _ left.probe is z w.probe;
        editions =
            answer-yes (λ _. l.edition) number _ _ left.edition is z
            (d.editions ∙ ap (λ (n : ℕ). room_of 0 1 (cut_count g) (replicate n edition) l.edition) w.counted);
      }

pub ruleset ways = (cand-ready, cand-refused, cand-given)

-- there are no more candidates than cuts, and an edition for each has its room
pub editions-ready : (g : Given) (splits : List Float) (l : Lent) (m : ℕ) (left : Rooms) (count : ℕ) → count ≡ cut_count g → Roomed g splits l → Written (along_cuts g splits) (rooms_of l) m left
    → Stretch l.edition m count
editions-ready g splits l m left count all k w = rw all (record { ordered = omega (arith, w.counted, count_most (along_cuts g splits)); inside = k.editions })

-- the lists in their places, as who lent them has them back
pub cand-back : (g : Given) (splits : List Float) (edition : ℕ) (l : Lent) (r : CountAnswer) (left : Lent) (a : List ℕ) (b p : List Float) → Sliced g splits edition l r left
    → a ≡ left.at → b ≡ left.cand → p ≡ left.probe → Sliced g splits edition l r (lent a b p left.edition)
cand-back g splits edition l r left a b p s x y z = record { answers = s.answers; at = x ∙ s.at; cand = y ∙ s.cand; probe = z ∙ s.probe; editions = s.editions }
