-- What acceptance by `mask_candidates` tells.
use Rattle.std.specs.Prelude.{◌*◌, ◌≤◌, true, ◌≡◌, List, ◌++◌, length, Float}
use Rattle.std.proofs.Common.{ltb-false}
use Rattle.std.proofs.lemmas.Bool.{not-false}
use Rattle.basis.specs.Number.{all_within}
use Rattle.basis.specs.RefuseLaws.{Clear, clear, clear-left, clear-right, length-ok}
use Rattle.cut.specs.Cuts.{Given, cut_count}
use Rattle.cut_entries.specs.CutRows.{list_rows, value_rows, index_rows}
use Rattle.cut_entries.specs.CutRowsLaws.{CutsPass, cuts-pass, cuts-accepted}
use Rattle.candidate_faults.specs.declared.Lengths.{Lengths}
use Rattle.candidate_faults.specs.CandidateRows.{split_rows, cand_room_rows}
use Rattle.candidate_lists.specs.Lists.{Along, Accepted}
use Rattle.candidate_entries.specs.Candidates.{Lent, rooms_of, lengths, later_rows, candidates_rows, candidates_refusal, cand_number}

-- the rows without a fault, one by one
pub record SplitsPass (g : Given) (splits : List Float) (lent : Lengths) : Type 0 where
  pub cuts : CutsPass g
  pub nine : length splits ≡ 9 * cut_count g
  pub within : all_within splits ≡ true
  pub rooms : Clear (cand_room_rows (cut_count g) lent)

pub splits-pass : (g : Given) (splits : List Float) (lent : Lengths) → Clear (list_rows g) → Clear (later_rows g splits lent) → SplitsPass g splits lent
unfolding later_rows
splits-pass g splits lent listed ok =
    let rooms = cand_room_rows (cut_count g) lent in
    let indexed = index_rows g ++ rooms in
    let numbered = split_rows splits ++ indexed in
    let numbers = clear-right (value_rows g) numbered ok.1 in
    record {
      cuts = cuts-pass g listed (clear-left (value_rows g) numbered ok.1) (clear-left (index_rows g) rooms numbers.1);
      nine = length-ok 9 (length splits) (cut_count g) ok.0;
      within = not-false _ numbers.0;
      rooms = clear-right (index_rows g) rooms numbers.1;
    }

pub cand-pass : (g : Given) (splits : List Float) (lent : Lengths) → candidates_refusal g splits lent ≡ 0 → SplitsPass g splits lent
unfolding candidates_refusal
cand-pass g splits lent z =
    let later = later_rows g splits lent in
    let ok : Clear (candidates_rows g splits lent) = clear (candidates_rows g splits lent) (unfold list_rows value_rows index_rows later_rows in tt) z in
    splits-pass g splits lent (clear-left (list_rows g) later ok) (clear-right (list_rows g) later ok)

pub along : (g : Given) (splits : List Float) (lent : Lengths) → SplitsPass g splits lent → Along g splits
along g splits lent p = record { accepted = cuts-accepted g p.cuts; nine = p.nine }

pub cand-accepted : (g : Given) (splits : List Float) (l : Lent) → cand_number g splits l ≡ 0 → Accepted g splits (rooms_of l)
cand-accepted g splits l z =
    let p = cand-pass g splits (lengths l) z in
    record {
      along = along g splits (lengths l) p;
      roomy =
          record {
            at = ltb-false (length l.at) (2 * cut_count g) p.rooms.0;
            cand = ltb-false (length l.cand) (6 * cut_count g) p.rooms.1.0;
            probe = ltb-false (length l.probe) (6 * cut_count g) p.rooms.1.1.0;
          };
    }

-- and there is room for an edition a cut
pub editions-roomy : (g : Given) (splits : List Float) (l : Lent) → cand_number g splits l ≡ 0 → cut_count g ≤ length l.edition
editions-roomy g splits l z = ltb-false (length l.edition) (cut_count g) (cand-pass g splits (lengths l) z).rooms.1.1.1.0
