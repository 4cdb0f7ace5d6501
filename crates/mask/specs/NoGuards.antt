-- Request K12: "In all our records no walk or chain has passed its guard. Show that none can". So number 10 is not among the refusals, and nothing looks for it.
-- What is said of walks and chains is said from the contract of the entry: whatever answer and lists it permits.
use Rattle.std.specs.Prelude.{ℕ, ◌≤◌, ◌<◌, false, ◌≡◌, length, Float}
use Rattle.std.proofs.Common.{ap, ◌∙◌, arith, le_of_eq, length-append}
use mathlib.Core.List.{List, [], ◌∷◌, flatten}
use Rattle.basis.specs.All.{All}
use Rattle.basis.specs.declared.number.Tolerance.{Tolerance}
use Rattle.basis.specs.declared.answer.CountAnswer.{CountAnswer}
use Rattle.outline.specs.declared.point.Vertex.{Vertex}
use Rattle.outline.specs.Points.{pos_of, points_agree}
use Rattle.view.specs.Create.{view_of}
use Rattle.cut.specs.Cuts.{Given, cut_count}
use Rattle.candidate.specs.Candidates.{candidate, segment_at, has_cut, traverse_of, piece_of}
use Rattle.candidate.specs.Ready.{Sound}
use Rattle.candidate_write.specs.CandidateTheorems.{Reaches, walk-reaches, piece-view}
use Rattle.candidate_lists.specs.Lists.{along_cuts}
use Rattle.candidate_lists.specs.ListsLaws.{along-sound}
use Rattle.candidate_entries.specs.Candidates.{Lent, lengths, Sliced}
use Rattle.candidate_entries.specs.CandidatesLaws.{along}
use Rattle.slice.specs.Editions.{Editions}
use Rattle.stitch_run.specs.Stitch as stitch
use Rattle.stitch.specs.Lent.{Lists}
use Rattle.stitch_entries.specs.declared.answer.StitchAnswer.{StitchAnswer}
use Rattle.stitch_entries.specs.Demand.{chains_in}
use Rattle.settings.specs.Settings.{Held}
use Rattle.named_entries.specs.NamedStitch.{NamedStitch}
use Rattle.named_entries.specs.NamedTheorems.{named-demand}
use Rattle.mask.specs.Accept.{made-pass}

-- ---- a walk: "the segment where a walk began has a cut"

module _ (g : Given) (splits : List Float) (edition : ℕ) (l : Lent) (r : CountAnswer) (left : Lent) (holds : Sliced g splits edition l r left) (accepted : r.refusal ≡ 0) where
  sound : Sound (along_cuts g splits)
  sound = along-sound g splits (along g splits (lengths l) (made-pass g splits edition l r left holds accepted))

  -- From every cut of an accepted call a walk goes 1 to vc segments on, to a segment that has a cut: at most once round.
  pub walk-once-round : (p : ℕ) → p < cut_count g
      → Reaches (has_cut (along_cuts g splits).cut_at (cut_count g)) g.vc (segment_at (along_cuts g splits).cut_at p) (traverse_of g.vc (along_cuts g splits).cut_at (cut_count g) (segment_at (along_cuts g splits).cut_at p))
  walk-once-round p h = walk-reaches (along_cuts g splits) sound p h

-- ---- "in slicing, a piece whose ends were tested apart always gets its view"
pub piece-has-its-view : (s : ℕ) (a b : Vertex) (t : Tolerance) → points_agree t (pos_of a) (pos_of b) ≡ false
    → piece_of s a b t ≡ candidate (view_of s 0 a a.bulge (pos_of b)) a b
piece-has-its-view = piece-view

-- ---- a chain: "every round but a chain's last visits a new slice"

each_within : (n : ℕ) (l : List (List ℕ)) → length (flatten l) ≤ n → All (λ c. length c ≤ n) l
unfolding flatten
each_within n [] h = tt
each_within n (c ∷ l) h = let e = length-append c (flatten l) in (omega (arith, e), each_within n l (omega (arith, e)))

-- The chains that an accepted stitch of n slices lists hold each slice once (`named-demand`), and a round lists one slice: so no chain takes more than n rounds.
module _ (h : Held) (k : ℕ) (g : stitch.Given) (e : Editions) (x : Lists) (r : StitchAnswer) (left : Lists) (holds : NamedStitch h k g e x r left) (accepted : r.refusal ≡ 0) where
  pub rounds-at-most : All (λ c. length c ≤ g.slices) (chains_in r.chains left)
  rounds-at-most =
      let d = named-demand h k g e x r left holds accepted in
      each_within g.slices (chains_in r.chains left) (le_of_eq (ap length d.whole ∙ d.permutation.size))
