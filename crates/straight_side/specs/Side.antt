-- Document 02, K11, one outline: "listing candidates" by straight splits, "asking inside" of each in the other outline.
use Rattle.std.specs.Prelude.{ℕ, List, replicate, Float}
use Rattle.cut.specs.Cuts.{Given}
use Rattle.candidate.specs.Candidates as slices
use Rattle.candidate_lists.specs.Lists.{along_cuts}
use Rattle.prune.specs.Prune.{Cands, cands}
use Rattle.straight_cut.specs.Microdegrees.{wholes_of}
use Rattle.straight_cut.specs.Splits.{straight_splits}
use Rattle.straight_cut.specs.Inside.{insides_of}

-- what its slices are cut from: its cuts in their order, and straight splits along them
abbrev pub along_straight : Given → slices.Given
along_straight g = along_cuts g (straight_splits g)

-- how many candidates it has
abbrev pub side_count : Given → ℕ
side_count g = slices.cand_count (along_straight g)

-- they, each with the outline's edition, and with the answer whether the doubled midpoint of its two vertices is inside the other outline
unfoldable pub side_cands : Given → List Float → ℕ → ℕ → Cands
side_cands g other vc edition =
    let a = along_straight g in
    cands (slices.cand_numbers a) (slices.cand_shapes a) (replicate (side_count g) edition) (insides_of (wholes_of other vc) (slices.probe_numbers a) (side_count g))
