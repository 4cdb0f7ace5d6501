-- What the functions that list a chain's end require and leave.
use Rattle.std.specs.Prelude.{ℕ, ◌+◌, ◌-◌, ◌*◌, ◌≤◌, ◌<◌, cond, ◌≡◌, List, eqb, length, set}
use Rattle.basis.specs.Sizes.{most_vertices, most_slices}
use Rattle.stitch_run.specs.Run.{closed}
use Rattle.stitch_run.specs.Stitch.{how_of}
use Rattle.stitch_tally.specs.declared.tally.ChainEnd.{ChainEnd}
use Rattle.stitch_tally.specs.declared.tally.Tally.{Tally}

-- a chain's end is listed
pub record EndFit (chain_ends chain_how : List ℕ) (k : ℕ) : Type 0 where
  pub first : k < length chain_ends
  pub second : k < length chain_how

pub record EndListed (k : ℕ) (r : ChainEnd) (chain_ends chain_how chain_ends' chain_how' : List ℕ) : Type 0 where
  pub first : chain_ends' ≡ set chain_ends k r.rounds
  pub second : chain_how' ≡ set chain_how k r.how

-- a closed chain leaves a loop: its vertices without the last
abbrev pub loop_end : Tally → ChainEnd → ℕ
loop_end w r = w.done + (r.verts - 1)

unfoldable pub tally_after : Tally → ChainEnd → Tally
tally_after w r =
    cond (eqb r.how (how_of closed))
    (record { done = loop_end w r; loops = w.loops + 1; chains = w.chains + 1; rounds = r.rounds })
    (record { done = w.done; loops = w.loops; chains = w.chains + 1; rounds = r.rounds })

unfoldable pub ends_after : Tally → ChainEnd → List ℕ → List ℕ
ends_after w r ends = cond (eqb r.how (how_of closed)) (set ends w.loops (loop_end w r)) ends

-- the need of the most slices, each of the greatest offset
abbrev pub most_need : ℕ
most_need = 1 + most_slices * (most_vertices + 1)

pub record LoopFit (ends : List ℕ) (w : Tally) (r : ChainEnd) : Type 0 where
  pub inside : w.loops < length ends
  pub some : 0 < r.verts
  pub few : w.done + r.verts ≤ most_need
  pub chains : w.chains < most_slices

pub record LoopListed (w : Tally) (r : ChainEnd) (ends : List ℕ) (w' : Tally) (ends' : List ℕ) : Type 0 where
  pub tally : w' ≡ tally_after w r
  pub listed : ends' ≡ ends_after w r ends
