-- What a caller has shown, and what the functions leave: one record for each contract.
use Rattle.std.specs.Prelude.{ℕ, ◌+◌, ◌*◌, ◌≤◌, ◌<◌, ◌≡◌, true, false, ◌++◌, length}
use Rattle.basis.specs.Number.{+0}
use Rattle.basis.specs.Sizes.{most_candidates, most_laps}
use Rattle.basis.specs.Room.{room_of}
use Rattle.slice.specs.Slice.{code_width, shape_width}
use Rattle.slice.specs.Ready.{Rooms, Roomy}
use Rattle.prune_put.specs.Ready.{Wrote, Cleared}
use Rattle.prune.specs.declared.call.Call.{Call}
use Rattle.prune.specs.declared.counts.Ends.{Ends}
use Rattle.prune.specs.declared.counts.Pruned.{Pruned}
use Rattle.prune.specs.Prune.{Cands, Overlaps, Given, kept_to, laps_to, parts_for, slice_codes, slice_shapes, slice_editions, need_of, pruned_at, pruned_of}
use Rattle.prune.specs.Ready.{Few, CandsFit, OverlapsFit}

-- all lists fit their counts, with a mode that is known and room for the need
pub record Ready (g : Given) (l : Rooms) : Type 0 where
  pub known : g.call.mode < 4
  pub few : Few g.call
  pub first : CandsFit g.first g.call.count1
  pub second : CandsFit g.second g.call.count2
  pub laps : OverlapsFit g.laps g.call.laps
  pub roomy : Roomy (need_of g.call) l

-- the answer, and the three lists by the room rule, with room for a need
pub record WrittenTo (g : Given) (need : ℕ) (l : Rooms) (r : Pruned) (l' : Rooms) : Type 0 where
  pub answer : r ≡ pruned_of g
  pub at : l'.at ≡ room_of 0 code_width need (slice_codes g) l.at
  pub shape : l'.shape ≡ room_of +0 shape_width need (slice_shapes g) l.shape
  pub edition : l'.edition ≡ room_of 0 1 need (slice_editions g) l.edition

-- the same with the need of the call
abbrev pub Written : Given → Rooms → Pruned → Rooms → Type 0
Written g l r l' = WrittenTo g (need_of g.call) l r l'

-- ---- one part behind the other

-- one outline's candidates, from slice number m on; before it there are at most those of one outline
pub record KeepFit (c : Cands) (n : ℕ) (l : Rooms) (m : ℕ) : Type 0 where
  pub cands : CandsFit c n
  pub low : m ≤ most_candidates
  pub roomy : Roomy (m + n) l

-- both outlines' candidates, from the front
pub record BothFit (call : Call) (c d : Cands) (l : Rooms) : Type 0 where
  pub first : CandsFit c call.count1
  pub second : CandsFit d call.count2
  pub roomy : Roomy (call.count1 + call.count2) l

-- what stays of them: the first outline's end and the second's
pub record BothWritten (call : Call) (c d : Cands) (l : Rooms) (r : Ends) (l' : Rooms) : Type 0 where
  pub first : r.first ≡ length (kept_to c (parts_for call).first call.count1)
  pub wrote : Wrote (kept_to c (parts_for call).first call.count1 ++ kept_to d (parts_for call).second call.count2) (call.count1 + call.count2) l 0 r.second l'

-- the overlaps once, from slice number m on
pub record LapsFit (o : Overlaps) (n : ℕ) (l : Rooms) (m : ℕ) : Type 0 where
  pub laps : OverlapsFit o n
  pub low : m ≤ 2 * most_candidates + most_laps
  pub roomy : Roomy (m + n) l

-- and twice
pub record TwiceFit (o : Overlaps) (n : ℕ) (l : Rooms) (m : ℕ) : Type 0 where
  pub laps : OverlapsFit o n
  pub low : m ≤ 2 * most_candidates
  pub roomy : Roomy (m + 2 * n) l

pub record TwiceWritten (o : Overlaps) (n : ℕ) (l : Rooms) (m : ℕ) (r : Ends) (l' : Rooms) : Type 0 where
  pub first : r.first ≡ m + length (laps_to o true n)
  pub wrote : Wrote (laps_to o true n ++ laps_to o false n) (2 * n) l m r.second l'

-- ---- the rest

-- the kept of both outlines end there, and there is room for the overlaps twice within the need
pub record FinishFit (call : Call) (kept : Ends) (o : Overlaps) (l : Rooms) : Type 0 where
  pub few : Few call
  pub laps : OverlapsFit o call.laps
  pub within : kept.second ≤ call.count1 + call.count2
  pub roomy : Roomy (need_of call) l

-- the overlaps twice, then zero up to the need, and the answer
pub record Finished (call : Call) (kept : Ends) (o : Overlaps) (l : Rooms) (r : Pruned) (l' : Rooms) : Type 0 where
  pub roomy : Roomy (need_of call) l
  pub twice : Ends
  pub between : Rooms
  pub wrote : TwiceWritten o call.laps l kept.second twice between
  pub rest : Cleared between twice.second (need_of call) l'
  pub answer : r ≡ pruned_at kept twice
