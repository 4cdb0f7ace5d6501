use Rattle.std.proofs.Common.{rules}
use Rattle.store_write.proofs.Calling.{blank-start, released-far, released-none}
use Rattle.store_write.proofs.keep.release_slice.Goals.{then-held-h-via-then-held-h, then-held-h-via-else-held-h+then-not-live-h}
use Rattle.store_write.proofs.keep.release_slice.Goals as goal

pub find-requires : goal.find-requires
find-requires c = blank-start _ (search rules)

pub returns-then-held-h : goal.returns-then-held-h
returns-then-held-h c =
    elim c.then-held-h.branch [ then-held-h-via-then-held-h w ↦ search (rules, released-far) | then-held-h-via-else-held-h+then-not-live-h w ↦ search (rules, released-none) ]
