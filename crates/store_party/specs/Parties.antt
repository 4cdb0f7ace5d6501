-- Document 02, K10: "Another fleet shares the store." Party p has the places from cap * p up to cap * (p + 1) of every list, and a call of its own is a
-- call on these alone: "Handles count within a party."
use Rattle.std.specs.Prelude.{ℕ, ◌*◌}
use Rattle.std.proofs.Math.Seq.{paste}
use Rattle.basis.specs.Machine.{Turn, turn}
use Rattle.store.specs.Slice.{Slice}
use Rattle.store.specs.Plain.{Call, Answer}
use Rattle.store.specs.Blocks.{block}
use Rattle.store.specs.Lists.{Lists, lists, list_step}

module _ (cap : ℕ) where
  -- party p's part of the lists
  unfoldable pub part_of : ℕ → Lists → Lists
  part_of p w = lists (block cap w.held p) (block (4 * cap) w.at p) (block (6 * cap) w.shape p) (block cap w.edition p)

  -- the lists with s as party p's part, and all else as it was
  unfoldable pub rejoined : ℕ → Lists → Lists → Lists
  rejoined p w s =
      lists
      (paste w.held (cap * p) s.held cap)
      (paste w.at (4 * cap * p) s.at (4 * cap))
      (paste w.shape (6 * cap * p) s.shape (6 * cap))
      (paste w.edition (cap * p) s.edition cap)

  -- a call of party p
  unfoldable pub party_step : ℕ → Lists → Call Slice → Turn Lists (Answer Slice)
  party_step p w c = turn (list_step cap (part_of p w) c).answer (rejoined p w (list_step cap (part_of p w) c).left)
