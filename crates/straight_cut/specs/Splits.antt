-- Document 02, K11: "Straight splits need no host: the parts keep their positions and have bulge +0." The splits along the cuts of one outline, as `mask_candidates` takes them.
use Rattle.std.specs.Prelude.{ℕ, ◌+◌, ◌-◌, ◌*◌, ◌<◌, cond, ◌&&◌, List, ◌++◌, length, ◌==◌, nat_lt, Float}
use Rattle.basis.specs.Number.{+0}
use Rattle.basis.specs.Sizes.{most_candidates}
use Rattle.basis.specs.Items.{first_items}
use Rattle.outline.specs.declared.point.Vertex.{Vertex}
use Rattle.outline.specs.Points.{at_point, with_bulge, vertex_numbers}
use Rattle.outline.specs.Outline.{vertex_at, point_at}
use Rattle.view.specs.declared.create.Walk.{Walk}
use Rattle.cut.specs.declared.arrival.Case.{Case}
use Rattle.cut.specs.Cuts.{Given, cut_count}
use Rattle.cut.specs.Order.{cut_numbers, cut_points}
use Rattle.candidate.specs.Candidates as slices
use Rattle.candidate.specs.Candidates.{segment_at}
use Rattle.candidate.specs.declared.next.Next.{Next}
use Rattle.straight_cut.specs.declared.at_cut.Ordered.{Ordered}

-- "the split of the running vertex": at the first cut of a segment that is the segment's own first vertex, and at a later one the cut before it
unfoldable pub running_at : List Float → List ℕ → List Float → ℕ → Vertex
running_at o cut_at cut p =
    cond (nat_lt 0 p && segment_at cut_at (p - 1) == segment_at cut_at p) (at_point (point_at cut (2 * (p - 1))) +0) (with_bulge (vertex_at o (segment_at cut_at p)) +0)

-- the cut itself
abbrev pub cut_vertex : List Float → ℕ → Vertex
cut_vertex cut p = at_point (point_at cut (2 * p)) +0

-- start part, split vertex, and the split vertex of the whole segment
unfoldable pub split_at : List Float → List ℕ → List Float → ℕ → List Float
split_at o cut_at cut p = vertex_numbers (running_at o cut_at cut p) ++ (vertex_numbers (cut_vertex cut p) ++ vertex_numbers (cut_vertex cut p))

unfoldable pub splits_of : List Float → List ℕ → List Float → ℕ → List Float
splits_of o cut_at cut count = first_items (split_at o cut_at cut) count

-- of a call: along its cuts in their order
abbrev pub straight_splits : Given → List Float
straight_splits g = splits_of g.outline (cut_numbers g) (cut_points g) (cut_count g)

-- over cuts that are in order, in lists: the splits along them are straight
abbrev pub straight_given : List Float → List ℕ → List Float → Case → slices.Given
straight_given o cut_at cut s = slices.given o cut_at cut (splits_of o cut_at cut (s.hits + 2 * s.laps)) s

-- the same, of the references that a function is handed
abbrev pub ordered : Ordered → slices.Given
ordered c = straight_given c.outline.now c.cut_at.now c.cut.now c.case

-- a walk by these splits: it starts at the cut at place p, and the start part where it ends has bulge +0
abbrev pub straight_walk : List Float → ℕ → ℕ → Next → Walk
straight_walk cut segment p next =
    record {
      start_index = segment;
      end_intersect = point_at cut (2 * next.cut);
      intersect_index = next.index;
      updated_start = cut_vertex cut p;
      traverse_count = next.traverse;
      split_bulge = +0;
    }

-- ---- what a caller has shown

-- a cut of the list
pub record CutThere (cut : List Float) (p : ℕ) : Type 0 where
  pub few : p < most_candidates
  pub point : 2 * p + 1 < length cut

-- the cuts where a walk starts and ends
pub record WalkThere (cut : List Float) (p : ℕ) (next : Next) : Type 0 where
  pub from : CutThere cut p
  pub to : CutThere cut next.cut
