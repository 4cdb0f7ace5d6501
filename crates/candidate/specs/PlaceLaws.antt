-- Laws by which the code of one place is proved: a piece, a walk, and which of them it is.
use Rattle.std.specs.Prelude.{ℕ, ◌+◌, ◌*◌, ◌<◌, Bool, true, false, ◌≡◌, List, ltb, length, Float, Option, Some, None}
use Rattle.std.proofs.Common.{sym, ◌∙◌, arith}
use Rattle.std.proofs.Math.Path.{ap}
use borrow.Author.Tests.{ltb-true}
use Rattle.basis.specs.Choice.{and_left}
use Rattle.basis.specs.declared.number.Tolerance.{Tolerance}
use Rattle.outline.specs.declared.point.Point.{Point}
use Rattle.outline.specs.declared.point.Vertex.{Vertex}
use Rattle.outline.specs.Points.{pos_of}
use Rattle.outline.specs.Outline.{Triple, outline_at, vertex_at}
use Rattle.view.specs.declared.data.ViewData.{ViewData}
use Rattle.view.specs.declared.create.Walk.{Walk}
use Rattle.view.specs.Create.{create_view, single_view}
use Rattle.cut.specs.declared.arrival.Case.{Case}
use Rattle.candidate.specs.declared.next.Next.{Next}
use Rattle.candidate.specs.declared.at_cut.Candidate.{Candidate}
use Rattle.candidate.specs.Candidates.{Given, given, candidate, segment_at, same_next, slice_of, piece_of, walk_of, walked, walk_at}
use Rattle.candidate.specs.Steps.{Place, LastPlace, LastCut, NextCut, walk_with, walk_by, WalkParts, WalkReady}
use Rattle.candidate.specs.PieceLaws.{piece-once}

-- ---- a piece
module _ (s : ℕ) (a b : Vertex) (t : Tolerance) (end : Point) (r : Option ViewData) (at : end ≡ pos_of b) (made : r ≡ single_view s a end t) where
  pub piece-none : r ≡ None → None ≡ piece_of s a b t
  unfolding slice_of
  piece-none e = rw (piece-once, ← at, ← made, e)

  pub piece-some : (v : ViewData) → r ≡ Some v → candidate v a b ≡ piece_of s a b t
  unfolding slice_of
  piece-some v e = rw (piece-once, ← at, ← made, e)

pub ruleset pieces = (piece-none, piece-some)

-- ---- a walk
module _ (o : List Float) (cut_at : List ℕ) (cut splits : List Float) (s : Case) (p : ℕ) (here : LastPlace (given o cut_at cut splits s) p) where
  abbrev g : Given
  g = given o cut_at cut splits s

  pub last-cut : LastCut s.vc cut_at (s.hits + 2 * s.laps) p
  last-cut =
      let sound = here.place.sound in
      record {
        most = sound.whole.most;
        fit = record { inside = sound.at; here = here.place.here; few = sound.few };
        inside = sound.inside;
        ascend = sound.ascend;
        alone = here.alone;
      }

  -- what the walk reads is there, `create` takes it, and it is the definition's
  module _ (n : Next) (f : NextCut s.vc cut_at (s.hits + 2 * s.laps) p n) where
    pub walk-parts : WalkParts splits p n
    walk-parts =
        let sound = here.place.sound in
        let h = here.place.here in
        let few = sound.few in
        let nine = sound.nine in
        let below = f.below in
        record { few = omega arith; here = omega arith; part = omega arith; whole = omega arith }

    module _ (w : Walk) (is : w ≡ walk_by cut splits (segment_at cut_at p) p n) where
      pub walk-ready : WalkReady o s.vc w
      walk-ready =
          let sound = here.place.sound in
          rw is (record { fit = record { whole = sound.whole; inside = f.inside; walks = f.least }; starts = sound.inside p here.place.here })

      pub walk-of : (r : Option Candidate) → r ≡ walked o s.vc w s.tolerance → r ≡ walk_at g p
      unfolding walk_at walk_of
      walk-of r e = e ∙ ap (λ (v : Walk). walked o s.vc v s.tolerance) is ∙ rw (f.first_there, f.wraps, f.traverses)

-- the candidate of a walk, from its two callees
pub walked-of : (o : List Float) (vc : ℕ) (w : Walk) (t : Tolerance) (view : ViewData) (after : Vertex)
    → view ≡ create_view o vc w t → after ≡ outline_at o vc (w.start_index + 1) → candidate view w.updated_start after ≡ walked o vc w t
unfolding walked
walked-of o vc w t view after e f = cc

-- the walk from what was read of it
pub walk-read : (splits : List Float) (segment p : ℕ) (n : Next) (end : Point) (part start : Vertex)
    → part ≡ vertex_at splits (3 * n.cut) → start ≡ vertex_at splits (3 * p + 2)
    → ◌≡◌ {A = Walk}
    (record {
      start_index = segment;
      end_intersect = end;
      intersect_index = n.index;
      updated_start = start;
      traverse_count = n.traverse;
      split_bulge = part.bulge;
    })
    (walk_with end splits segment p n)
walk-read splits segment p n end part start a b = rw (a, b)

pub ruleset walks = (last-cut, walk-parts, walk-ready, walk-of, walked-of, walk-read)

-- ---- what a place gives
module _ (cut_at : List ℕ) (count p : ℕ) (splits : List Float) (x : Bool) (nine : length splits ≡ 9 * count) (is : x ≡ same_next cut_at count p) (yes : x ≡ true) where
  next-there : p + 1 < count
  unfolding same_next
  next-there = ltb-true (p + 1) count (and_left (ltb (p + 1) count) _ (sym is ∙ yes))

  -- the split at the next cut is there
  pub next_start : Triple splits (3 * (p + 1))
  next_start = record { inside = omega (arith, next-there) }

  pub next-vertex : Triple splits (3 * (p + 1) + 1)
  next-vertex = record { inside = omega (arith, next-there) }

-- the last of its segment
pub place-last : (g : Given) (p : ℕ) (x : Bool) → Place g p → x ≡ same_next g.cut_at g.count p → x ≡ false → LastPlace g p
place-last g p x here is other = record { place = here; alone = sym is ∙ other }

pub piece-of : (s : ℕ) (a b a' b' : Vertex) (t : Tolerance) (r : Option Candidate) → r ≡ piece_of s a b t → a ≡ a' → b ≡ b' → r ≡ piece_of s a' b' t
piece-of s a b a' b' t r e f g = cc

pub ruleset places = (next_start, next-vertex, place-last, piece-of)
