-- Request K6: "With both equal, all answers are those of before."
-- Document 01's agreement, box and range of one tolerance, and that those of two are these where both are `alike`. Of the definitions that an entry's contract reaches, six ask for agreement or box,
-- and each is shown here with document 01's own in it. Every definition of the base above them takes a tolerance as a whole and hands it on, and so does every entry of the base:
-- an entry with the tolerance given twice is the entry of before.
use Rattle.std.specs.Prelude.{ℕ, Bool, true, false, not, ◌&&◌, cond, ◌≡◌, refl, List, ◌∷◌, eqb, Float, Some, None}
use Rattle.basis.specs.Number.{agree, in_span, alike, tolerable_on, tolerable}
use Rattle.outline.specs.declared.point.Point.{Point}
use Rattle.outline.specs.declared.point.Vertex.{Vertex}
use Rattle.outline.specs.Outline.{outline_at}
use Rattle.outline.specs.Points.{pos_of, with_bulge, points_agree, in_box}
use Rattle.view.specs.declared.create.Walk.{Walk}
use Rattle.view.specs.Create.{view_of, near_vertex, single_view}
use Rattle.view_span.specs.declared.span.Ends.{Ends}
use Rattle.view_span.specs.Span.{decided}
use Rattle.view_start.specs.SlicePoints.{collapses}
use Rattle.stitch_vertices.specs.Vertices.{add_vertex}
use Rattle.stitch_run.specs.Stitch.{given, plan_of, offers_to, start_point_of}
use Rattle.select.specs.declared.class.Starts.{Starts}

-- ---- document 01's words, with one tolerance

-- "Two points agree when both coordinates do."
unfoldable pub agree_by : Float → Point → Point → Bool
agree_by t a b = agree t a.x b.x && agree t a.y b.y

-- "ex − t ≤ px ≤ ex + t, and likewise in y"
unfoldable pub box_by : Float → Point → Point → Bool
box_by t e p = in_span t e.x p.x && in_span t e.y p.y

-- ---- with both equal, agreement, box and range are those of one

pub agree-alike : (t : Float) (a b : Point) → points_agree (alike t) a b ≡ agree_by t a b
unfolding points_agree agree_by
agree-alike t a b = refl

pub box-alike : (t : Float) (e p : Point) → in_box (alike t) e p ≡ box_by t e p
unfolding in_box box_by
box-alike t e p = refl

pub range-alike : (t : Float) → tolerable (alike t) ≡ tolerable_on t
unfolding tolerable
range-alike t = both (tolerable_on t)
  where
    both : (b : Bool) → b && b ≡ b
    both true = refl
    both false = refl

-- ---- and so are the six definitions that ask for them

-- whether a point stands on a vertex of an outline: cuts, walks, views
pub near-alike : (o : List Float) (vc i : ℕ) (p : Point) (t : Float) → near_vertex o vc i p (alike t) ≡ agree_by t p (pos_of (outline_at o vc i))
unfolding near_vertex
near-alike o vc i p t = agree-alike t p (pos_of (outline_at o vc i))

-- whether a piece of one segment has a view
pub single-alike : (s : ℕ) (a : Vertex) (e : Point) (t : Float)
    → single_view s a e (alike t) ≡ cond (agree_by t (pos_of a) e) None (Some (view_of s 0 a a.bulge e))
unfolding single_view
single-alike s a e t = rw (agree-alike t (pos_of a) e)

-- whether the distances decide between two points on one segment, and whether a walk of one segment has no view
pub decided-alike : (e : Ends) (n : ℕ) (t : Float) → decided e n (alike t) ≡ eqb n 0 && (e.closed && not (agree_by t e.start_point e.end_point))
unfolding decided
decided-alike e n t = rw (agree-alike t e.start_point e.end_point)

pub collapses-alike : (o : List Float) (vc : ℕ) (w : Walk) (t : Float)
    → collapses o vc w (alike t)
    ≡ eqb w.traverse_count 1 && (agree_by t w.end_intersect (pos_of (outline_at o vc w.intersect_index)) && agree_by t (pos_of w.updated_start) w.end_intersect)
unfolding collapses
collapses-alike o vc w t = rw (near-alike o vc w.intersect_index w.end_intersect t, agree-alike t (pos_of w.updated_start) w.end_intersect)

-- whether a vertex is added to a chain, or replaces the last one's bulge
pub add-alike : (t : Float) (last v : Vertex) (vs : List Vertex)
    → add_vertex (alike t) (last ∷ vs) v ≡ cond (agree_by t (pos_of last) (pos_of v)) (with_bulge last v.bulge ∷ vs) (v ∷ last ∷ vs)
unfolding add_vertex
add-alike t last v vs = rw (agree-alike t (pos_of last) (pos_of v))

-- which slices a chain's end can be joined to
pub offer-alike : (o1 o2 : List Float) (at : List ℕ) (s : List Float) (vc1 vc2 n : ℕ) (starts : Starts) (selector : ℕ) (t : Float) (last : Vertex) (vs : List Vertex) (j : ℕ)
    → offers_to (given o1 o2 at s (plan_of vc1 vc2 n starts selector (alike t))) (last ∷ vs) j
    ≡ box_by t (pos_of last) (start_point_of (given o1 o2 at s (plan_of vc1 vc2 n starts selector (alike t))) j)
unfolding offers_to
offer-alike o1 o2 at s vc1 vc2 n starts selector t last vs j =
    box-alike t (pos_of last) (start_point_of (given o1 o2 at s (plan_of vc1 vc2 n starts selector (alike t))) j)
