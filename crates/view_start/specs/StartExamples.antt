-- Closed examples of every corner of `from_slice_points` and `from_new_start`, computed, each on a small input. The host splits straight segments, as the Rust does.
use Rattle.std.specs.Prelude.{ℕ, Bool, true, false, ◌≡◌, refl, List, [], ◌∷◌, Float, pos, negsuc, Option, Some, None}
use Rattle.std.specs.Float.{fin}
use Rattle.std.specs.Float.Ieee.{of_bits, add, sub, mul, lt}
use Rattle.basis.specs.Number.{+0, abs_f, agree, alike}
use Rattle.basis.specs.declared.number.Tolerance.{Tolerance}
use Rattle.outline.specs.declared.point.Point.{Point}
use Rattle.outline.specs.Points.{at_point, points_agree, dist_squared}
use Rattle.outline.specs.Outline.{vertex_at, wrap, outline_at}
use Rattle.view.specs.declared.data.ViewData.{ViewData}
use Rattle.view.specs.Create.{view_of, near_vertex, bulge_before, create_view, single_view}
use Rattle.view_span.specs.declared.span.Ends.{Ends}
use Rattle.view_span.specs.declared.span.Span.{Span}
use Rattle.view_span.specs.Span.{ends_of, can_move, moves_on, start_index_of, ahead, decided, start_nearer, traverse, span_with, span_of}
use Rattle.view_start.specs.SlicePoints.{running_vertex, walk_over, collapses, walked_view, sliced_view, slice_view}
use Rattle.view_start.specs.NewStart.{new_ends, round_view, new_start_view}
use Rattle.view_start.specs.Asked.{Asked, Parts, end_asked, handed_in}

-- ---- what an example opens, under one name each

reads : Unit {0}
unfolding of_bits outline_at wrap vertex_at near_vertex points_agree agree abs_f sub lt
reads = tt

spanned : Unit {0}
unfolding reads can_move moves_on start_index_of ahead decided start_nearer dist_squared add mul traverse span_of
spanned = tt

made : Unit {0}
unfolding spanned running_vertex walk_over collapses walked_view sliced_view slice_view round_view new_start_view end_asked handed_in create_view bulge_before single_view
made = tt

-- ---- the data: points of the x axis

abbrev one : Float
one = fin false 1 (pos 0)

abbrev two : Float
two = fin false 1 (pos 1)

-- 2.5
abbrev two_half : Float
two_half = fin false 5 (negsuc 0)

abbrev three : Float
three = fin false 3 (pos 0)

-- 3.5
abbrev three_half : Float
three_half = fin false 7 (negsuc 0)

abbrev four : Float
four = fin false 1 (pos 2)

-- 4.5
abbrev four_half : Float
four_half = fin false 9 (negsuc 0)

-- 4.75
abbrev four_three : Float
four_three = fin false 19 (negsuc 1)

abbrev five : Float
five = fin false 5 (pos 0)

-- 5.25
abbrev five_one : Float
five_one = fin false 21 (negsuc 1)

abbrev at : Float → Point
at x = record { x = x; y = +0 }

-- two vertices, (0,0) and (4,0); and three, of which two are close to each other
abbrev line : List Float
line = +0 ∷ +0 ∷ +0 ∷ four ∷ +0 ∷ +0 ∷ []

abbrev three-of : Float → List Float
three-of x = +0 ∷ +0 ∷ +0 ∷ four ∷ +0 ∷ +0 ∷ x ∷ +0 ∷ +0 ∷ []

-- t = 1/1024 and t = 1
abbrev fine : Tolerance
fine = alike (fin false 1 (negsuc 9))

abbrev coarse : Tolerance
coarse = alike one

-- `split_vertex` of a straight segment is the point, and its first part starts where it did
abbrev straight : Asked → Parts
straight a = record { part = a.from; vertex = at_point a.at +0 }

-- from the point p on segment i to the point q on segment j
abbrev span : Bool → ℕ → Float → ℕ → Float → Span
span closed i p j q = span_of line 2 (ends_of closed i (at p) j (at q)) fine

abbrev slice_in : List Float → ℕ → Tolerance → Ends → Option ViewData
slice_in o vc t e = slice_view o vc e t (handed_in straight o vc e (span_of o vc e t))

abbrev slice : Bool → ℕ → Float → ℕ → Float → Option ViewData
slice closed i p j q = slice_in line 2 fine (ends_of closed i (at p) j (at q))

-- from p on, over so many vertices more, to q
abbrev view : ℕ → ℕ → Float → Float → Option ViewData
view i offset p q = Some (view_of i offset (at_point (at p) +0) +0 (at q))

-- ---- "a start point on the end of its segment moves forward unless an open outline can't"

-- On an open outline it moves where its index is below the end's,
pub open-moves : (span false 0 four 1 two ≡ span_with true 1 0) × (slice false 0 four 1 two ≡ view 1 0 four two)
unfolding made
open-moves = (refl, refl)

-- and not where the indexes are equal, though (0,0) is the end of the last index's segment, which runs back to vertex 0.
pub open-cannot : (span false 1 +0 1 two ≡ span_with false 1 0) × (slice false 1 +0 1 two ≡ view 1 0 +0 two)
unfolding made
open-cannot = (refl, refl)

-- A closed one's moves from the last index on to 0.
pub closed-wraps : (span true 1 +0 1 two ≡ span_with true 0 1) × (slice true 1 +0 1 two ≡ view 0 1 +0 two)
unfolding made
closed-wraps = (refl, refl)

-- It may move off the end's own segment: then it is all the way round to it.
pub moves-past-end : (span true 0 four 0 two ≡ span_with true 1 1) × (slice true 0 four 0 two ≡ view 1 1 four two)
unfolding made
moves-past-end = (refl, refl)

-- ---- "on one segment the squared distances decide between no wrap and a full wrap, and equal distances wrap"

pub nearer-does-not-wrap : (span true 0 one 0 three ≡ span_with false 0 0) × (slice true 0 one 0 three ≡ view 0 0 one three)
unfolding made
nearer-does-not-wrap = (refl, refl)

pub farther-wraps : (span true 0 three 0 one ≡ span_with false 0 2) × (slice true 0 three 0 one ≡ view 0 2 three one)
unfolding made
farther-wraps = (refl, refl)

-- (3,0) and (0,3) are equally far from (0,0)
abbrev level : Ends
level = ends_of true 0 (at three) 0 (record { x = +0; y = three })

pub equal-wraps : (span_of line 2 level fine ≡ span_with false 0 2) × (slice_in line 2 fine level ≡ Some (view_of 0 2 (at_point (at three) +0) +0 (record { x = +0; y = three })))
unfolding made
equal-wraps = (refl, refl)

-- A start that moved can still be farther from its vertex than the end: with t = 1, 4.75 moves onto vertex 1, and 3.5 is nearer to it.
abbrev beyond : Ends
beyond = ends_of true 0 (at four_three) 1 (at three_half)

pub moved-wraps : (span_of line 2 beyond coarse ≡ span_with true 1 2) × (slice_in line 2 coarse beyond ≡ view 1 1 four three_half)
unfolding made
moved-wraps = (refl, refl)

-- Points that agree do not wrap, though the start is not nearer: the same point, and with t = 1 from 3 to 2.5. There is no view between them.
pub agreeing-do-not-wrap : (span true 0 one 0 one ≡ span_with false 0 0)
    × (slice true 0 one 0 one ≡ None)
    × (span_of line 2 (ends_of true 0 (at three) 0 (at two_half)) coarse ≡ span_with false 0 0)
    × (slice_in line 2 coarse (ends_of true 0 (at three) 0 (at two_half)) ≡ None)
unfolding made
agreeing-do-not-wrap = (refl, refl, refl, refl)

-- On an open outline distances do not decide: from 3 back to 1 is a view, and it runs backward.
pub open-backward : (span false 0 three 0 one ≡ span_with false 0 0) × (slice false 0 three 0 one ≡ view 0 0 three one)
unfolding made
open-backward = (refl, refl)

-- ---- "a traverse of 1 whose points agree gives no view"

-- with t = 1, 3 is not on vertex 1, 3.5 is, and they agree
abbrev close : Bool → Ends
close closed = ends_of closed 0 (at three) 1 (at three_half)

pub traverse-collapses : (span_of line 2 (close false) coarse ≡ span_with false 0 1) × (slice_in line 2 coarse (close false) ≡ None) × (slice_in line 2 coarse (close true) ≡ None)
unfolding made
traverse-collapses = (refl, refl, refl)

-- Only where the end stands on its segment's vertex: there and back again on the two segments is a view.
pub there_and_back : (span true 0 three 1 three ≡ span_with false 0 1) × (slice true 0 three 1 three ≡ view 0 1 three three)
unfolding made
there_and_back = (refl, refl)

-- It is the updated start that is compared, not the start point. With t = 1: 3.5 moves onto 4, which agrees with 4.75, and 3.5 does not;
pub updated-agrees : slice_in (three-of four_three) 3 coarse (ends_of true 0 (at three_half) 2 (at four_three)) ≡ None
unfolding made
updated-agrees = refl

-- 4.5 moves onto 4, which does not agree with 5.25, and 4.5 does.
pub updated-differs : slice_in (three-of five) 3 coarse (ends_of true 0 (at four_half) 2 (at five_one)) ≡ view 1 0 four five_one
unfolding made
updated-differs = refl

-- Points that do not agree: the end on its segment's vertex takes one off the offset.
pub to-a-vertex : (span true 0 one 1 four ≡ span_with false 0 1) × (slice true 0 one 1 four ≡ view 0 0 one four)
unfolding made
to-a-vertex = (refl, refl)

-- ---- a new start

abbrev new : Bool → ℕ → Float → Option ViewData
new closed i p =
    let e = new_ends line 2 closed i (at p) in
    new_start_view line 2 closed i (at p) fine (handed_in straight line 2 e (span_of line 2 e fine))

-- Once round a closed outline: offset vc between two vertices, vc − 1 on the first or the second vertex of its segment, also from the last segment on to vertex 0.
pub closed-starts : (new true 0 one ≡ view 0 2 one one)
    × (new true 0 +0 ≡ view 0 1 +0 +0)
    × (new true 0 four ≡ view 1 1 four four)
    × (new true 1 +0 ≡ view 0 1 +0 +0)
unfolding made
closed-starts = (refl, refl, refl, refl)

-- An open one to its last vertex, and no view from there.
pub open-starts : (new false 0 one ≡ view 0 0 one four)
    × (new false 0 +0 ≡ view 0 0 +0 four)
    × (new false 0 four ≡ None)
    × (new false 1 four ≡ None)
unfolding made
open-starts = (refl, refl, refl, refl)

-- Its last index has the segment that runs back to vertex 0: from there the view runs backward.
pub open-last-index : new false 1 two ≡ view 1 0 two four
unfolding made
open-last-index = refl
