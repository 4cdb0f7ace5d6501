-- Closed examples of views, computed: document 01's T6 and T7, and an inverted view.
use Rattle.std.specs.Prelude.{ℕ, true, false, ◌≡◌, refl, List, [], ◌∷◌, Float, pos, negsuc, Option, Some, None}
use Rattle.std.specs.Float.{fin}
use Rattle.std.specs.Float.Ieee.{of_bits, neg, sub, lt}
use Rattle.basis.specs.Number.{+0, one, abs_f, agree, alike}
use Rattle.basis.specs.declared.number.Tolerance.{Tolerance}
use Rattle.outline.specs.declared.point.Point.{Point}
use Rattle.outline.specs.declared.point.Vertex.{Vertex}
use Rattle.outline.specs.Points.{pos_of, with_bulge, points_agree}
use Rattle.outline.specs.Outline.{vertex_at, wrap, outline_at}
use Rattle.view.specs.declared.data.ViewData.{ViewData}
use Rattle.view.specs.declared.create.Walk.{Walk}
use Rattle.view.specs.View.{forward_at, turned_at, inverted_at, vertex_of, get_vertex}
use Rattle.view.specs.Create.{view_of, near_vertex, bulge_before, create_view}

-- ---- what an example opens, under one name each: `unfolding reads` opens all that its own line does

reads : Unit {0}
unfolding of_bits get_vertex vertex_of forward_at inverted_at turned_at outline_at wrap vertex_at neg
reads = tt

tests : Unit {0}
unfolding reads near_vertex points_agree agree abs_f sub lt
tests = tt

creates : Unit {0}
unfolding tests create_view bulge_before
creates = tt

-- ---- the data

abbrev pub half : Float
half = fin false 1 (negsuc 0)

abbrev pub two : Float
two = fin false 1 (pos 1)

-- t = 1/1024
abbrev t : Tolerance
t = alike (fin false 1 (negsuc 9))

abbrev pub at : Float → Float → Point
at px py = record { x = px; y = py }

-- a vertex with bulge +0
abbrev pub straight : Float → Float → Vertex
straight px py = record { x = px; y = py; bulge = +0 }

-- a triangle (0,0) (2,0) (0,2); the second vertex has the bulge b
abbrev triangle : Float → List Float
triangle b = +0 ∷ +0 ∷ +0 ∷ two ∷ +0 ∷ b ∷ +0 ∷ two ∷ +0 ∷ []

-- all the way round it, from a cut on segment 0 to the same
abbrev round : Vertex → Walk
round cut =
    record {
      start_index = 0;
      end_intersect = pos_of cut;
      intersect_index = 0;
      updated_start = cut;
      traverse_count = 3;
      split_bulge = +0;
    }

abbrev round_view : Vertex → ViewData
round_view cut = create_view (triangle +0) 3 (round cut) t

-- ---- T7: the cut is inside segment 0, at (1,0)

pub t7-offset : (round_view (straight one +0)).end_index_offset ≡ 3
unfolding creates
t7-offset = refl

abbrev t7 : ℕ → Option Vertex
t7 = get_vertex (triangle +0) 3 (round_view (straight one +0))

-- Five vertices, and none after them.
pub t7-vertices : (t7 0 ≡ Some (straight one +0))
    × (t7 1 ≡ Some (straight two +0))
    × (t7 2 ≡ Some (straight +0 two))
    × (t7 3 ≡ Some (straight +0 +0))
    × (t7 4 ≡ Some (straight one +0))
    × (t7 5 ≡ None)
unfolding creates
t7-vertices = (refl, refl, refl, refl, refl, refl)

-- ---- T6: the cut is on vertex 0

pub t6-offset : (round_view (straight +0 +0)).end_index_offset ≡ 2
unfolding creates
t6-offset = refl

abbrev t6 : ℕ → Option Vertex
t6 = get_vertex (triangle +0) 3 (round_view (straight +0 +0))

-- Four vertices, and none after them.
pub t6-vertices : (t6 0 ≡ Some (straight +0 +0))
    × (t6 1 ≡ Some (straight two +0))
    × (t6 2 ≡ Some (straight +0 two))
    × (t6 3 ≡ Some (straight +0 +0))
    × (t6 4 ≡ None)
unfolding creates
t6-vertices = (refl, refl, refl, refl, refl)

-- ---- an inverted view with an arc: "Negating +0 gives −0, and it is kept."

abbrev -0 : Float
-0 = fin true 0 (pos 0)

abbrev -half : Float
-half = fin true 1 (negsuc 0)

-- on the triangle with a bulge 1/2: from (1,0) through (2,0) and (0,2) to (0,1), and the same inverted
abbrev way : ViewData
way = view_of 0 2 (straight one +0) +0 (at +0 one)

abbrev back : ViewData
back =
    record {
      start_index = 0;
      end_index_offset = 2;
      updated_start = straight one +0;
      updated_end_bulge = +0;
      end_point = at +0 one;
      inverted_direction = true;
    }

abbrev there : ℕ → Option Vertex
there = get_vertex (triangle half) 3 way

abbrev home : ℕ → Option Vertex
home = get_vertex (triangle half) 3 back

pub forward-arc : (there 0 ≡ Some (straight one +0))
    × (there 1 ≡ Some (with_bulge (straight two +0) half))
    × (there 2 ≡ Some (straight +0 two))
    × (there 3 ≡ Some (straight +0 one))
    × (there 4 ≡ None)
unfolding reads
forward-arc = (refl, refl, refl, refl, refl)

pub inverted-arc : (home 0 ≡ Some (with_bulge (straight +0 one) -0))
    × (home 1 ≡ Some (with_bulge (straight +0 two) -half))
    × (home 2 ≡ Some (with_bulge (straight two +0) -0))
    × (home 3 ≡ Some (straight one +0))
    × (home 4 ≡ None)
unfolding reads
inverted-arc = (refl, refl, refl, refl, refl)
