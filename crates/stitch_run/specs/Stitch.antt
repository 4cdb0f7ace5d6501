-- Document 01, "Stitching": the rules over the lists of a call, and what is reported.
use Rattle.std.specs.Prelude.{ℕ, zero, suc, ◌+◌, Bool, false, ltb, length, Float}
use mathlib.Core.List.{List, [], ◌∷◌, map, flat_map, reverse}
use Rattle.basis.specs.declared.number.Tolerance.{Tolerance}
use Rattle.outline.specs.declared.point.Point.{Point}
use Rattle.outline.specs.declared.point.Vertex.{Vertex}
use Rattle.outline.specs.Points.{pos_of, vertex_numbers, in_box}
use Rattle.basis.specs.Refuse.{by_source, count_for}
use Rattle.view.specs.View.{vertex_of}
use Rattle.slice.specs.Slice.{codes_at, slice_view, slice_offset}
use Rattle.select.specs.declared.class.Starts.{Starts}
use Rattle.select.specs.Select.{select_of}
use Rattle.stitch_vertices.specs.Vertices.{add_view, drop_last}
use Rattle.stitch_run.specs.declared.plan.Plan.{Plan}
use Rattle.stitch_run.specs.declared.plan.Slices.{Slices}
use Rattle.stitch_run.specs.Run.{Rules, Chain, Ending, closed, too_small, no_candidate, no_selection, run, slices_of, rounds_of, order_of}

-- What a call has: both outlines with their counts; the slices, as a list of codes, a list of numbers and a count; where their classes start;
-- the selector, 0 for OrAnd and 1 for NotXor; the tolerance.
pub record Given : Type 0 where
  pub outline1 : List Float
  pub vc1 : ℕ
  pub outline2 : List Float
  pub vc2 : ℕ
  pub slice_at : List ℕ
  pub slice : List Float
  pub slices : ℕ
  pub starts : Starts
  pub selector : ℕ
  pub tolerance : Tolerance

-- the same of a function's parameters: the four lists, and the plan that holds all else
abbrev pub given : List Float → List Float → List ℕ → List Float → Plan → Given
given o1 o2 at numbers p =
    record {
      outline1 = o1;
      vc1 = p.vc1;
      outline2 = o2;
      vc2 = p.vc2;
      slice_at = at;
      slice = numbers;
      slices = p.slices;
      starts = p.starts;
      selector = p.selector;
      tolerance = p.tolerance;
    }

-- the same of the struct in which the code hands them on
abbrev pub given_of : Slices → Given
given_of s = given s.outline1.now s.outline2.now s.slice_at.now s.slice.now s.plan

-- a plan of its numbers, in the order in which an entry has them
abbrev pub plan_of : ℕ → ℕ → ℕ → Starts → ℕ → Tolerance → Plan
plan_of vc1 vc2 n starts selector t = record { vc1 = vc1; vc2 = vc2; slices = n; starts = starts; selector = selector; tolerance = t }

-- ---- a slice

module _ (g : Given) where
  -- the outline that slice i is of, and its vertex count
  unfoldable pub slice_outline : ℕ → List Float
  slice_outline i = by_source g.outline1 g.outline2 (codes_at g.slice_at i).source

  unfoldable pub slice_count : ℕ → ℕ
  slice_count i = count_for g.vc1 g.vc2 (codes_at g.slice_at i).source

  -- vertex k of slice i's view
  unfoldable pub slice_vertex : ℕ → ℕ → Vertex
  slice_vertex i k = vertex_of (slice_outline i) (slice_count i) (slice_view g.slice_at g.slice i) k

  -- "A slice's start point (its view's vertex 0)": an inverted view's is its end point
  unfoldable pub start_point_of : ℕ → Point
  start_point_of i = pos_of (slice_vertex i 0)

  -- "that slice's vertices follow"
  unfoldable pub add_slice : ℕ → List Vertex → List Vertex
  add_slice i vs = add_view g.tolerance (slice_outline i) (slice_count i) (slice_view g.slice_at g.slice i) vs

  -- slice j's start point is a candidate of the chain's last vertex, the head of vs. (A chain has a vertex from its first slice on.)
  unfoldable pub offers_to : List Vertex → ℕ → Bool
  offers_to [] j = false
  offers_to (last ∷ vs) j = in_box g.tolerance (pos_of last) (start_point_of j)

  -- ---- the rules. A chain's vertices are listed newest first.
  unfoldable pub rules_of : Rules (List Vertex)
  rules_of =
      record {
        count = g.slices;
        begin = λ i. add_slice i [];
        -- "the last vertex is dropped and that slice's vertices follow"
        join = λ vs j. add_slice j (drop_last vs);
        -- "fewer than 3 vertices"
        tiny = λ vs. ltb (length vs) 3;
        offers = λ vs j. offers_to vs j;
        select = λ current candidates. select_of g.selector g.starts current candidates;
      }

  unfoldable pub run_of : List (Chain (List Vertex))
  run_of = run rules_of

-- ---- what is reported of a run

-- "else the last vertex goes and the loop is returned": its vertices from the first to the last
unfoldable pub loop_of : Ending → List Vertex → List (List Vertex)
loop_of closed vs = reverse (drop_last vs) ∷ []
loop_of too_small vs = []
loop_of no_candidate vs = []
loop_of no_selection vs = []

unfoldable pub loops_of : List (Chain (List Vertex)) → List (List Vertex)
loops_of l = flat_map (λ c. loop_of c.ending c.built) l

-- 0 closed, 1 too small, 2 no candidate, 3 no slice selected
unfoldable pub how_of : Ending → ℕ
how_of closed = 0
how_of too_small = 1
how_of no_candidate = 2
how_of no_selection = 3

-- for each number of a list, the sum of m and of all numbers up to and with it
unfoldable pub totals : ℕ → List ℕ → List ℕ
totals m [] = []
totals m (k ∷ l) = (m + k) ∷ totals (m + k) l

module _ (g : Given) where
  -- "exactly n rounds, and n is the count you report": the length of the run's rounds
  unfoldable pub round_count : ℕ
  round_count = length (rounds_of (run_of g))

  unfoldable pub loop_count : ℕ
  loop_count = length (loops_of (run_of g))

  unfoldable pub chain_count : ℕ
  chain_count = length (run_of g)

  -- "Each loop is written directly after the loops already finished": x, y, bulge of each vertex
  unfoldable pub room_items : List Float
  room_items = flat_map (λ vs. flat_map vertex_numbers vs) (loops_of (run_of g))

  -- "each loop's end": how many vertices all loops up to and with it have
  unfoldable pub end_items : List ℕ
  end_items = totals 0 (map length (loops_of (run_of g)))

  -- "each chain's slices in order", chain after chain
  unfoldable pub chain_items : List ℕ
  chain_items = order_of (run_of g)

  -- how many slices all chains up to and with it have
  unfoldable pub chain_end_items : List ℕ
  chain_end_items = totals 0 (map (λ c. length (slices_of c)) (run_of g))

  -- "how it ended"
  unfoldable pub how_items : List ℕ
  how_items = map (λ c. how_of c.ending) (run_of g)

-- ---- the need in vertices

-- the sum of a weight over the numbers below n
unfoldable pub sum_below : (ℕ → ℕ) → ℕ → ℕ
sum_below f zero = 0
sum_below f (suc i) = sum_below f i + f i

-- a slice weighs its offset + 1
unfoldable pub weight_at : List ℕ → ℕ → ℕ
weight_at at i = slice_offset at i + 1

-- one vertex more than the sum of (offset + 1); none where there are no slices
unfoldable pub need_for : (ℕ → ℕ) → ℕ → ℕ
need_for f zero = 0
need_for f (suc n) = 1 + sum_below f (suc n)

unfoldable pub need_of : List ℕ → ℕ → ℕ
need_of at n = need_for (weight_at at) n
