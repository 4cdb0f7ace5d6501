-- Document 01, "Cuts and candidates": the candidates of one outline, over its cuts in order and the splits along them.
use Rattle.std.specs.Prelude.{ℕ, zero, suc, ◌+◌, ◌-◌, ◌*◌, Bool, cond, ◌&&◌, length, get_or, ltb, eqb, Float, Option, Some, None}
use mathlib.Core.List.{List, [], ◌∷◌, ◌++◌, flat_map}
use Rattle.basis.specs.declared.number.Tolerance.{Tolerance}
use Rattle.outline.specs.declared.point.Vertex.{Vertex}
use Rattle.outline.specs.Points.{pos_of, vertex_numbers}
use Rattle.outline.specs.Outline.{wrap, vertex_at, outline_at, point_at}
use Rattle.view.specs.declared.data.ViewData.{ViewData}
use Rattle.view.specs.declared.create.Walk.{Walk}
use Rattle.view.specs.View.{view_numbers}
use Rattle.view.specs.Create.{create_view, single_view}
use Rattle.cut.specs.declared.arrival.Case.{Case}
use Rattle.candidate.specs.declared.at_cut.Candidate.{Candidate}

-- What is there: the outline, its cuts in order as `mask_cut_order` writes them, the splits along them, the tolerance.
pub record Given : Type 0 where
  pub outline : List Float
  pub vc : ℕ
  pub cut_at : List ℕ
  pub cut : List Float
  pub count : ℕ
  pub splits : List Float
  pub tolerance : Tolerance

-- the lists, with what stands beside them: one cut of each intersection, two of each overlap
abbrev pub given : List Float → List ℕ → List Float → List Float → Case → Given
given outline cut_at cut splits s =
    record { outline = outline; vc = s.vc; cut_at = cut_at; cut = cut; count = s.hits + 2 * s.laps; splits = splits; tolerance = s.tolerance }

-- ---- a cut, by its place in the order

-- its segment; three numbers a cut: segment, mark, arrival
abbrev pub segment_at : List ℕ → ℕ → ℕ
segment_at cut_at p = get_or cut_at (3 * p) 0

-- it carries the overlap mark
abbrev pub marked_at : List ℕ → ℕ → Bool
marked_at cut_at p = eqb (get_or cut_at (3 * p + 1) 0) 1

-- "per cut, the split of the running vertex at it (start part, split vertex), and per segment the split vertex of the whole segment at its last cut":
-- three vertices a cut, of which the third is read at a segment's last cut only
abbrev pub start_part : List Float → ℕ → Vertex
start_part splits p = vertex_at splits (3 * p)

abbrev pub split_vertex_at : List Float → ℕ → Vertex
split_vertex_at splits p = vertex_at splits (3 * p + 1)

abbrev pub whole_split : List Float → ℕ → Vertex
whole_split splits p = vertex_at splits (3 * p + 2)

-- the next cut in the order is on the same segment
unfoldable pub same_next : List ℕ → ℕ → ℕ → Bool
same_next cut_at count p = ltb (p + 1) count && eqb (segment_at cut_at (p + 1)) (segment_at cut_at p)

-- ---- the next segment that has a cut

-- of the places from p on (as many as the first argument says) the first whose cut is on segment i; the place after them where there is none
unfoldable pub first_from : ℕ → List ℕ → ℕ → ℕ → ℕ
first_from zero cut_at i p = p
first_from (suc left) cut_at i p = cond (eqb (segment_at cut_at p) i) p (first_from left cut_at i (p + 1))

-- a segment's first cut; the count of cuts where it has none
unfoldable pub first_cut : List ℕ → ℕ → ℕ → ℕ
first_cut cut_at count i = first_from count cut_at i 0

abbrev pub has_cut : List ℕ → ℕ → ℕ → Bool
has_cut cut_at count i = ltb (first_cut cut_at count i) count

-- of the numbers k, k + 1, .. (as many as the first argument says) the first that leads from segment s on to one that passes; the number after them where none does
unfoldable pub traverse_from : ℕ → (ℕ → Bool) → ℕ → ℕ → ℕ → ℕ
traverse_from zero has vc s k = k
traverse_from (suc left) has vc s k = cond (has (wrap vc (s + k))) k (traverse_from left has vc s (k + 1))

-- "The search for the next cut segment yields its traverse count", "from 1 to vc". K12: "the segment where a walk began has a cut", so where none of the vc - 1 others has
-- one, the walk goes once round
unfoldable pub traverse_of : ℕ → List ℕ → ℕ → ℕ → ℕ
traverse_of vc cut_at count s = traverse_from (vc - 1) (has_cut cut_at count) vc s 1

-- ---- what the cut at a place gives

-- a candidate of its view and its two vertices
abbrev pub candidate : ViewData → Vertex → Vertex → Option Candidate
candidate v a b = Some (record { view = v; from = a; to = b })

-- a candidate has a view; the two vertices are those "whose midpoint the host tests"
unfoldable pub slice_of : Option ViewData → Vertex → Vertex → Option Candidate
slice_of (Some v) a b = candidate v a b
slice_of None a b = None

-- "a piece between neighbours on the segment unless [..] the split's two positions agree"; it is tested between "the split's start part and split vertex". Where they agree
-- `create_on_single_segment` has no view; K12: "a piece whose ends were tested apart always gets its view"
unfoldable pub piece_of : ℕ → Vertex → Vertex → Tolerance → Option Candidate
piece_of s a b t = slice_of (single_view s a (pos_of b) t) a b

-- "A walk ends at that segment's first cut, and that cut's own split is the one supplied to `create`."
abbrev pub walk_to : Given → ℕ → ℕ → ℕ → Walk
walk_to g p k i =
    let q = first_cut g.cut_at g.count i in
    record {
      start_index = segment_at g.cut_at p;
      end_intersect = point_at g.cut (2 * q);
      intersect_index = i;
      updated_start = whole_split g.splits p;
      traverse_count = k;
      split_bulge = (start_part g.splits q).bulge;
    }

-- "the walk to the next segment that has a cut"
unfoldable pub walk_of : Given → ℕ → Walk
walk_of g p =
    let s = segment_at g.cut_at p in
    let k = traverse_of g.vc g.cut_at g.count s in
    walk_to g p k (wrap g.vc (s + k))

-- its candidate: it is tested between "its updated start and the outline vertex after its start index"
unfoldable pub walked : List Float → ℕ → Walk → Tolerance → Option Candidate
walked o vc w t = candidate (create_view o vc w t) w.updated_start (outline_at o vc (w.start_index + 1))

unfoldable pub walk_at : Given → ℕ → Option Candidate
walk_at g p = walked g.outline g.vc (walk_of g p) g.tolerance

-- "for each later cut, a piece between neighbours on the segment unless the earlier is marked [..]; then, unless the last cut is marked, the walk": the cut at
-- place p is the earlier of two neighbours, or its segment's last
unfoldable pub candidate_at : Given → ℕ → Option Candidate
candidate_at g p =
    cond (marked_at g.cut_at p) None
    (cond (same_next g.cut_at g.count p)
    (piece_of (segment_at g.cut_at p) (start_part g.splits (p + 1)) (split_vertex_at g.splits (p + 1)) g.tolerance)
    (walk_at g p))

-- ---- the candidates, "in order of segments", which is the order of places

abbrev pub kept : Option Candidate → List (Option Candidate)
kept None = []
kept (Some c) = Some c ∷ []

-- those of the first p places
unfoldable pub candidates_to : Given → ℕ → List (Option Candidate)
candidates_to g zero = []
candidates_to g (suc p) = candidates_to g p ++ kept (candidate_at g p)

unfoldable pub candidates_of : Given → List (Option Candidate)
candidates_of g = candidates_to g g.count

abbrev pub cand_count : Given → ℕ
cand_count g = length (candidates_of g)

-- start and offset
abbrev pub numbers_of : Option Candidate → List ℕ
numbers_of None = []
numbers_of (Some c) = c.view.start_index ∷ c.view.end_index_offset ∷ []

-- updated start x, y, bulge, end bulge, end x, y
abbrev pub shape_of : Option Candidate → List Float
shape_of None = []
shape_of (Some c) = view_numbers c.view

-- the two vertices
abbrev pub probe_of : Option Candidate → List Float
probe_of None = []
probe_of (Some c) = vertex_numbers c.from ++ vertex_numbers c.to

-- the three lists that go out
abbrev pub cand_numbers : Given → List ℕ
cand_numbers g = flat_map numbers_of (candidates_of g)

abbrev pub cand_shapes : Given → List Float
cand_shapes g = flat_map shape_of (candidates_of g)

abbrev pub probe_numbers : Given → List Float
probe_numbers g = flat_map probe_of (candidates_of g)
