-- Closed examples, computed: document 01's T1, T2, T6 and T7, and one for each case of a place.
use Rattle.std.specs.Prelude.{ℕ, false, ◌≡◌, refl, pos, negsuc, Float, Option, Some, None}
use mathlib.Core.List.{List, [], ◌∷◌, map, flat_map}
use Rattle.std.specs.Float.{fin, binary64}
use Rattle.std.specs.Float.Ieee.{of_int, sub, lt}
use Rattle.basis.specs.Number.{abs_f, agree, alike}
use Rattle.basis.specs.declared.number.Tolerance.{Tolerance}
use Rattle.outline.specs.Points.{points_agree}
use Rattle.outline.specs.Outline.{vertex_at, wrap, outline_at, point_at}
use Rattle.view.specs.View.{vertex_count}
use Rattle.view.specs.Create.{near_vertex, bulge_before, create_view, single_view}
use Rattle.cut.specs.Cuts.{case_of}
use Rattle.candidate.specs.declared.at_cut.Candidate.{Candidate}
use Rattle.candidate.specs.Candidates.{Given, given, same_next, first_from, first_cut, traverse_from, traverse_of, slice_of, piece_of, walk_of, walked, walk_at, candidate_at, candidates_to, candidates_of, cand_count, cand_numbers, cand_shapes, probe_numbers}

-- whole numbers as floats, and t = 1/1024
abbrev pub floats : List ℕ → List Float
floats l = map (λ n. of_int binary64 (pos n)) l

abbrev pub t : Tolerance
t = alike (fin false 1 (negsuc 9))

-- ---- the sheet of two squares: intersections (4,2) and (2,4)

-- A is (0,0) (4,0) (4,4) (0,4), cut on segments 1 and 2
abbrev pub cuts_a : Given
cuts_a =
    given (floats (0 ∷ 0 ∷ 0 ∷ 4 ∷ 0 ∷ 0 ∷ 4 ∷ 4 ∷ 0 ∷ 0 ∷ 4 ∷ 0 ∷ [])) (1 ∷ 0 ∷ 0 ∷ 2 ∷ 0 ∷ 1 ∷ []) (floats (4 ∷ 2 ∷ 2 ∷ 4 ∷ []))
    (floats (4 ∷ 0 ∷ 0 ∷ 4 ∷ 2 ∷ 0 ∷ 4 ∷ 2 ∷ 0 ∷ 4 ∷ 4 ∷ 0 ∷ 2 ∷ 4 ∷ 0 ∷ 2 ∷ 4 ∷ 0 ∷ [])) (case_of 4 1 2 0 t)

-- B is (2,2) (6,2) (6,6) (2,6), cut on segments 0 and 3
abbrev pub cuts_b : Given
cuts_b =
    given (floats (2 ∷ 2 ∷ 0 ∷ 6 ∷ 2 ∷ 0 ∷ 6 ∷ 6 ∷ 0 ∷ 2 ∷ 6 ∷ 0 ∷ [])) (0 ∷ 0 ∷ 0 ∷ 3 ∷ 0 ∷ 1 ∷ []) (floats (4 ∷ 2 ∷ 2 ∷ 4 ∷ []))
    (floats (2 ∷ 2 ∷ 0 ∷ 4 ∷ 2 ∷ 0 ∷ 4 ∷ 2 ∷ 0 ∷ 2 ∷ 6 ∷ 0 ∷ 2 ∷ 4 ∷ 0 ∷ 2 ∷ 4 ∷ 0 ∷ [])) (case_of 4 2 2 0 t)

-- T1: "A's candidates: start 1 offset 1; start 2 offset 3."
pub t1 : cand_numbers cuts_a ≡ 1 ∷ 1 ∷ 2 ∷ 3 ∷ []
unfolding candidates_of candidates_to flat_map candidate_at walk_at walked walk_of same_next traverse_of traverse_from first_cut first_from create_view near_vertex bulge_before points_agree agree abs_f point_at vertex_at outline_at wrap of_int sub lt
t1 = refl

-- T2: "B's: start 0 offset 3; start 3 offset 1."
pub t2 : cand_numbers cuts_b ≡ 0 ∷ 3 ∷ 3 ∷ 1 ∷ []
unfolding candidates_of candidates_to flat_map candidate_at walk_at walked walk_of same_next traverse_of traverse_from first_cut first_from create_view near_vertex bulge_before points_agree agree abs_f point_at vertex_at outline_at wrap of_int sub lt
t2 = refl

-- A's first candidate goes from (4,2) to (2,4) and is tested between (4,2) and (4,4); its second from (2,4) to (4,2), tested between (2,4) and (0,4)
pub t1-shapes : cand_shapes cuts_a ≡ floats (4 ∷ 2 ∷ 0 ∷ 0 ∷ 2 ∷ 4 ∷ 2 ∷ 4 ∷ 0 ∷ 0 ∷ 4 ∷ 2 ∷ [])
unfolding candidates_of candidates_to flat_map candidate_at walk_at walked walk_of same_next traverse_of traverse_from first_cut first_from create_view near_vertex bulge_before points_agree agree abs_f point_at vertex_at outline_at wrap of_int sub lt
t1-shapes = refl

pub t1-probes : probe_numbers cuts_a ≡ floats (4 ∷ 2 ∷ 0 ∷ 4 ∷ 4 ∷ 0 ∷ 2 ∷ 4 ∷ 0 ∷ 0 ∷ 4 ∷ 0 ∷ [])
unfolding candidates_of candidates_to flat_map candidate_at walk_at walked walk_of same_next traverse_of traverse_from first_cut first_from create_view near_vertex bulge_before points_agree agree abs_f point_at vertex_at outline_at wrap of_int sub lt
t1-probes = refl

-- ---- a triangle (0,0) (4,0) (0,4) with one cut on segment 0, at (x,0)
abbrev pub triangle : ℕ → Given
triangle x =
    given (floats (0 ∷ 0 ∷ 0 ∷ 4 ∷ 0 ∷ 0 ∷ 0 ∷ 4 ∷ 0 ∷ [])) (0 ∷ 0 ∷ 0 ∷ []) (floats (x ∷ 0 ∷ []))
    (floats (0 ∷ 0 ∷ 0 ∷ x ∷ 0 ∷ 0 ∷ x ∷ 0 ∷ 0 ∷ [])) (case_of 3 1 1 0 t)

-- T6: "A triangle with one cut on vertex 0: offset 2."
pub t6 : cand_numbers (triangle 0) ≡ 0 ∷ 2 ∷ []
unfolding candidates_of candidates_to flat_map candidate_at walk_at walked walk_of same_next traverse_of traverse_from first_cut first_from create_view near_vertex bulge_before points_agree agree abs_f point_at vertex_at outline_at wrap of_int sub lt
t6 = refl

-- T7: "The cut inside segment 0: offset 3, 5 view vertices."
pub t7 : cand_numbers (triangle 1) ≡ 0 ∷ 3 ∷ []
unfolding candidates_of candidates_to flat_map candidate_at walk_at walked walk_of same_next traverse_of traverse_from first_cut first_from create_view near_vertex bulge_before points_agree agree abs_f point_at vertex_at outline_at wrap of_int sub lt
t7 = refl

abbrev pub vertices_of : Option Candidate → List ℕ
vertices_of None = []
vertices_of (Some c) = vertex_count c.view ∷ []

pub t7-vertices : flat_map vertices_of (candidates_of (triangle 1)) ≡ 5 ∷ []
unfolding candidates_of candidates_to flat_map candidate_at walk_at walked walk_of same_next traverse_of traverse_from first_cut first_from create_view near_vertex bulge_before points_agree agree abs_f point_at vertex_at outline_at wrap of_int sub lt
t7-vertices = refl

-- ---- three cuts on segment 0 of the triangle, at (1,0), (m,0) and (3,0), the mark of each as given
abbrev pub three : ℕ → ℕ → ℕ → ℕ → Given
three m a b c =
    given (floats (0 ∷ 0 ∷ 0 ∷ 4 ∷ 0 ∷ 0 ∷ 0 ∷ 4 ∷ 0 ∷ [])) (0 ∷ a ∷ 0 ∷ 0 ∷ b ∷ 1 ∷ 0 ∷ c ∷ 2 ∷ []) (floats (1 ∷ 0 ∷ m ∷ 0 ∷ 3 ∷ 0 ∷ []))
    (floats (0 ∷ 0 ∷ 0 ∷ 1 ∷ 0 ∷ 0 ∷ 1 ∷ 0 ∷ 0 ∷ 1 ∷ 0 ∷ 0 ∷ m ∷ 0 ∷ 0 ∷ m ∷ 0 ∷ 0 ∷ m ∷ 0 ∷ 0 ∷ 3 ∷ 0 ∷ 0 ∷ 3 ∷ 0 ∷ 0 ∷ [])) (case_of 3 1 3 0 t)

-- two pieces, and the walk from the last cut round to the first
pub three-none : cand_numbers (three 2 0 0 0) ≡ 0 ∷ 0 ∷ 0 ∷ 0 ∷ 0 ∷ 3 ∷ []
unfolding candidates_of candidates_to flat_map candidate_at piece_of slice_of single_view walk_at walked walk_of same_next traverse_of traverse_from first_cut first_from create_view near_vertex bulge_before points_agree agree abs_f point_at vertex_at outline_at wrap of_int sub lt
three-none = refl

-- a marked cut gives neither piece nor walk
pub three-marked : (cand_numbers (three 2 1 0 0) ≡ 0 ∷ 0 ∷ 0 ∷ 3 ∷ []) × (cand_numbers (three 2 0 0 1) ≡ 0 ∷ 0 ∷ 0 ∷ 0 ∷ [])
unfolding candidates_of candidates_to flat_map candidate_at piece_of slice_of single_view walk_at walked walk_of same_next traverse_of traverse_from first_cut first_from create_view near_vertex bulge_before points_agree agree abs_f point_at vertex_at outline_at wrap of_int sub lt
three-marked = (refl, refl)

-- the first two cuts at one point: no piece between them
pub three-together : cand_numbers (three 1 0 0 0) ≡ 0 ∷ 0 ∷ 0 ∷ 3 ∷ []
unfolding candidates_of candidates_to flat_map candidate_at piece_of slice_of single_view walk_at walked walk_of same_next traverse_of traverse_from first_cut first_from create_view near_vertex bulge_before points_agree agree abs_f point_at vertex_at outline_at wrap of_int sub lt
three-together = refl

-- no cut, no candidate
pub no-cuts : cand_count (given [] [] [] [] (case_of 2 1 0 0 t)) ≡ 0
unfolding candidates_of candidates_to
no-cuts = refl
