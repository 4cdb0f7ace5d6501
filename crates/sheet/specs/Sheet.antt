-- Document 01, "Sheet of two squares": T1 to T10 as one list. Beside each case stand its words; what it says is said of the definitions (`Holds`) and of the
-- exported entries (`Answers`). `SheetTheorems` proves both of the whole list.
use Rattle.std.specs.Prelude.{◌≡◌, ℕ, ◌-◌, ◌*◌, ◌<◌, true, false, List, [], ◌∷◌, ◌++◌, map, length, take, pos, negsuc, from_bits, Float}
use Rattle.std.specs.Float.{fin, binary64}
use Rattle.std.specs.Float.Ieee.{of_int}
use Rattle.basis.specs.Number.{+0, alike}
use Rattle.basis.specs.declared.number.Tolerance.{Tolerance}
use Rattle.outline.specs.declared.point.Vertex.{Vertex}
use Rattle.outline.specs.Points.{pos_of, points_agree, in_box}
use Rattle.view.specs.View.{vertex_count}
use Rattle.view_entries.specs.declared.input.View.{View}
use Rattle.view_entries.specs.Inputs.{view_data}
use Rattle.view_entries.specs.ViewVertex.{view_vertex_refusal, view_vertex_answer}
use Rattle.view_entries.specs.SingleEntry.{single_refusal, single_answer}
use Rattle.cut.specs.Cuts as cuts
use Rattle.candidate.specs.Candidates.{cand_numbers}
use Rattle.basis.specs.declared.answer.CountAnswer.{CountAnswer}
use Rattle.candidate_lists.specs.Lists.{along_cuts}
use Rattle.candidate_entries.specs.Candidates.{candidates_refusal, Lent, Sliced}
use Rattle.select.specs.declared.class.Starts.{Starts}
use Rattle.prune.specs.declared.counts.Pruned.{Pruned}
use Rattle.slice.specs.Slice.{code_width, shape_width}
use Rattle.slice.specs.Ready as slice
use Rattle.slice.specs.Editions.{Editions}
use Rattle.prune.specs.Prune.{Given, call_of, cands, overlaps, given, need_of, pruned_of, slice_codes, slice_shapes}
use Rattle.prune_entries.specs.declared.answer.PruneAnswer.{PruneAnswer}
use Rattle.prune_entries.specs.Answers.{prune_given}
use Rattle.prune_entries.specs.PruneEntry.{prune_refusal, PruneLeft}
use Rattle.stitch_run.specs.Stitch as stitch
use Rattle.stitch_run.specs.Stitch.{round_count, room_items, end_items}
use Rattle.stitch.specs.Lent.{Lists}
use Rattle.stitch_entries.specs.declared.answer.StitchAnswer.{StitchAnswer}
use Rattle.stitch_entries.specs.Answers.{stitch_refused}
use Rattle.stitch_faults.specs.StitchRows.{lengths}
use Rattle.stitch_faults.specs.Matching.{Matched, base_refusal}
use Rattle.settings.specs.Settings.{Held}
use Rattle.named_entries.specs.NamedStitch.{Holding, NamedStitch}

-- ---- what a case says

pub data Said : Type 0 where
  -- the candidates of an outline, over its cuts and splits: start and offset of each
  candidates_are : cuts.Given → (splits : List Float) → (numbers : List ℕ) → Said
  -- a view over an outline has so many vertices
  vertices_are : (outline : List Float) → (vc : ℕ) → View → ℕ → Said
  -- what pruning gives: so many slices, and where their classes start
  slices_are : Given → Pruned → Said
  -- what a stitch gives: its rounds, where its loops end, their vertices; and the room that it needs, in vertices
  loops_are : stitch.Given → (rounds : ℕ) → (ends : List ℕ) → (loops : List Float) → (room : ℕ) → Said
  -- a stitch with room for so many vertices is refused with a number
  refused_with : stitch.Given → (room number : ℕ) → Said
  -- two points of an outline's segment do not agree, but are in each other's box
  apart_in_box : (outline : List Float) → (vc segment : ℕ) → Vertex → Vertex → Tolerance → Said

-- a case: its number in document 01, and what it says
pub record Case : Type 0 where
  pub number : ℕ
  pub says : List Said

abbrev t# : ℕ → List Said → Case
t# n says = record { number = n; says = says }

-- ---- of the definitions

abbrev pub Holds : Said → Type 0
Holds (candidates_are g splits numbers) =
    (cand_numbers (along_cuts g splits) ≡ numbers)
    × (candidates_refusal g splits (record { at = 2 * cuts.cut_count g; cand = 6 * cuts.cut_count g; probe = 6 * cuts.cut_count g; edition = cuts.cut_count g }) ≡ 0)
Holds (vertices_are o vc v n) = (vertex_count (view_data v) ≡ n) × (view_vertex_refusal o vc v ≡ 0)
Holds (slices_are c p) = (pruned_of c ≡ p) × (prune_refusal c (code_width * need_of c.call) (shape_width * need_of c.call) (need_of c.call) ≡ 0)
Holds (loops_are g rounds ends loops room) =
    (round_count g ≡ rounds)
    × ((stitch.loop_count g ≡ length ends) × (end_items g ≡ ends))
    × (room_items g ≡ loops)
    × (stitch.need_of g.slice_at g.slices ≡ room)
    × (base_refusal g (lengths (3 * room) g.slices g.slices g.slices g.slices) ≡ 0)
Holds (refused_with g room number) = (base_refusal g (lengths (3 * room) g.slices g.slices g.slices g.slices) ≡ number) × (0 < number)
Holds (apart_in_box o vc i a b t) =
    (points_agree t (pos_of a) (pos_of b) ≡ false) × (points_agree t (pos_of b) (pos_of a) ≡ false) × (in_box t (pos_of a) (pos_of b) ≡ true) × (in_box t (pos_of b) (pos_of a) ≡ true)
    × (single_refusal o vc i a (pos_of b) t ≡ 0)

-- ---- of the entries, through their contracts: whatever they answer, with lists lent that are as long as the need, and with any editions that match

pub record CandRooms (g : cuts.Given) (l : Lent) : Type 0 where
  pub at : length l.at ≡ 2 * cuts.cut_count g
  pub cand : length l.cand ≡ 6 * cuts.cut_count g
  pub probe : length l.probe ≡ 6 * cuts.cut_count g
  pub edition : length l.edition ≡ cuts.cut_count g

pub record SliceRooms (c : Given) (l : slice.Rooms) : Type 0 where
  pub at : length l.at ≡ code_width * need_of c.call
  pub shape : length l.shape ≡ shape_width * need_of c.call
  pub edition : length l.edition ≡ need_of c.call

-- room for so many vertices, and one entry per slice in the other lists
pub record LoopRooms (g : stitch.Given) (vertices : ℕ) (x : Lists) : Type 0 where
  pub room : length x.room ≡ 3 * vertices
  pub ends : length x.ends ≡ g.slices
  pub chain : length x.chain ≡ g.slices
  pub chain_ends : length x.chain_ends ≡ g.slices
  pub chain_how : length x.chain_how ≡ g.slices

pub record Untouched (x left : Lists) : Type 0 where
  pub room : left.room ≡ x.room
  pub ends : left.ends ≡ x.ends
  pub chain : left.chain ≡ x.chain
  pub chain_ends : left.chain_ends ≡ x.chain_ends
  pub chain_how : left.chain_how ≡ x.chain_how

abbrev pub Answers : Said → Type 0
-- `mask_candidates`
Answers (candidates_are g splits numbers) =
    (edition : ℕ) (l : Lent) (r : CountAnswer) (left : Lent) → CandRooms g l → Sliced g splits edition l r left
    → (r.refusal ≡ 0) × (take (2 * r.count) left.at ≡ numbers)
-- `mask_view_vertex`: the last vertex is found, and none after it
Answers (vertices_are o vc v n) = ((view_vertex_answer o vc v (n - 1)).found ≡ 1) × ((view_vertex_answer o vc v n).found ≡ 0)
-- `mask_prune`
Answers (slices_are c p) = (l : slice.Rooms) (r : PruneAnswer) (left : slice.Rooms) → SliceRooms c l → PruneLeft c l r left → r ≡ prune_given p
-- `mask_stitch`, whatever record holds a setting with the tolerances
Answers (loops_are g rounds ends loops room) =
    (h : Held) (k : ℕ) (e : Editions) (x : Lists) (r : StitchAnswer) (left : Lists) → Holding h k g.tolerance → Matched g e → LoopRooms g room x → NamedStitch h k g e x r left
    → (r.refusal ≡ 0) × (r.rounds ≡ rounds) × (r.loops ≡ length ends) × (take (length ends) left.ends ≡ ends) × (take (length loops) left.room ≡ loops)
Answers (refused_with g room number) =
    (h : Held) (k : ℕ) (e : Editions) (x : Lists) (r : StitchAnswer) (left : Lists) → Holding h k g.tolerance → Matched g e → LoopRooms g room x → NamedStitch h k g e x r left
    → (r ≡ stitch_refused number) × Untouched x left
-- `mask_create_on_single_segment`: there is a view between the two
Answers (apart_in_box o vc i a b t) = (single_answer o vc i a (pos_of b) t).found ≡ 1

-- ---- "A is (0,0) (4,0) (4,4) (0,4); B is (2,2) (6,2) (6,6) (2,6); bulges 0, t = 1/1024"

abbrev pub floats : List ℕ → List Float
floats l = map (λ n. of_int binary64 (pos n)) l

abbrev pub t : Tolerance
t = alike (fin false 1 (negsuc 9))

abbrev pub a : List Float
a = floats (0 ∷ 0 ∷ 0 ∷ 4 ∷ 0 ∷ 0 ∷ 4 ∷ 4 ∷ 0 ∷ 0 ∷ 4 ∷ 0 ∷ [])

abbrev pub b : List Float
b = floats (2 ∷ 2 ∷ 0 ∷ 6 ∷ 2 ∷ 0 ∷ 6 ∷ 6 ∷ 0 ∷ 2 ∷ 6 ∷ 0 ∷ [])

-- "intersections (4,2) on segments 1 and 0, then (2,4) on 2 and 3": the cuts of A, outline 1, and of B, outline 2
abbrev pub cuts_of : List Float → ℕ → cuts.Given
cuts_of outline source = cuts.given outline (1 ∷ 0 ∷ 2 ∷ 3 ∷ []) (floats (4 ∷ 2 ∷ 2 ∷ 4 ∷ [])) [] [] (cuts.case_of 4 source 2 0 t)

-- a split of a straight segment: the part from (x, y) on, and the cut (u, v) twice
abbrev split_at : ℕ → ℕ → ℕ → ℕ → List Float
split_at x y u v = floats (x ∷ y ∷ 0 ∷ u ∷ v ∷ 0 ∷ u ∷ v ∷ 0 ∷ [])

-- ---- from the candidates on: A's first is inside B, B's second inside A; the outlines run in the same direction and do not overlap

-- start, end bulge and end of a straight candidate
abbrev from_to : ℕ → ℕ → ℕ → ℕ → List Float
from_to x y u v = floats (x ∷ y ∷ 0 ∷ 0 ∷ u ∷ v ∷ [])

abbrev pub pruned_by : ℕ → Given
pruned_by mode =
    given (call_of mode 0 4 4 2 2 0) (cands (1 ∷ 1 ∷ 2 ∷ 3 ∷ []) (from_to 4 2 2 4 ++ from_to 2 4 4 2) (0 ∷ 0 ∷ []) (1 ∷ 0 ∷ []))
    (cands (0 ∷ 3 ∷ 3 ∷ 1 ∷ []) (from_to 4 2 2 4 ++ from_to 2 4 4 2) (0 ∷ 0 ∷ []) (0 ∷ 1 ∷ [])) (overlaps [] [] [])

abbrev starts : ℕ → ℕ → ℕ → Starts
starts i j k = record { pline2 = i; pline1_overlapping = j; pline2_overlapping = k }

abbrev two_from : ℕ → ℕ → ℕ → Pruned
two_from i j k = record { slices = 2; starts = starts i j k }

-- the stitch of what pruning gives
abbrev pub stitch_of : ℕ → ℕ → stitch.Given
stitch_of mode selector = stitch.given a b (slice_codes (pruned_by mode)) (slice_shapes (pruned_by mode)) (stitch.plan_of 4 4 2 (starts 1 2 2) selector t)

abbrev pub nothing : stitch.Given
nothing = stitch.given a b [] [] (stitch.plan_of 4 4 0 (starts 0 0 0) 0 t)

-- a corner of a loop, and one from an inverted slice, whose bulge is −0
abbrev at : ℕ → ℕ → List Float
at x y = floats (x ∷ y ∷ 0 ∷ [])

abbrev turned : ℕ → ℕ → List Float
turned x y = floats (x ∷ y ∷ []) ++ (from_bits binary64 0x8000_0000_0000_0000 ∷ [])

-- ---- the triangle (0,0) (4,0) (0,4) with one cut at (x,0) of segment 0

abbrev pub triangle : List Float
triangle = floats (0 ∷ 0 ∷ 0 ∷ 4 ∷ 0 ∷ 0 ∷ 0 ∷ 4 ∷ 0 ∷ [])

abbrev pub one_cut : ℕ → cuts.Given
one_cut x = cuts.given triangle (0 ∷ 0 ∷ []) (floats (x ∷ 0 ∷ [])) [] [] (cuts.case_of 3 1 1 0 t)

-- its candidate's view: from the cut round to the cut
abbrev round_from : ℕ → ℕ → View
round_from x offset =
    let c : Float = of_int binary64 (pos x) in
    record {
      start_index = 0;
      end_index_offset = offset;
      updated_start = record { x = c; y = +0; bulge = +0 };
      updated_end_bulge = +0;
      end_point = record { x = c; y = +0 };
      inverted_direction = 0;
    }

-- ---- "with t = 0.5, x = 1 and x = 1.5": on segment 0 of A, and a slice of A from 1.5 round to 1, as one chain

abbrev half : Tolerance
half = alike (fin false 1 (negsuc 0))

abbrev one_half : Float
one_half = fin false 3 (negsuc 0)

abbrev on : Float → Vertex
on x = record { x = x; y = +0; bulge = +0 }

abbrev pub over_the_gap : stitch.Given
over_the_gap =
    stitch.given a b (1 ∷ 0 ∷ 0 ∷ 4 ∷ []) (one_half ∷ +0 ∷ +0 ∷ +0 ∷ of_int binary64 (pos 1) ∷ +0 ∷ []) (stitch.plan_of 4 4 1 (starts 1 1 1) 0 half)

-- ---- the list
abbrev pub sheet : List Case
sheet =
    -- "T1 A's candidates: start 1 offset 1; start 2 offset 3."
    t# 1 (candidates_are (cuts_of a 1) (split_at 4 0 4 2 ++ split_at 4 4 2 4) (1 ∷ 1 ∷ 2 ∷ 3 ∷ []) ∷ [])
    -- "T2 B's: start 0 offset 3; start 3 offset 1."
    ∷ t# 2 (candidates_are (cuts_of b 2) (split_at 2 2 4 2 ++ split_at 2 6 2 4) (0 ∷ 3 ∷ 3 ∷ 1 ∷ []) ∷ [])
    -- "T3 Union: starts 1, 2, 2; 2 rounds; one loop (2,4) (0,4) (0,0) (4,0) (4,2) (6,2) (6,6) (2,6); room 9."
    ∷ t# 3
    (slices_are (pruned_by 0) (two_from 1 2 2)
    ∷ loops_are (stitch_of 0 0) 2 (8 ∷ []) (at 2 4 ++ at 0 4 ++ at 0 0 ++ at 4 0 ++ at 4 2 ++ at 6 2 ++ at 6 6 ++ at 2 6) 9 ∷ [])
    -- "T4 Intersection: loop (4,2) (4,4) (2,4) (2,2); room 5."
    ∷ t# 4 (slices_are (pruned_by 1) (two_from 1 2 2) ∷ loops_are (stitch_of 1 0) 2 (4 ∷ []) (at 4 2 ++ at 4 4 ++ at 2 4 ++ at 2 2) 5 ∷ [])
    -- "T5 FirstMinusSecond, NotXor: 6 vertices from (4,2), (4,0); room 7."
    ∷ t# 5
    (slices_are (pruned_by 2) (two_from 1 2 2)
    ∷ loops_are (stitch_of 2 1) 2 (6 ∷ []) (turned 4 2 ++ turned 4 0 ++ turned 0 0 ++ turned 0 4 ++ at 2 4 ++ at 2 2) 7 ∷ [])
    -- "T6 A triangle with one cut on vertex 0: offset 2."
    ∷ t# 6 (candidates_are (one_cut 0) (split_at 0 0 0 0) (0 ∷ 2 ∷ []) ∷ [])
    -- "T7 The cut inside segment 0: offset 3, 5 view vertices."
    ∷ t# 7 (candidates_are (one_cut 1) (split_at 0 0 1 0) (0 ∷ 3 ∷ []) ∷ vertices_are triangle 3 (round_from 1 3) 5 ∷ [])
    -- "T8 No slices: 0 rounds, 0 loops, empty room accepted."
    ∷ t# 8 (loops_are nothing 0 [] [] 0 ∷ [])
    -- "T9 Union with room 8: refusal 9."
    ∷ t# 9 (refused_with (stitch_of 0 0) 8 9 ∷ [])
    -- "T10 The 0.5 example above": "with t = 0.5, x = 1 and x = 1.5 do not agree but are in each other's box", so a chain is joined over the gap
    ∷ t# 10
    (apart_in_box a 4 0 (on (of_int binary64 (pos 1))) (on one_half) half
    ∷ loops_are over_the_gap 1 (5 ∷ []) ((one_half ∷ +0 ∷ +0 ∷ []) ++ at 4 0 ++ at 4 4 ++ at 0 4 ++ at 0 0) 6 ∷ [])
    ∷ []
