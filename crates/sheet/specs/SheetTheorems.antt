-- The sheet: every case holds of the definitions, and the entries answer so.
use Rattle.std.specs.Prelude.{◌≡◌, ℕ, zero, suc, ◌-◌, ◌*◌, ◌<◌, List, length, take, refl, Float, Option, Some, None}
use Rattle.std.proofs.Common.{arith, sym, ap, subst, ◌∙◌}
use mathlib.Core.List.{flat_map}
use Rattle.std.specs.Float.Ieee.{of_int, of_bits, neg, add, sub, mul, lt, le}
use Rattle.basis.specs.Room.{room_of}
use Rattle.basis.specs.RoomLaws.{room-front}
use Rattle.basis.specs.Number.{+0, abs_f, agree, in_span, within, tolerable_on, tolerable}
use Rattle.basis.specs.declared.number.Tolerance.{Tolerance}
use Rattle.basis.specs.All.{all_of, All, all-imp}
use Rattle.basis.specs.Each.{each_to, places_below, places_at_most}
use Rattle.basis.specs.RefuseLaws.{answer-accepted}
use Rattle.basis.specs.Refuse.{answer, first_of, length_fault, size_fault, source_fault}
use Rattle.outline.specs.declared.point.Vertex.{Vertex}
use Rattle.outline.specs.Points.{pos_of, points_agree, in_box, dist_squared}
use Rattle.outline.specs.Outline.{vertex_at, wrap, outline_at, point_at}
use Rattle.view.specs.View.{forward_at, turned_at, inverted_at, vertex_of, get_vertex}
use Rattle.view.specs.ViewTheorems.{found_below, none-beyond}
use Rattle.view_entries.specs.declared.answer.VertexAnswer.{VertexAnswer}
use Rattle.view_entries.specs.declared.answer.ViewAnswer.{ViewAnswer}
use Rattle.view_entries.specs.declared.input.View.{View}
use Rattle.view_entries.specs.Inputs.{view_data}
use Rattle.view_entries.specs.Answers.{vertex_refused, vertex_found, view_refused, segment_made, view_made}
use Rattle.view_entries.specs.ViewVertex.{view_vertex_refusal, view_vertex_answer}
use Rattle.view_entries.specs.SingleEntry.{single_refusal, single_answer}
use Rattle.view.specs.Create.{near_vertex, bulge_before, create_view, single_view}
use Rattle.cut.specs.Cuts as cuts
use Rattle.cut.specs.Cuts.{which_of, hit_cut, moved, marked_end, lap_cut, cut_of}
use Rattle.cut.specs.Order.{distance, earlier, insert, ordered, order_of, cut_numbers, cut_points}
use Rattle.cut_runs.specs.Sooner.{sooner}
use Rattle.candidate.specs.Candidates as slices
use Rattle.candidate_write.specs.ItemLaws.{flat-length, wide-numbers}
use Rattle.candidate.specs.Candidates.{same_next, first_cut, traverse_from, traverse_of, slice_of, piece_of, walk_of, walked, walk_at, candidate_at, candidates_to}
use Rattle.cut_entries.specs.CutRows.{list_rows, value_rows, view_start_fault, view_offset_fault, index_rows}
use Rattle.basis.specs.declared.answer.CountAnswer.{CountAnswer}
use Rattle.basis.specs.Answers.{count_refused, counted}
use Rattle.candidate_lists.specs.Lists.{along_cuts}
use Rattle.candidate_entries.specs.Candidates.{later_rows, candidates_refusal, cand_number}
use Rattle.select.specs.Select.{class_of, preference_of, suits_of, first_that, or_else, choose, choices_of, pick_of, select_of}
use Rattle.prune.specs.declared.counts.Pruned.{Pruned}
use Rattle.prune.specs.Prune as prune
use Rattle.prune.specs.Prune.{cand_codes, lap_codes, lap_inverted, kept_to, laps_to, wanted_of, turned_of, first_part, second_part, parts_of, slices_of, pruned_at, pruned_of}
use Rattle.slice.specs.Faults.{source_known, start_inside, offset_inside, each_slice}
use Rattle.prune_entries.specs.Answers.{prune_refused, prune_given}
use Rattle.prune_entries.specs.PruneEntry.{input_rows, prune_refusal, prune_number}
use Rattle.stitch_vertices.specs.Vertices.{add_vertex, add_first, add_view, drop_last}
use Rattle.stitch_run.specs.Run as run
use Rattle.stitch_run.specs.Run.{passing, free, candidate, taken, answered, asked, next_of, round_of, opened, onward, ended}
use Rattle.stitch_run.specs.Run.{walk, chain_from, added, begun, turn, turns, rounds_of}
use Rattle.stitch_run.specs.Stitch as stitch
use Rattle.stitch_run.specs.Stitch.{slice_outline, slice_count, slice_vertex, start_point_of, add_slice}
use Rattle.slice.specs.Slice.{codes_at, shape_at, slice_view}
use Rattle.stitch_run.specs.Stitch.{offers_to, rules_of, run_of, loop_of, loops_of, how_of, totals, round_count, loop_count, room_items}
use Rattle.stitch_run.specs.Stitch.{end_items, sum_below, weight_at, need_for}
use Rattle.stitch.specs.Lent.{Lists}
use Rattle.stitch_faults.specs.StitchRows.{starts_fault, lengths}
use Rattle.stitch_entries.specs.declared.answer.StitchAnswer.{StitchAnswer}
use Rattle.stitch_entries.specs.Answers.{stitch_refused, stitch_given}
use Rattle.slice.specs.Editions.{Editions}
use Rattle.stitch_entries.specs.StitchEntry.{lengths_of, stitch_number}
use Rattle.stitch_faults.specs.Matching.{Matched, base_refusal, base-number}
use Rattle.named_entries.specs.NamedTheorems.{by-tolerances}
use Rattle.sheet.specs.Sheet.{Said, candidates_are, vertices_are, slices_are, loops_are, refused_with, apart_in_box, LoopRooms, Case, Holds, Answers, sheet}

-- ---- what the computation opens, under one name each

numbers : Unit {0}
unfolding of_int of_bits neg add sub mul lt le abs_f agree in_span within tolerable tolerable_on all_of points_agree in_box each_to places_below places_at_most
numbers = tt

views : Unit {0}
unfolding numbers vertex_at wrap outline_at forward_at turned_at inverted_at vertex_of near_vertex bulge_before create_view single_view
views = tt

cutting : Unit {0}
unfolding views point_at which_of hit_cut moved marked_end lap_cut cut_of dist_squared distance sooner earlier insert ordered order_of cut_numbers cut_points flat_map
cutting = tt

slicing : Unit {0}
unfolding cutting same_next slices.first_from first_cut traverse_from traverse_of slice_of piece_of walk_of walked walk_at candidate_at candidates_to slices.candidates_of
slicing = tt

pruning : Unit {0}
unfolding numbers flat_map cand_codes lap_codes lap_inverted kept_to laps_to wanted_of turned_of first_part second_part parts_of slices_of pruned_at pruned_of
pruning = tt

rounds : Unit {0}
unfolding passing free candidate run.candidates_of taken answered asked next_of round_of opened onward ended walk chain_from added begun turn turns run.run class_of preference_of suits_of first_that or_else choose choices_of pick_of select_of
rounds = tt

stitching : Unit {0}
unfolding views pruning rounds add_vertex add_first add_view drop_last codes_at shape_at slice_view slice_outline slice_count slice_vertex start_point_of add_slice offers_to rules_of run_of loop_of loops_of how_of totals round_count loop_count room_items end_items rounds_of sum_below weight_at need_for stitch.need_of run.slices_of run.order_of
stitching = tt

refusals : Unit {0}
unfolding first_of length_fault size_fault source_fault list_rows value_rows view_start_fault view_offset_fault index_rows later_rows candidates_refusal input_rows prune_refusal each_slice source_known start_inside offset_inside starts_fault base_refusal view_vertex_refusal single_refusal
refusals = tt

-- ---- the theorem of the definitions
pub sheet-holds : All (λ (c : Case). All Holds c.says) sheet
unfolding slicing pruning stitching refusals
sheet-holds = (
  ((refl, refl), tt),
  (
    ((refl, refl), tt),
    (
      ((refl, refl), ((refl, (refl, refl), refl, refl, refl), tt)),
      (
        ((refl, refl), ((refl, (refl, refl), refl, refl, refl), tt)),
        (
          ((refl, refl), ((refl, (refl, refl), refl, refl, refl), tt)),
          (
            ((refl, refl), tt),
            (
              ((refl, refl), ((refl, refl), tt)),
              (
                ((refl, (refl, refl), refl, refl, refl), tt),
                (
                  ((refl, omega arith), tt),
                  (
                    ((refl, refl, refl, refl, refl), ((refl, (refl, refl), refl, refl, refl), tt)),
                    tt,
                  ),
                ),
              ),
            ),
          ),
        ),
      ),
    ),
  ),
)

-- ---- of the entries: what holds of the definitions, their contracts carry over
-- the items of a room stand in front
in-front : {A : Type 0} (z : A) (w need : ℕ) (items wanted entry l : List A) → l ≡ room_of z w need items entry → items ≡ wanted → take (length wanted) l ≡ wanted
unfolding room_of
in-front {A = A} z w need items wanted entry l e h = subst (λ (k : List A). take (length k) l ≡ k) h (room-front z w need items entry l (length items) e refl)

candidates-answer : (g : cuts.Given) (splits : List Float) (wanted : List ℕ) → Holds (candidates_are g splits wanted) → Answers (candidates_are g splits wanted)
unfolding slices.candidates_of
candidates-answer g splits wanted h edition l r left rooms holds =
    let along = along_cuts g splits in
    let none : cand_number g splits l ≡ 0 = rw (rooms.at, rooms.cand, rooms.probe, rooms.edition) h.1 in
    let told : r ≡ counted (slices.cand_count along) = answer-accepted count_refused (cand_number g splits l) _ r holds.answers none in
    let at = answer-accepted (λ _. l.at) (cand_number g splits l) _ left.at holds.at none in
    let n : slices.cand_count along ≡ r.count = ap (λ (x : CountAnswer). x.count) (sym told) in
    let size : length (slices.cand_numbers along) ≡ 2 * r.count =
    flat-length 2 slices.numbers_of wide-numbers along along.count ∙ ap (λ (k : ℕ). 2 * k) n in
    (ap (λ (x : CountAnswer). x.refusal) told, room-front 0 2 (cuts.cut_count g) (slices.cand_numbers along) l.at left.at (2 * r.count) at size ∙ h.0)

vertices-answer : (o : List Float) (vc : ℕ) (v : View) (n : ℕ) → Holds (vertices_are o vc v n) → Answers (vertices_are o vc v n)
unfolding vertex_found
vertices-answer o vc v n h =
    let w = view_data v in
    let e = h.0 in
    (found-is (n - 1) (Some (vertex_of o vc w (n - 1))) (found_below o vc w (n - 1) (omega arith)), found-is n None (none-beyond o vc w n (omega arith)))
  where
    found-is : (k : ℕ) (f : Option Vertex) → get_vertex o vc (view_data v) k ≡ f → (view_vertex_answer o vc v k).found ≡ (vertex_found f).found
    found-is k f e =
        ap (λ (x : VertexAnswer). x.found)
        (answer-accepted vertex_refused (view_vertex_refusal o vc v) _ (view_vertex_answer o vc v k) refl h.1 ∙ ap vertex_found e)

slices-answer : (c : prune.Given) (p : Pruned) → Holds (slices_are c p) → Answers (slices_are c p)
slices-answer c p h l r left rooms holds =
    let none : prune_number c l ≡ 0 = rw (rooms.at, rooms.shape, rooms.edition) h.1 in
    answer-accepted prune_refused (prune_number c l) _ r holds.answers none ∙ ap prune_given h.0

module _ (g : stitch.Given) (room : ℕ) (e : Editions) (matched : Matched g e) (x : Lists) (rooms : LoopRooms g room x) where
  number_is : (n : ℕ) → base_refusal g (lengths (3 * room) g.slices g.slices g.slices g.slices) ≡ n → stitch_number g e x ≡ n
  number_is n h = base-number g e (lengths_of x) matched ∙ rw (rooms.room, rooms.ends, rooms.chain, rooms.chain_ends, rooms.chain_how) h

loops-answer : (g : stitch.Given) (n : ℕ) (ends : List ℕ) (loops : List Float) (room : ℕ) → Holds (loops_are g n ends loops room) → Answers (loops_are g n ends loops room)
loops-answer g n ends loops room h kept edition e x r left there matched rooms named =
    let k = stitch_number g e x in
    let holds = by-tolerances kept edition there.sized there.there g e x r left named in
    let none : stitch_number g e x ≡ 0 = number_is g room e matched x rooms 0 h.4 in
    let told : r ≡ stitch_given (round_count g) (stitch.loop_count g) (stitch.chain_count g) = answer-accepted stitch_refused k _ r holds.answers none in (
      ap (λ (a : StitchAnswer). a.refusal) told,
      ap (λ (a : StitchAnswer). a.rounds) told ∙ h.0,
      ap (λ (a : StitchAnswer). a.loops) told ∙ h.1.0,
      in-front 0 1 g.slices (end_items g) ends x.ends left.ends (answer-accepted (λ _. x.ends) k _ left.ends holds.ends none) h.1.1,
      in-front +0 3 (stitch.need_of g.slice_at g.slices) (room_items g) loops x.room left.room (answer-accepted (λ _. x.room) k _ left.room holds.room none) h.2,
    )

-- a number above 0 refuses
refuses : {A : Type 0} (f : ℕ → A) (n m : ℕ) (a r : A) → r ≡ answer f n a → n ≡ m → 0 < m → r ≡ f m
unfolding answer
refuses f n zero a r e h some = absurd (omega arith)
refuses f n (suc m) a r e h some = e ∙ ap (λ (k : ℕ). answer f k a) h

refused-answer : (g : stitch.Given) (room number : ℕ) → Holds (refused_with g room number) → Answers (refused_with g room number)
refused-answer g room number h kept edition e x r left there matched rooms named =
    let k = stitch_number g e x in
    let holds = by-tolerances kept edition there.sized there.there g e x r left named in
    let is : stitch_number g e x ≡ number = number_is g room e matched x rooms number h.0 in (
      refuses stitch_refused k number _ r holds.answers is h.1,
      record {
        room = refuses (λ _. x.room) k number _ left.room holds.room is h.1;
        ends = refuses (λ _. x.ends) k number _ left.ends holds.ends is h.1;
        chain = refuses (λ _. x.chain) k number _ left.chain holds.chain is h.1;
        chain_ends = refuses (λ _. x.chain_ends) k number _ left.chain_ends holds.chain_ends is h.1;
        chain_how = refuses (λ _. x.chain_how) k number _ left.chain_how holds.chain_how is h.1;
      },
    )

apart-answer : (o : List Float) (vc i : ℕ) (a b : Vertex) (t : Tolerance) → Holds (apart_in_box o vc i a b t) → Answers (apart_in_box o vc i a b t)
unfolding single_view segment_made view_made
apart-answer o vc i a b t h =
    ap (λ (x : ViewAnswer). x.found) (answer-accepted view_refused (single_refusal o vc i a (pos_of b) t) _ (single_answer o vc i a (pos_of b) t) refl h.4) ∙ made
  where
    made : (segment_made (single_view i a (pos_of b) t)).found ≡ 1
    made = rw h.0

answers_of : (s : Said) → Holds s → Answers s
answers_of (candidates_are g splits wanted) h = candidates-answer g splits wanted h
answers_of (vertices_are o vc v n) h = vertices-answer o vc v n h
answers_of (slices_are c p) h = slices-answer c p h
answers_of (loops_are g n ends loops room) h = loops-answer g n ends loops room h
answers_of (refused_with g room number) h = refused-answer g room number h
answers_of (apart_in_box o vc i a b t) h = apart-answer o vc i a b t h

-- ---- the theorem of the entries
pub sheet-answers : All (λ (c : Case). All Answers c.says) sheet
sheet-answers = all-imp (λ (c : Case). All Holds c.says) (λ (c : Case). All Answers c.says) (λ c h. all-imp Holds Answers answers_of c.says h) sheet sheet-holds
