-- Request K13, from the contract of `mask_stitch`: whatever it answers and leaves in the lent lists, where it accepts.
use Rattle.std.specs.Prelude.{ℕ, ◌-◌, ◌*◌, ◌≤◌, true, ◌≡◌, refl, take, replicate}
use Rattle.std.proofs.Math.Path.{sym, ap}
use Rattle.std.proofs.Common.{subst, ◌∙◌}
use mathlib.Core.List.{List, [], ◌∷◌, ◌++◌, map, flat_map}
use Rattle.std.proofs.Math.ListN.{length, length-map}
use Rattle.std.specs.Float.Ieee.{of_bits, lt, le}
use Rattle.std.proofs.lemmas.Bool.{not-false}
use Rattle.basis.specs.All.{All, all_of}
use Rattle.basis.specs.Each.{each_to, places_at_most}
use Rattle.basis.specs.Number.{+0, abs_f, within, tolerable_on, tolerable}
use Rattle.basis.specs.Refuse.{first_of, answer, length_fault, size_fault, source_fault}
use Rattle.basis.specs.RefuseLaws.{Clear, clear, clear-left, clear-right, answer-zero, answer-accepted, length-ok, size_ok}
use Rattle.basis.specs.Room.{room_of}
use Rattle.basis.specs.RoomLaws.{room-front}
use Rattle.outline.specs.declared.point.Vertex.{Vertex}
use Rattle.outline.specs.Points.{vertex_numbers}
use Rattle.stitch_run.specs.Stitch.{Given, run_of, loops_of, totals, loop_count, round_count, chain_count, room_items, end_items, chain_items, chain_end_items, how_items, sum_below, weight_at, need_for, need_of}
use Rattle.stitch_run.specs.Doubles.{Doubles}
use Rattle.stitch_run.specs.Demand3.{sum_over}
use Rattle.stitch_run.specs.ReportLaws.{flat-loops, totals-length}
use Rattle.join.specs.Join.{two_to_minus, AllSmall, Behind}
use Rattle.join.specs.BoxLaws.{looked}
use Rattle.join.specs.AxisLaws.{tolerances-in}
use Rattle.join.specs.JoinTheorems.{Ranged, loops-within, loops-near, loops-sized, ranged-small}
use Rattle.join.specs.JoinExamples.{tight, tight-doubles, tight-loops, first-least}
use Rattle.stitch.specs.Lent.{Lists, lists}
use Rattle.stitch_entries.specs.declared.answer.StitchAnswer.{StitchAnswer}
use Rattle.stitch_entries.specs.Answers.{stitch_refused, stitch_given}
use Rattle.slice.specs.Slice.{codes_at}
use Rattle.slice.specs.Editions.{Editions, editions, edition_same, edition_fault, edition_list_rows}
use Rattle.slice.specs.Faults.{source_known, start_inside, offset_inside, each_slice}
use Rattle.stitch_faults.specs.StitchRows.{starts_fault}
use Rattle.stitch_entries.specs.StitchEntry.{lengths_of, stitch_number, StitchLeft}
use Rattle.stitch_faults.specs.StitchTable.{list_part, code_part, number_part, index_part, shape_rows, input_rows, edition_part, room_part, stitch_refusal}
use Rattle.settings.specs.Settings.{Held, held, count_of, setting_at, known, asked_of}
use Rattle.named_entries.specs.NamedStitch.{tolerance_in, NamedStitch}
use Rattle.named_entries.specs.NamedTheorems.{stitch-as-before, accepted-stitch}

-- What a call returned: its loops, which the answer counts, whose vertices and ends are in the lent lists; and behind each of them a chain of the run.
pub record Returned (excess : ℕ) (g : Given) (r : StitchAnswer) (left : Lists) : Type 0 where
  pub loops : List (List Vertex)
  pub count : r.loops ≡ length loops
  pub vertices : take (3 * sum_over length loops) left.room ≡ flat_map (λ vs. flat_map vertex_numbers vs) loops
  pub ends : take r.loops left.ends ≡ totals 0 (map length loops)
  pub behind : All (Behind g excess) loops

-- ---- what acceptance tells of the numbers

module _ (g : Given) (doubles : Doubles g) where
  ranged : Clear (shape_rows g) → Ranged 30 g
  ranged ok =
      let rest = number_part g ++ index_part g in
      let s : Clear (code_part g ++ rest) = clear-right (list_part g) (code_part g ++ rest) ok in
      let a : Clear (list_part g) = clear-left (list_part g) (code_part g ++ rest) ok in
      let b : Clear (code_part g) = clear-left (code_part g) rest s in
      let c : Clear (number_part g) = clear-left (number_part g) (index_part g) (clear-right (code_part g) rest s) in
      let size1 = size_ok g.vc1 b.0 in
      let size2 = size_ok g.vc2 b.1.0 in
      record {
        numbers =
            record {
              first =
                  record {
                    size = record { triples = length-ok 3 (length g.outline1) g.vc1 a.0; least = size1.0; most = size1.1 };
                    numbers = looked g.outline1 doubles.first (not-false _ c.1.0);
                  };
              second =
                  record {
                    size = record { triples = length-ok 3 (length g.outline2) g.vc2 a.1.0; least = size2.0; most = size2.1 };
                    numbers = looked g.outline2 doubles.second (not-false _ c.1.1.0);
                  };
              sixes = length-ok 6 (length g.slice) g.slices a.1.1.1.0;
              numbers = looked g.slice doubles.numbers (not-false _ c.1.1.1.0);
            };
        tolerances = tolerances-in g doubles (not-false _ c.0);
      }

-- ---- a stitch by tolerances

module _ (g : Given) (e : Editions) (x : Lists) (r : StitchAnswer) (left : Lists) (doubles : Doubles g) (holds : StitchLeft g e x r left) (accepted : r.refusal ≡ 0) where
  number-zero : stitch_number g e x ≡ 0
  number-zero = answer-zero stitch_refused (λ a. a.refusal) (stitch_number g e x) _ r (λ k. refl) holds.answers accepted

  stitch-ranged : Ranged 30 g
  unfolding stitch_refusal
  stitch-ranged =
      let inputs = input_rows g (length e.slices) in
      let later = edition_part g e ++ room_part g (lengths_of x) in
      ranged g doubles
      (clear-right (edition_list_rows (length e.slices) g.slices) (shape_rows g) (clear-left inputs later (clear (inputs ++ later) tt number-zero)))

  returned : (excess : ℕ) → All (Behind g excess) (loops_of (run_of g)) → Returned excess g r left
  unfolding loop_count room_items end_items
  returned excess behind =
      let n : r.loops ≡ length (loops_of (run_of g)) = ap (λ (a : StitchAnswer). a.loops) (answer-accepted stitch_refused (stitch_number g e x) _ r holds.answers number-zero) in
      record {
        loops = loops_of (run_of g);
        count = n;
        vertices =
            room-front +0 3 (need_of g.slice_at g.slices) (room_items g) x.room left.room (3 * sum_over length (loops_of (run_of g)))
            (answer-accepted (λ _. x.room) (stitch_number g e x) _ left.room holds.room number-zero) (flat-loops (loops_of (run_of g)));
        ends =
            room-front 0 1 g.slices (end_items g) x.ends left.ends r.loops
            (answer-accepted (λ _. x.ends) (stitch_number g e x) _ left.ends holds.ends number-zero)
            (totals-length 0 (map length (loops_of (run_of g))) ∙ length-map (loops_of (run_of g)) length ∙ sym n);
        behind = behind;
      }

  within-two-to-minus-23 : Returned (two_to_minus 23) g r left
  within-two-to-minus-23 = returned (two_to_minus 23) (loops-within g stitch-ranged)

  within-two-to-minus-24 : Returned (two_to_minus 24) g r left
  within-two-to-minus-24 = returned (two_to_minus 24) (loops-near g stitch-ranged)

  within-size : (n : ℕ) → n ≤ 30 → AllSmall n g → Returned (two_to_minus (54 - n)) g r left
  within-size n few small = returned (two_to_minus (54 - n)) (loops-sized n few g (ranged-small n g stitch-ranged small))

-- ---- the theorem, of `mask_stitch`, which names a setting

module _ (h : Held) (k : ℕ) (g : Given) (e : Editions) (x : Lists) (r : StitchAnswer) (left : Lists) (doubles : Doubles g) (holds : NamedStitch h k g e x r left) (accepted : r.refusal ≡ 0) where
  stitched : StitchLeft g e x r left
  stitched = accepted-stitch h k g e x r left holds accepted

  -- "at every join and at the closing, the chosen slice's start differs from the vertex before it [..] by at most the axis tolerance plus 2^-23, on each axis"
  pub joins-within : Returned (two_to_minus 23) g r left
  joins-within = within-two-to-minus-23 g e x r left doubles stitched accepted

  -- The sharper figure, half of that.
  pub joins-near : Returned (two_to_minus 24) g r left
  joins-near = within-two-to-minus-24 g e x r left doubles stitched accepted

  -- Where no number that was handed in is above 2^n in magnitude: the axis tolerance plus 2^(n - 54).
  pub joins-sized : (n : ℕ) → n ≤ 30 → AllSmall n g → Returned (two_to_minus (54 - n)) g r left
  joins-sized n few small = within-size g e x r left doubles stitched accepted n few small

-- ---- no figure is smaller

-- the stitch `tight` is accepted, in one edition throughout and with room for the 4 vertices of its need
abbrev dated : Editions
dated = editions 0 0 (0 ∷ [])

abbrev lent : Lists
lent = lists (replicate 12 +0) (0 ∷ []) (0 ∷ []) (0 ∷ []) (0 ∷ [])

pub tight-accepted : stitch_number tight dated lent ≡ 0
unfolding stitch_refusal first_of length_fault size_fault source_fault edition_fault edition_same each_slice source_known start_inside offset_inside each_to places_at_most tolerable tolerable_on all_of within abs_f of_bits lt le starts_fault need_of need_for sum_below weight_at codes_at
tight-accepted = refl

-- a record whose first setting has its two tolerances
abbrev record1 : Held
record1 = held (1 ∷ []) (tight.tolerance.x ∷ tight.tolerance.y ∷ replicate 46 +0)

record1-known : known record1.entered 1 ≡ true
unfolding known count_of
record1-known = refl

record1-tolerances : tolerance_in record1 1 ≡ tight.tolerance
unfolding asked_of known count_of setting_at
record1-tolerances = refl

record1-as-before : (x : Lists) (r : StitchAnswer) (left : Lists) → NamedStitch record1 1 tight dated x r left ≡ StitchLeft tight dated x r left
record1-as-before x r left = stitch-as-before record1 1 (record { one = refl; all = refl }) record1-known tight dated x r left

-- whatever a call of it answers and leaves: the contract itself, with its right-hand sides
abbrev given : StitchAnswer
given = answer stitch_refused (stitch_number tight dated lent) (stitch_given (round_count tight) (loop_count tight) (chain_count tight))

abbrev after : Lists
after =
    lists (answer (λ _. lent.room) (stitch_number tight dated lent) (room_of +0 3 (need_of tight.slice_at tight.slices) (room_items tight) lent.room))
    (answer (λ _. lent.ends) (stitch_number tight dated lent) (room_of 0 1 tight.slices (end_items tight) lent.ends))
    (answer (λ _. lent.chain) (stitch_number tight dated lent) (room_of 0 1 tight.slices (chain_items tight) lent.chain))
    (answer (λ _. lent.chain_ends) (stitch_number tight dated lent) (room_of 0 1 tight.slices (chain_end_items tight) lent.chain_ends))
    (answer (λ _. lent.chain_how) (stitch_number tight dated lent) (room_of 0 1 tight.slices (how_items tight) lent.chain_how))

-- So no figure below 2^-24 holds of every accepted call.
pub none-less : (excess : ℕ)
    → ((h : Held) (k : ℕ) (g : Given) (e : Editions) (x : Lists) (r : StitchAnswer) (left : Lists) → Doubles g → tolerance_in h k ≡ g.tolerance → NamedStitch h k g e x r left → r.refusal ≡ 0 → Returned excess g r left)
    → two_to_minus 24 ≤ excess
unfolding loop_count
none-less excess f =
    let told : given ≡ stitch_given (round_count tight) (loop_count tight) (chain_count tight) = answer-accepted stitch_refused (stitch_number tight dated lent) _ given refl tight-accepted in
    let before : StitchLeft tight dated lent given after = record { answers = refl; room = refl; ends = refl; chain = refl; chain_ends = refl; chain_how = refl } in
    let now : NamedStitch record1 1 tight dated lent given after = subst (λ (A : Type 0). A) (sym (record1-as-before lent given after)) before in
    let r = f record1 1 tight dated lent given after tight-doubles record1-tolerances now (ap (λ (a : StitchAnswer). a.refusal) told) in
    first-least excess r.loops (sym r.count ∙ ap (λ (a : StitchAnswer). a.loops) told ∙ tight-loops) r.behind
