-- What the stitch by tolerances is proved by: acceptance, and the two ways out.
use Prim.Native.Nat.{ℕ, ◌*◌, ◌/◌, ◌≤◌, ◌<◌}
use mathlib.Core.Bool.{Bool, true, false, cond}
use mathlib.Core.Path.{◌≡◌, refl, sym, ◌∙◌}
use mathlib.Core.List.{List, ◌++◌}
use native.Mathlib.Nat.{le_of_eq, le_trans}
use native.Mathlib.Omega.{arith}
use lib.ListN.{length}
use lib.Dec.{eqb}
use lib.Ieee.{Float}
use borrow.Author.Tests.{ltb-false, not-false}
use Rattle.basis.specs.Sizes.{most_slices}
use Rattle.basis.specs.Refuse.{Row, first_from, count_for}
use Rattle.basis.specs.RefuseLaws.{Clear, clear, clear-left, clear-right, clear-from, stop-rows, go-rows, part-stops, part-passes, length-ok, size_ok, choice-ok, answer-no, answer-yes}
use Rattle.outline.specs.Outline.{Whole}
use Rattle.view.specs.View.{Fit}
use Rattle.stitch_run.specs.declared.plan.Plan.{Plan}
use Rattle.stitch_run.specs.Stitch.{Given, given, slice_outline, slice_count, round_count, loop_count, chain_count}
use Rattle.slice.specs.Slice.{code_width, shape_width, codes_at, slice_view, slice_offset}
use Rattle.slice.specs.SliceLaws.{start-at, offset_at}
use Rattle.slice.specs.Editions.{Editions, edition_list_rows}
use Rattle.slice.specs.Ready.{EditionsThere}
use Rattle.stitch_slices.specs.Ready.{Sound}
use Rattle.stitch.specs.Lent.{Lists, NeedFit, StitchFit, Written}
use Rattle.stitch.specs.declared.write.Stitched.{Stitched}
use Rattle.stitch_entries.specs.declared.answer.StitchAnswer.{StitchAnswer}
use Rattle.stitch_faults.specs.declared.faults.Lengths.{Lengths}
use Rattle.stitch_entries.specs.Answers.{stitch_refused, stitch_given}
use Rattle.stitch_entries.specs.StitchEntry.{lengths_of, stitch_number, StitchLeft}
use Rattle.stitch_faults.specs.StitchTable.{list_part, code_part, number_part, index_part, shape_rows, input_rows, edition_part, room_part, stitch_rows, stitch_refusal}

module _ (g : Given) where
  -- each slice's view fits its own outline
  module _ (a : Clear (list_part g)) (b : Clear (code_part g)) (c : Clear (index_part g)) where
    at-codes : length g.slice_at ≡ code_width * g.slices
    at-codes = length-ok code_width (length g.slice_at) g.slices a.1.1.0

    whole_of : (first : Bool) → Whole (cond first g.outline1 g.outline2) (cond first g.vc1 g.vc2)
    whole_of true =
        let size = size_ok g.vc1 b.0 in
        record { triples = length-ok 3 (length g.outline1) g.vc1 a.0; least = size.0; most = size.1 }
    whole_of false =
        let size = size_ok g.vc2 b.1.0 in
        record { triples = length-ok 3 (length g.outline2) g.vc2 a.1.0; least = size.0; most = size.1 }

    offset-most : (i : ℕ) → i < g.slices → slice_offset g.slice_at i ≤ count_for g.vc1 g.vc2 (codes_at g.slice_at i).source
    offset-most = offset_at g.slice_at g.slices at-codes g.vc1 g.vc2 (not-false _ c.1.0)

    start-below : (i : ℕ) → i < g.slices → (codes_at g.slice_at i).start < count_for g.vc1 g.vc2 (codes_at g.slice_at i).source
    start-below = start-at g.slice_at g.slices at-codes g.vc1 g.vc2 (not-false _ c.0)

    view-fits : (i : ℕ) → i < g.slices → Fit (slice_outline g i) (slice_count g i) (slice_view g.slice_at g.slice i)
    unfolding slice_outline slice_count slice_view
    view-fits i h = record { whole = whole_of (eqb (codes_at g.slice_at i).source 1); starts = start-below i h; reaches = offset-most i h }

    sound-of : Sound g
    sound-of =
        record {
          at = at-codes;
          numbers = length-ok shape_width (length g.slice) g.slices a.1.1.1.0;
          few = ltb-false most_slices g.slices a.1.1.1.1.0;
          selectors = let s = choice-ok g.selector b.1.1.0 in omega arith;
          views = view-fits;
        }

    need-of : NeedFit g.slice_at g.slices
    need-of =
        record {
          long = le_of_eq (sym at-codes);
          few = ltb-false most_slices g.slices a.1.1.1.1.0;
          offsets = λ i h. le_trans (offset-most i h) (whole_of (eqb (codes_at g.slice_at i).source 1)).most;
        }

  -- the three parts of a clear table that say so
  module _ (ok : Clear (shape_rows g)) where
    past-lists : Clear (code_part g ++ (number_part g ++ index_part g))
    past-lists = clear-right (list_part g) (code_part g ++ (number_part g ++ index_part g)) ok

    first_part : Clear (list_part g)
    first_part = clear-left (list_part g) (code_part g ++ (number_part g ++ index_part g)) ok

    second-part : Clear (code_part g)
    second-part = clear-left (code_part g) (number_part g ++ index_part g) past-lists

    last-part : Clear (index_part g)
    last-part = clear-right (number_part g) (index_part g) (clear-right (code_part g) (number_part g ++ index_part g) past-lists)

    sound : Sound g
    sound = sound-of first_part second-part last-part

    need-there : NeedFit g.slice_at g.slices
    need-there = need-of first_part second-part last-part

    codes-there : length g.slice_at ≡ code_width * g.slices
    codes-there = at-codes first_part second-part last-part

  -- nothing found among 1 to 8
  module _ (len r : ℕ) (found : r ≡ first_from 0 (input_rows g len)) (none : r ≡ 0) where
    input-clear : Clear (input_rows g len)
    input-clear = clear-from (input_rows g len) r tt found none

    shape-clear : Clear (shape_rows g)
    shape-clear = clear-right (edition_list_rows len g.slices) (shape_rows g) input-clear

    -- the need can be worked out
    need-fits : NeedFit g.slice_at g.slices
    need-fits = need-there shape-clear

    -- there is an edition for each slice
    each-there : length g.slice_at / code_width ≤ len
    each-there = omega (arith, codes-there shape-clear, length-ok 1 len g.slices input-clear.0)

  module _ (e : Editions) (l : Lengths) where
    abbrev len : ℕ
    len = length e.slices

    abbrev rest : List Row
    rest = edition_part g e ++ room_part g l

    pub input-found : (r : ℕ) → r ≡ first_from 0 (input_rows g len) → (r ≡ 0 → ⊥) → r ≡ stitch_refusal g e l
    unfolding stitch_refusal
    input-found r f h = stop-rows (input_rows g len) rest r tt f h

    pub edition-found : (r p : ℕ) → p ≡ first_from 0 (input_rows g len) → p ≡ 0 → r ≡ first_from 0 (edition_part g e) → (r ≡ 0 → ⊥) → r ≡ stitch_refusal g e l
    unfolding stitch_refusal
    edition-found r p f z d h = go-rows (input_rows g len) rest p r tt tt f z (part-stops (edition_part g e) (room_part g l) r d h)

    pub room-found : (r q p : ℕ) → p ≡ first_from 0 (input_rows g len) → p ≡ 0 → q ≡ first_from 0 (edition_part g e) → q ≡ 0 → r ≡ first_from 0 (room_part g l) → r ≡ stitch_refusal g e l
    unfolding stitch_refusal
    room-found r q p f z d y h = go-rows (input_rows g len) rest p r tt tt f z (part-passes (edition_part g e) (room_part g l) q d r y h)

  module _ (e : Editions) (x : Lists) where
    pub stitch-accepted : (number : ℕ) → number ≡ stitch_number g e x → number ≡ 0 → StitchFit g x
    unfolding stitch_refusal
    stitch-accepted number h z =
        let rooms = room_part g (lengths_of x) in
        let inputs = input_rows g (length e.slices) in
        let ok = clear (stitch_rows g e (lengths_of x)) tt (sym h ∙ z) in
        let d : Clear rooms = clear-right (edition_part g e) rooms (clear-right inputs (edition_part g e ++ rooms) ok) in
        record {
          sound = sound (clear-right (edition_list_rows (length e.slices) g.slices) (shape_rows g) (clear-left inputs (edition_part g e ++ rooms) ok));
          long =
              record {
                room = ltb-false _ _ d.0;
                ends = ltb-false _ _ d.1.0;
                chain = ltb-false _ _ d.1.1.0;
                chain_ends = ltb-false _ _ d.1.1.1.0;
                chain_how = ltb-false _ _ d.1.1.1.1.0;
              };
        }

    pub stitch-refused : (number : ℕ) (r : StitchAnswer) → number ≡ stitch_number g e x → (number ≡ 0 → ⊥) → r ≡ stitch_refused number → StitchLeft g e x r x
    stitch-refused number r k h q =
        record {
          answers = answer-no stitch_refused number _ _ r k h q;
          room = answer-no (λ _. x.room) number _ _ x.room k h refl;
          ends = answer-no (λ _. x.ends) number _ _ x.ends k h refl;
          chain = answer-no (λ _. x.chain) number _ _ x.chain k h refl;
          chain_ends = answer-no (λ _. x.chain_ends) number _ _ x.chain_ends k h refl;
          chain_how = answer-no (λ _. x.chain_how) number _ _ x.chain_how k h refl;
        }

    pub stitch-given : (number : ℕ) (s : Stitched) (r : StitchAnswer) (left : Lists) → number ≡ stitch_number g e x → number ≡ 0 → Written g x s left → r ≡ stitch_given s.rounds s.loops s.chains
        → StitchLeft g e x r left
    stitch-given number s r left k z w q =
        record {
          answers = answer-yes stitch_refused number _ _ r k z (q ∙ told s.rounds s.loops s.chains w.rounds w.loops w.chains);
          room = answer-yes (λ _. x.room) number _ _ left.room k z w.room;
          ends = answer-yes (λ _. x.ends) number _ _ left.ends k z w.ends;
          chain = answer-yes (λ _. x.chain) number _ _ left.chain k z w.chain;
          chain_ends = answer-yes (λ _. x.chain_ends) number _ _ left.chain_ends k z w.chain_ends;
          chain_how = answer-yes (λ _. x.chain_how) number _ _ left.chain_how k z w.chain_how;
        }
      where
        told : (a b c : ℕ) → a ≡ round_count g → b ≡ loop_count g → c ≡ chain_count g → stitch_given a b c ≡ stitch_given (round_count g) (loop_count g) (chain_count g)
        told a b c p q r = cc

-- the same of the parameters of a function
pub need-given : (o1 o2 : List Float) (at : List ℕ) (numbers : List Float) (p : Plan) (len r : ℕ) → r ≡ first_from 0 (input_rows (given o1 o2 at numbers p) len) → r ≡ 0 → NeedFit at p.slices
need-given o1 o2 at numbers p len r e z = need-fits (given o1 o2 at numbers p) len r e z

pub each-given : (o1 o2 : List Float) (at : List ℕ) (numbers : List Float) (p : Plan) (l : List ℕ) (r : ℕ) → r ≡ first_from 0 (input_rows (given o1 o2 at numbers p) (length l)) → r ≡ 0
    → EditionsThere at l
each-given o1 o2 at numbers p l r e z = record { each = each-there (given o1 o2 at numbers p) (length l) r e z }

pub ruleset finding = (need-given, each-given, input-found, edition-found, room-found)

pub ruleset ways = (stitch-accepted, stitch-refused, stitch-given)
