-- What the call is proved by: the table in its parts, acceptance, and the ways out.
use Rattle.std.specs.Prelude.{ℕ, ◌+◌, ◌*◌, ◌≡◌, refl, List, ◌++◌, length}
use Rattle.std.proofs.Common.{sym, ap, ◌∙◌, arith, ltb-false}
use Rattle.std.proofs.lemmas.Bool.{not-false}
use Rattle.basis.specs.Sizes.{most_hits, most_laps}
use Rattle.basis.specs.Refuse.{Row, first_from}
use Rattle.basis.specs.RefuseLaws.{Clear, clear, clear-left, clear-right, first-from, stop-rows, go-rows, length-ok, part-stops, part-passes, answer-no, answer-yes}
use Rattle.slice.specs.Ready.{Countable, Rooms, Roomy}
use Rattle.cut.specs.Cuts as cut
use Rattle.cut.specs.Cuts.{which_of}
use Rattle.cut_entries.specs.CutRows as cuts
use Rattle.cut_entries.specs.CutRowsLaws.{CutsPass, cuts-accepted}
use Rattle.cut_entries.specs.CutRows.{FewCuts}
use Rattle.prune.specs.declared.call.Call.{Call}
use Rattle.prune.specs.declared.counts.Pruned.{Pruned}
use Rattle.prune.specs.Ready.{Few}
use Rattle.prune_write.specs.Ready.{WrittenTo}
use Rattle.prune_entries.specs.declared.answer.PruneAnswer.{PruneAnswer}
use Rattle.prune_entries.specs.Answers.{prune_refused, prune_given}
use Rattle.straight_cut.specs.KnownLaws.{outline-readable, points-readable, laps-readable}
use Rattle.straight_slices.specs.Slices.{Given, first_cuts, second_cuts, pruning, most_call, need_all}
use Rattle.straight_slices.specs.Ready.{Accepted}
use Rattle.straight_slices.specs.Rows.{more_list_rows, list_rows, code_rows, number_rows, straight_rows, index_rows, input_rows, lent_rows, slices_refusal, slices_number, SlicesLeft}
use Rattle.prune_entries.specs.PruneRows.{room_rows}

-- ---- the parts
pub record Parts (g : Given) : Type 0 where
  pub lists : Clear (cuts.list_rows (first_cuts g))
  pub outline2 : length g.outline2 ≡ 3 * g.job.vc2
  pub editions : length g.lap_edition ≡ g.job.laps
  pub codes : Clear (code_rows g.job g.lap_at)
  pub numbers : Clear (number_rows g.job.tolerance g.outline1 g.outline2 g.hit g.lap)
  pub straight : Clear (straight_rows g.outline1 g.outline2 g.hit g.lap)
  pub indexes : Clear (index_rows g.job g.hit_at g.lap_at)

pub parts : (g : Given) → Clear (input_rows g) → Parts g
unfolding input_rows
parts g input =
    let j = g.job in
    let from6 = index_rows j g.hit_at g.lap_at in
    let from18 = straight_rows g.outline1 g.outline2 g.hit g.lap ++ from6 in
    let from4 = number_rows j.tolerance g.outline1 g.outline2 g.hit g.lap ++ from18 in
    let from2 = code_rows j g.lap_at ++ from4 in
    let more = more_list_rows (length g.outline2) j.vc2 (length g.lap_edition) j.laps in
    let one : Clear (list_rows g) = clear-left (list_rows g) from2 input in
    let two : Clear from2 = clear-right (list_rows g) from2 input in
    let four : Clear from4 = clear-right (code_rows j g.lap_at) from4 two in
    let eighteen : Clear from18 = clear-right (number_rows j.tolerance g.outline1 g.outline2 g.hit g.lap) from18 four in
    let rest : Clear more = clear-right (cuts.list_rows (first_cuts g)) more one in
    let e : length g.lap_edition ≡ 1 * j.laps = length-ok 1 (length g.lap_edition) j.laps rest.1.0 in
    record {
      lists = clear-left (cuts.list_rows (first_cuts g)) more one;
      outline2 = length-ok 3 (length g.outline2) j.vc2 rest.0;
      editions = omega (arith, e);
      codes = clear-left (code_rows j g.lap_at) from4 two;
      numbers = clear-left (number_rows j.tolerance g.outline1 g.outline2 g.hit g.lap) from18 four;
      straight = clear-left (straight_rows g.outline1 g.outline2 g.hit g.lap) from6 eighteen;
      indexes = clear-right (straight_rows g.outline1 g.outline2 g.hit g.lap) from6 eighteen;
    }

no_second : ◌≡◌ {A = ℕ} 1 2 → ⊥
no_second e = omega (arith, e)

-- each outline's call of `mask_candidates` finds nothing in its cuts
pub first-pass : (g : Given) → Parts g → CutsPass (first_cuts g)
unfolding cuts.list_rows which_of
first-pass g p =
    let a = p.lists in
    let j = g.job in
    record {
      outline_length = length-ok 3 (length g.outline1) j.vc1 a.0;
      hit_at_length = length-ok 2 (length g.hit_at) j.hits a.1.0;
      hit_length = length-ok 2 (length g.hit) j.hits a.1.1.0;
      lap_at_length = length-ok 7 (length g.lap_at) j.laps a.1.1.1.0;
      lap_length = length-ok 6 (length g.lap) j.laps a.1.1.1.1.0;
      few_hits = ltb-false most_hits j.hits a.1.1.1.1.1.0;
      few_laps = ltb-false most_laps j.laps a.1.1.1.1.1.1.0;
      sized = p.codes.0;
      opposing = not-false _ p.codes.1.1.1.1.0;
      tolerance = not-false _ p.numbers.0;
      outline_within = not-false _ p.numbers.1.0;
      hit_within = not-false _ p.numbers.1.1.1.0;
      lap_within = not-false _ p.numbers.1.1.1.1.0;
      hits_below = not-false _ p.indexes.0;
      starts_below = not-false _ p.indexes.1.1.0;
      ends_below = not-false _ p.indexes.1.1.1.1.0;
      view_starts = λ e. absurd (no_second e);
      view_offsets = λ e. absurd (no_second e);
    }

pub second-pass : (g : Given) → Parts g → CutsPass (second_cuts g)
unfolding cuts.list_rows which_of
second-pass g p =
    let a = p.lists in
    let j = g.job in
    record {
      outline_length = p.outline2;
      hit_at_length = length-ok 2 (length g.hit_at) j.hits a.1.0;
      hit_length = length-ok 2 (length g.hit) j.hits a.1.1.0;
      lap_at_length = length-ok 7 (length g.lap_at) j.laps a.1.1.1.0;
      lap_length = length-ok 6 (length g.lap) j.laps a.1.1.1.1.0;
      few_hits = ltb-false most_hits j.hits a.1.1.1.1.1.0;
      few_laps = ltb-false most_laps j.laps a.1.1.1.1.1.1.0;
      sized = p.codes.1.0;
      opposing = not-false _ p.codes.1.1.1.1.0;
      tolerance = not-false _ p.numbers.0;
      outline_within = not-false _ p.numbers.1.1.0;
      hit_within = not-false _ p.numbers.1.1.1.0;
      lap_within = not-false _ p.numbers.1.1.1.1.0;
      hits_below = not-false _ p.indexes.1.0;
      starts_below = not-false _ p.indexes.1.1.1.0;
      ends_below = not-false _ p.indexes.1.1.1.1.1.0;
      view_starts = λ e. not-false _ p.indexes.1.1.1.1.1.1.0;
      view_offsets = λ e. not-false _ p.indexes.1.1.1.1.1.1.1.0;
    }

-- ---- the lists: those of the cuts of outline 1, which the code has as a, and then the others
module _ (g : Given) (a : cut.Given) (own : a ≡ first_cuts g) (p : ℕ) (e : p ≡ first_from 0 (cuts.list_rows a)) where
  abbrev more : List Row
  more = more_list_rows (length g.outline2) g.job.vc2 (length g.lap_edition) g.job.laps

  listed : p ≡ first_from 0 (cuts.list_rows (first_cuts g))
  listed = e ∙ ap (λ (c : cut.Given). first_from 0 (cuts.list_rows c)) own

  pub listed-stops : (p ≡ 0 → ⊥) → p ≡ first_from 0 (list_rows g)
  listed-stops h = part-stops (cuts.list_rows (first_cuts g)) more p listed h

  pub listed-passes : (r : ℕ) → p ≡ 0 → r ≡ first_from 0 more → r ≡ first_from 0 (list_rows g)
  listed-passes r z f = part-passes (cuts.list_rows (first_cuts g)) more p listed r z f

-- ---- the ways through the entry
module _ (g : Given) (found : ℕ) (e : found ≡ first_from 0 (input_rows g)) where
  pub clean : found ≡ 0 → Parts g
  unfolding input_rows cuts.list_rows
  clean z = parts g (clear (input_rows g) tt (sym (first-from (input_rows g) found tt e) ∙ z))

  pub input-few : found ≡ 0 → FewCuts (g.job.hits + 2 * g.job.laps)
  input-few z = let c = first-pass g (clean z) in record { few = omega (arith, c.few_hits, c.few_laps) }

  pub call-few : found ≡ 0 → Few (most_call g.job)
  call-few z =
      let c = first-pass g (clean z) in
      record { first = omega (arith, c.few_hits, c.few_laps); second = omega (arith, c.few_hits, c.few_laps); laps = c.few_laps }

  pub need-countable : (need : ℕ) → found ≡ 0 → need ≡ need_all g.job → Countable need
  need-countable need z n =
      let f = call-few z in
      record { few = omega (arith, n, f.first, f.second, f.laps) }

  pub input-found : (at slice edition : ℕ) → (found ≡ 0 → ⊥) → found ≡ slices_refusal g at slice edition
  unfolding slices_refusal input_rows cuts.list_rows
  input-found at slice edition h = stop-rows (input_rows g) (lent_rows g at slice edition) found tt e h

  pub lent_found : (at slice edition n : ℕ) → found ≡ 0 → n ≡ first_from 0 (lent_rows g at slice edition) → n ≡ slices_refusal g at slice edition
  unfolding slices_refusal input_rows cuts.list_rows
  lent_found at slice edition n z q = go-rows (input_rows g) (lent_rows g at slice edition) found n tt tt e z q

-- an accepted call: nothing was found in what is handed in, and there is room for the need
module _ (g : Given) (l : Rooms) (none : slices_number g l ≡ 0) where
  abbrev lent : List Row
  lent = lent_rows g (length l.at) (length l.shape) (length l.edition)

  all : Clear (input_rows g ++ lent)
  unfolding slices_refusal input_rows cuts.list_rows
  all = clear (input_rows g ++ lent) tt none

  pub accepted-parts : Parts g
  accepted-parts = parts g (clear-left (input_rows g) lent all)

  pub accepted-room : Roomy (need_all g.job) l
  accepted-room = let room = clear-right (input_rows g) lent all in record { at = ltb-false _ _ room.0; shape = ltb-false _ _ room.1.0; edition = ltb-false _ _ room.1.1.0 }

module _ (g : Given) (l : Rooms) (number : ℕ) (is : number ≡ slices_number g l) where
  pub slices-accepted : (call : Call) → call ≡ most_call g.job → number ≡ 0 → Accepted g call l
  slices-accepted call m z =
      let none : slices_number g l ≡ 0 = sym is ∙ z in
      let p = accepted-parts g l none in
      let c = first-pass g p in
      let first = cuts-accepted (first_cuts g) c in
      let second = cuts-accepted (second_cuts g) (second-pass g p) in
      let s = p.straight in
      let one = outline-readable g.outline1 g.job.vc1 c.outline_length (not-false _ s.0) in
      let two = outline-readable g.outline2 g.job.vc2 p.outline2 (not-false _ s.1.0) in
      let hits = points-readable g.hit (not-false _ s.1.1.0) in
      let laps = laps-readable g.lap g.job.laps c.lap_length (not-false _ s.1.1.1.0) in
      record {
        sides = record { first = record { accepted = first; whole = second.ready.whole; own = one; others = two; hits = hits; laps = laps }; second = record { accepted = second; whole = first.ready.whole; own = two; others = one; hits = hits; laps = laps }; roomy = accepted-room g l none };
        laps = record { few = c.few_laps; at = c.lap_at_length; shape = c.lap_length; edition = p.editions };
        most = m;
      }

  pub slices-refused : (r : PruneAnswer) → (number ≡ 0 → ⊥) → r ≡ prune_refused number → SlicesLeft g l r l
  slices-refused r h q =
      record {
        answers = answer-no prune_refused number _ _ r is h q;
        at = answer-no (λ _. l.at) number _ _ l.at is h refl;
        shape = answer-no (λ _. l.shape) number _ _ l.shape is h refl;
        edition = answer-no (λ _. l.edition) number _ _ l.edition is h refl;
      }

  pub slices-given : (p : Pruned) (r : PruneAnswer) (left : Rooms) → number ≡ 0 → WrittenTo (pruning g) (need_all g.job) l p left → r ≡ prune_given p → SlicesLeft g l r left
  slices-given p r left z w q =
      record {
        answers = answer-yes prune_refused number _ _ r is z (q ∙ ap (λ (x : Pruned). prune_given x) w.answer);
        at = answer-yes (λ _. l.at) number _ _ left.at is z w.at;
        shape = answer-yes (λ _. l.shape) number _ _ left.shape is z w.shape;
        edition = answer-yes (λ _. l.edition) number _ _ left.edition is z w.edition;
      }

-- an accepted call has few cuts
pub accepted-few : (g : Given) (l : Rooms) (number : ℕ) → number ≡ slices_number g l → number ≡ 0 → FewCuts (g.job.hits + 2 * g.job.laps)
accepted-few g l number is z = let c = first-pass g (accepted-parts g l (sym is ∙ z)) in record { few = omega (arith, c.few_hits, c.few_laps) }

-- what is handed in is refused
pub input-refused : (g : Given) (l : Rooms) (found : ℕ) (r : PruneAnswer) → found ≡ first_from 0 (input_rows g) → (found ≡ 0 → ⊥) → r ≡ prune_refused found → SlicesLeft g l r l
input-refused g l found r e h q = slices-refused g l found (input-found g found e (length l.at) (length l.shape) (length l.edition) h) r h q

-- it is not, and the need was worked out
module _ (g : Given) (l : Rooms) (found need number : ℕ) (e : found ≡ first_from 0 (input_rows g)) (z : found ≡ 0) (n : need ≡ need_all g.job)
    (f : number ≡ first_from 0 (room_rows need (length l.at) (length l.shape) (length l.edition))) where
  is_number : number ≡ slices_number g l
  is_number = lent_found g found e (length l.at) (length l.shape) (length l.edition) number z (rw n at f)

  pub lent-refused : (r : PruneAnswer) → (number ≡ 0 → ⊥) → r ≡ prune_refused number → SlicesLeft g l r l
  lent-refused r h q = slices-refused g l number is_number r h q

  pub accepted-ready : (call : Call) → call ≡ most_call g.job → number ≡ 0 → Accepted g call l
  accepted-ready call m y = slices-accepted g l number is_number call m y

  pub accepted-given : (p : Pruned) (r : PruneAnswer) (left : Rooms) → number ≡ 0 → WrittenTo (pruning g) (need_all g.job) l p left → r ≡ prune_given p → SlicesLeft g l r left
  accepted-given p r left y w q = slices-given g l number is_number p r left y w q

pub ruleset slicing = (input-refused, input-few, need-countable, lent-refused, accepted-ready, accepted-given)
