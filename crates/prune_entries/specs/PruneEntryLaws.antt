-- What the entry `mask_prune` is proved by: the table in its parts, acceptance, and the ways out.
use Prim.Native.Nat.{ℕ, zero, suc, ◌*◌, ◌≤◌}
use Rattle.std.specs.Prelude.{◌≡◌, refl, ◌++◌, length}
use Rattle.std.proofs.Math.Path.{sym}
use Rattle.std.proofs.Common.{ap, subst, ◌∙◌, arith, ltb-false}
use Rattle.std.proofs.lemmas.Bool.{not-false}
use Rattle.basis.specs.Sizes.{most_candidates, most_laps}
use Rattle.basis.specs.Refuse.{first_from}
use Rattle.basis.specs.RefuseLaws.{Clear, clear, clear-left, clear-right, first-from, found-stays, then-rows, length-ok, answer-no, answer-yes}
use Rattle.slice.specs.Slice.{shape_width}
use Rattle.slice.specs.Ready.{Countable, Rooms}
use Rattle.prune.specs.declared.counts.Pruned.{Pruned}
use Rattle.prune.specs.Prune.{Cands, Given, need_of}
use Rattle.prune.specs.Ready.{Few, CandsFit, OverlapsFit}
use Rattle.prune_write.specs.Ready.{Ready, Written}
use Rattle.prune_write.specs.PruneTheorems.{cands-sound, overlaps-sound}
use Rattle.prune_entries.specs.declared.answer.PruneAnswer.{PruneAnswer}
use Rattle.prune_entries.specs.Answers.{prune_refused, prune_given}
use Rattle.prune_entries.specs.PruneEntry.{cands_rows, laps_rows, codes_rows, numbers_rows, starts_rows, reaches_rows, input_rows, lent_rows, prune_refusal, prune_number, PruneLeft, Sound}
use Rattle.prune_entries.specs.PruneRows.{room_rows}

-- ---- the candidates of one outline
cands-fit : (c : Cands) (count : ℕ) → Clear (cands_rows c count) → CandsFit c count
cands-fit c count ok =
    let n : length c.inside ≡ 1 * count = length-ok 1 (length c.inside) count ok.1.1.1.0 in
    let e : length c.edition ≡ 1 * count = length-ok 1 (length c.edition) count ok.1.1.0 in
    record {
      few = ltb-false most_candidates count ok.1.1.1.1.0;
      at = length-ok 2 (length c.at) count ok.0;
      shape = length-ok shape_width (length c.shape) count ok.1.0;
      edition = omega arith;
      inside = omega arith;
    }

-- ---- the parts of the table of what is handed in
record Parts (g : Given) : Type 0 where
  first : CandsFit g.first g.call.count1
  second : CandsFit g.second g.call.count2
  laps : OverlapsFit g.laps g.call.laps
  codes : Clear (codes_rows g)
  numbers : Clear (numbers_rows g)
  starts : Clear (starts_rows g)
  reaches : Clear (reaches_rows g)

parts : (g : Given) → Clear (input_rows g) → Parts g
unfolding input_rows
parts g input =
    let from6 = starts_rows g ++ reaches_rows g in
    let from5 = numbers_rows g ++ from6 in
    let from2 = codes_rows g ++ from5 in
    let laps = laps_rows g ++ from2 in
    let second = cands_rows g.second g.call.count2 ++ laps in
    let a : Clear second = clear-right (cands_rows g.first g.call.count1) second input in
    let b : Clear laps = clear-right (cands_rows g.second g.call.count2) laps a in
    let d : Clear from2 = clear-right (laps_rows g) from2 b in
    let f : Clear from5 = clear-right (codes_rows g) from5 d in
    let h : Clear from6 = clear-right (numbers_rows g) from6 f in
    let o : Clear (laps_rows g) = clear-left (laps_rows g) from2 b in
    record {
      first = cands-fit g.first g.call.count1 (clear-left (cands_rows g.first g.call.count1) second input);
      second = cands-fit g.second g.call.count2 (clear-left (cands_rows g.second g.call.count2) laps a);
      laps =
          record {
            few = ltb-false most_laps g.call.laps o.1.1.1.0;
            at = length-ok 7 (length g.laps.at) g.call.laps o.0;
            shape = length-ok shape_width (length g.laps.shape) g.call.laps o.1.0;
            edition = let e = length-ok 1 (length g.laps.edition) g.call.laps o.1.1.0 in omega (arith, e);
          };
      codes = clear-left (codes_rows g) from5 d;
      numbers = clear-left (numbers_rows g) from6 f;
      starts = clear-left (starts_rows g) (reaches_rows g) h;
      reaches = clear-right (starts_rows g) (reaches_rows g) h;
    }

module _ (g : Given) (r : ℕ) (e : r ≡ first_from 0 (input_rows g)) where
  -- nothing was found in what is handed in
  clean : r ≡ 0 → Parts g
  unfolding input_rows
  clean z = parts g (clear (input_rows g) tt (sym (first-from (input_rows g) r tt e) ∙ z))

  -- so the need can be worked out
  pub input-few : r ≡ 0 → Few g.call
  input-few z = let p = clean z in record { first = p.first.few; second = p.second.few; laps = p.laps.few }

  pub input-countable : (need : ℕ) → r ≡ 0 → need ≡ need_of g.call → Countable need
  input-countable need z n = let f = input-few z in record { few = omega (arith, f.first, f.second, f.laps) }

  -- a number that was found stays
  pub input-found : (at slice edition : ℕ) → (r ≡ 0 → ⊥) → r ≡ prune_refusal g at slice edition
  unfolding prune_refusal input_rows
  input-found at slice edition h =
      first-from (input_rows g ++ lent_rows g at slice edition) r tt (then-rows r r 0 (input_rows g) (lent_rows g at slice edition) (stays r h) e)
    where
      stays : (n : ℕ) → (n ≡ 0 → ⊥) → n ≡ first_from n (lent_rows g at slice edition)
      stays zero h = absurd (h refl)
      stays (suc n) h = sym (found-stays n (lent_rows g at slice edition))

  -- else what is lent decides
  pub lent_found : (at slice edition n : ℕ) → r ≡ 0 → n ≡ first_from 0 (lent_rows g at slice edition) → n ≡ prune_refusal g at slice edition
  unfolding prune_refusal input_rows
  lent_found at slice edition n z q =
      first-from (input_rows g ++ lent_rows g at slice edition) n tt
      (then-rows n r 0 (input_rows g) (lent_rows g at slice edition) (subst (λ (k : ℕ). n ≡ first_from k (lent_rows g at slice edition)) (sym z) q) e)

-- ---- acceptance
module _ (g : Given) (l : Rooms) (number : ℕ) where
  all-clear : number ≡ prune_number g l → number ≡ 0 → Clear (input_rows g ++ lent_rows g (length l.at) (length l.shape) (length l.edition))
  unfolding prune_refusal input_rows
  all-clear e z = clear (input_rows g ++ lent_rows g (length l.at) (length l.shape) (length l.edition)) tt (sym e ∙ z)

  pub prune-accepted : number ≡ prune_number g l → number ≡ 0 → Ready g l
  prune-accepted e z =
      let lent = lent_rows g (length l.at) (length l.shape) (length l.edition) in
      let all = all-clear e z in
      let p = parts g (clear-left (input_rows g) lent all) in
      let room : Clear lent = clear-right (input_rows g) lent all in
      let mode : g.call.mode ≤ 3 = ltb-false 3 g.call.mode p.codes.1.1.0 in
      record {
        known = omega arith;
        few = record { first = p.first.few; second = p.second.few; laps = p.laps.few };
        first = p.first;
        second = p.second;
        laps = p.laps;
        roomy = record { at = ltb-false _ _ room.0; shape = ltb-false _ _ room.1.0; edition = ltb-false _ _ room.1.1.0 };
      }

  -- what later theorems start from: the candidates and overlaps of an accepted call are sound for their outlines
  pub prune-sound : number ≡ prune_number g l → number ≡ 0 → Sound g
  prune-sound e z =
      let c = g.call in
      let p = parts g (clear-left (input_rows g) (lent_rows g (length l.at) (length l.shape) (length l.edition)) (all-clear e z)) in
      let n = p.numbers in
      let s = p.starts in
      let r = p.reaches in
      record {
        first = cands-sound c.vc1 c.count1 g.first p.first (not-false _ s.0) (not-false _ r.0) (not-false _ n.0);
        second = cands-sound c.vc2 c.count2 g.second p.second (not-false _ s.1.0) (not-false _ r.1.0) (not-false _ n.1.0);
        laps =
            overlaps-sound c.vc2 c.laps g.laps p.laps (not-false _ p.codes.1.1.1.1.1.1.0) (not-false _ s.1.1.1.1.1.1.0)
            (not-false _ r.1.1.0) (not-false _ n.1.1.0);
      }

  pub left-refused : (r : PruneAnswer) → number ≡ prune_number g l → (number ≡ 0 → ⊥) → r ≡ prune_refused number → PruneLeft g l r l
  left-refused r e h q =
      record {
        answers = answer-no prune_refused number _ _ r e h q;
        at = answer-no (λ _. l.at) number _ _ l.at e h refl;
        shape = answer-no (λ _. l.shape) number _ _ l.shape e h refl;
        edition = answer-no (λ _. l.edition) number _ _ l.edition e h refl;
      }

  pub left-given : (p : Pruned) (r : PruneAnswer) (left : Rooms) → number ≡ prune_number g l → number ≡ 0 → Written g l p left → r ≡ prune_given p → PruneLeft g l r left
  left-given p r left e z w q =
      record {
        answers = answer-yes prune_refused number _ _ r e z (q ∙ ap (λ (x : Pruned). prune_given x) w.answer);
        at = answer-yes (λ _. l.at) number _ _ left.at e z w.at;
        shape = answer-yes (λ _. l.shape) number _ _ left.shape e z w.shape;
        edition = answer-yes (λ _. l.edition) number _ _ left.edition e z w.edition;
      }

-- ---- the ways through the entry: what is handed in is refused
pub input-refused : (g : Given) (l : Rooms) (found : ℕ) (r : PruneAnswer) → found ≡ first_from 0 (input_rows g) → (found ≡ 0 → ⊥) → r ≡ prune_refused found → PruneLeft g l r l
input-refused g l found r e h q = left-refused g l found r (input-found g found e (length l.at) (length l.shape) (length l.edition) h) h q

-- it is not, and the need was worked out
module _ (g : Given) (l : Rooms) (found need number : ℕ) (e : found ≡ first_from 0 (input_rows g)) (z : found ≡ 0) (n : need ≡ need_of g.call)
    (f : number ≡ first_from 0 (room_rows need (length l.at) (length l.shape) (length l.edition))) where
  is_number : number ≡ prune_number g l
  is_number = lent_found g found e (length l.at) (length l.shape) (length l.edition) number z (rw n at f)

  pub lent-refused : (r : PruneAnswer) → (number ≡ 0 → ⊥) → r ≡ prune_refused number → PruneLeft g l r l
  lent-refused r h q = left-refused g l number r is_number h q

  pub accepted-ready : number ≡ 0 → Ready g l
  accepted-ready y = prune-accepted g l number is_number y

  pub accepted-given : (p : Pruned) (r : PruneAnswer) (left : Rooms) → number ≡ 0 → Written g l p left → r ≡ prune_given p → PruneLeft g l r left
  accepted-given p r left y w q = left-given g l number p r left is_number y w q

pub ruleset pruning = (input-refused, input-few, input-countable, lent-refused, accepted-ready, accepted-given)
