-- From what the reader and the stitch leave to what a replay does.
use Prim.Native.Nat.{ℕ, zero, suc, ◌+◌, ◌-◌, ◌*◌, ◌^◌, ◌≤◌, ◌<◌}
use mathlib.Core.Path.{◌≡◌, refl, sym, ap, subst, ◌∙◌}
use mathlib.Core.List.{List}
use native.Mathlib.Omega.{arith}
use lib.Dec.{eqb}
use lib.ListN.{length, take, length-append}
use Rattle.basis.specs.Choice.{by-test}
use Rattle.basis.specs.Number.{+0}
use Rattle.basis.specs.Refuse.{answer}
use Rattle.basis.specs.Refusals.{found}
use Rattle.basis.specs.RefusalLaws.{found-none}
use Rattle.basis.specs.RefuseLaws.{answer-no, answer-yes, answer-accepted}
use Rattle.basis.specs.Room.{room_of}
use Rattle.basis.specs.RoomLaws.{room-front}
use Rattle.slice.specs.Slice.{code_width, shape_width}
use Rattle.slice.specs.Editions.{Editions, editions}
use Rattle.stitch_run.specs.declared.plan.Plan.{Plan}
use Rattle.stitch_run.specs.Stitch.{Given, need_of, round_count, loop_count, chain_count, room_items, end_items, chain_items, chain_end_items, how_items}
use Rattle.stitch.specs.Lent.{Lists}
use Rattle.stitch_entries.specs.declared.answer.StitchAnswer.{StitchAnswer}
use Rattle.stitch_entries.specs.Answers.{stitch_refused, stitch_given}
use Rattle.stitch_entries.specs.StitchEntry.{stitch_number, StitchLeft}
use Rattle.record_form.specs.declared.form.Version.{Version}
use Rattle.record.specs.declared.head.Head.{Head}
use Rattle.std.specs.Prelude.{Result, Ok, Err}
use Rattle.basis.specs.declared.refuse.Refusal.{Refusal}
use Rattle.record.specs.declared.head.Seen.{Seen}
use Rattle.record_form.specs.Form.{form_for}
use Rattle.record.specs.Record as held
use Rattle.record.specs.Record.{stitch_by, editions_by, head_in, plan_held, lists_held, form_in, read_refusal, taken_lengths, lengths_of, seen_given, Read}
use Rattle.record.specs.RecordLaws.{read-long}
use Rattle.record_replay.specs.declared.replay.ReplayAnswer.{ReplayAnswer}
use Rattle.record_replay.specs.Replayed.{held_in, dates_in, form_number, replay_number, replay_refused, replay_given, replay_of, ReplayLeft}
use Rattle.record_replay.specs.Ready.{reading, fronts, Held}

-- the replay's answer, from the stitch's
pub replay-answer : (version slices n rounds loops chains : ℕ) (a : StitchAnswer) → a ≡ answer stitch_refused n (stitch_given rounds loops chains)
    → replay_of version slices a ≡ answer replay_refused n (replay_given version slices rounds loops chains)
unfolding replay_of answer
replay-answer version slices zero rounds loops chains a e = rw e
replay-answer version slices (suc n) rounds loops chains a e = rw e

-- fronts of lists, as the code has them
pub fronts-of : (h : Head) (l : held.Lists) (x : Lists) (r : StitchAnswer) (left : Lists)
    → StitchLeft (stitch_by (reading (take (3 * h.plan.vc1 - 0) l.outline1) (take (3 * h.plan.vc2 - 0) l.outline2) (take (code_width * h.plan.slices - 0) l.slice_at) (take (shape_width * h.plan.slices - 0) l.slice) (take (h.plan.slices - 0) l.slice_edition)) h.plan) (editions h.edition1 h.edition2 (take (h.plan.slices - 0) l.slice_edition)) x r left
    → StitchLeft (stitch_by (fronts h.plan l) h.plan) (editions_by (fronts h.plan l) h) x r left
fronts-of h l x r left w =
    let p = h.plan in
    let a : 3 * p.vc1 - 0 ≡ 3 * p.vc1 = omega arith in
    let b : 3 * p.vc2 - 0 ≡ 3 * p.vc2 = omega arith in
    let c : code_width * p.slices - 0 ≡ code_width * p.slices = omega arith in
    let d : shape_width * p.slices - 0 ≡ shape_width * p.slices = omega arith in
    let e : p.slices - 0 ≡ p.slices = omega arith in
    rw (a, b, c, d, e) at w

-- ---- the reader refused
module _ (b : List ℕ) (x : Lists) (r : ReplayAnswer) (n : ℕ) (e : n ≡ form_number b) (h : n ≡ 0 → ⊥) where
  number-form : n ≡ replay_number b x
  unfolding replay_number
  number-form = answer-no (λ (k : ℕ). k) n _ _ n e h refl

  pub replay-refused : r ≡ replay_refused n → ReplayLeft b x r x
  replay-refused q =
      record {
        answers = answer-no replay_refused n _ _ r number-form h q;
        room = answer-no (λ _. x.room) n _ _ x.room number-form h refl;
        ends = answer-no (λ _. x.ends) n _ _ x.ends number-form h refl;
        chain = answer-no (λ _. x.chain) n _ _ x.chain number-form h refl;
        chain_ends = answer-no (λ _. x.chain_ends) n _ _ x.chain_ends number-form h refl;
        chain_how = answer-no (λ _. x.chain_how) n _ _ x.chain_how number-form h refl;
      }

-- ---- the reader did not
module _ (b : List ℕ) (z : 0 ≡ form_number b) (x : Lists) (r : ReplayAnswer) (left : Lists) where
  number-held : stitch_number (held_in b) (dates_in b) x ≡ replay_number b x
  unfolding replay_number
  number-held = answer-yes (λ (k : ℕ). k) 0 (form_number b) (stitch_number (held_in b) (dates_in b) x) (stitch_number (held_in b) (dates_in b) x) z refl refl

  pub replay-held : (a : StitchAnswer) → StitchLeft (held_in b) (dates_in b) x a left → r ≡ replay_of (form_in b).number (held_in b).slices a → ReplayLeft b x r left
  replay-held a w q =
      let g = held_in b in
      record {
        answers =
            q ∙ replay-answer (form_in b).number g.slices (stitch_number g (dates_in b) x) (round_count g) (loop_count g) (chain_count g) a w.answers
            ∙ ap (λ (n : ℕ). answer replay_refused n (replay_given (form_in b).number g.slices (round_count g) (loop_count g) (chain_count g))) number-held;
        room = w.room ∙ ap (λ (n : ℕ). answer (λ _. x.room) n (room_of +0 3 (need_of g.slice_at g.slices) (room_items g) x.room)) number-held;
        ends = w.ends ∙ ap (λ (n : ℕ). answer (λ _. x.ends) n (room_of 0 1 g.slices (end_items g) x.ends)) number-held;
        chain = w.chain ∙ ap (λ (n : ℕ). answer (λ _. x.chain) n (room_of 0 1 g.slices (chain_items g) x.chain)) number-held;
        chain_ends = w.chain_ends ∙ ap (λ (n : ℕ). answer (λ _. x.chain_ends) n (room_of 0 1 g.slices (chain_end_items g) x.chain_ends)) number-held;
        chain_how = w.chain_how ∙ ap (λ (n : ℕ). answer (λ _. x.chain_how) n (room_of 0 1 g.slices (how_items g) x.chain_how)) number-held;
      }

-- ---- what the reader left
-- a version's number is small
version-small : (n : ℕ) → (form_for n).number < 2 ^ 32
unfolding form_for
version-small n = by-test (eqb n 2) (λ t. rw t (omega arith)) (λ f. rw f (omega arith))

module _ (b : List ℕ) (l : held.Lists) (r : Result Seen Refusal) (left : held.Lists) (w : Read b l r left) (long : lengths_of l ≡ taken_lengths) where
  abbrev v : Version
  v = form_in b

  form-same : read_refusal v b (lengths_of l) ≡ form_number b
  form-same = ap (read_refusal v b) long

  pub seen-form : found r ≡ form_number b
  seen-form = w.answers ∙ form-same

  module _ (s : Seen) (is : r ≡ Ok s) where
    clean : found r ≡ 0
    clean = found-none r s is

    accepted : read_refusal v b (lengths_of l) ≡ 0
    accepted = form-same ∙ sym seen-form ∙ clean

    seen_all : s ≡ record { version = v.number; head = head_in v b }
    seen_all = let e : Ok s ≡ seen_given v.number (head_in v b) = sym is ∙ w.given accepted in cc

    seen-head : s.head ≡ head_in v b
    seen-head = ap (λ (y : Seen). y.head) seen_all

    seen-version : s.version ≡ v.number
    seen-version = ap (λ (y : Seen). y.version) seen_all

    pub version-fits : s.version < 2 ^ 32
    version-fits = rw seen-version (version-small (held.number_in b))

    abbrev p : Plan
    p = plan_held v b

    one : length (lists_held v b).slice_edition ≡ 1 * p.slices
    one = omega (arith, (read-long v b).dates)

    is1 : left.outline1 ≡ room_of +0 3 p.vc1 (lists_held v b).outline1 l.outline1
    is1 = answer-accepted (λ _. l.outline1) _ _ left.outline1 w.first accepted

    is2 : left.outline2 ≡ room_of +0 3 p.vc2 (lists_held v b).outline2 l.outline2
    is2 = answer-accepted (λ _. l.outline2) _ _ left.outline2 w.second accepted

    is3 : left.slice_at ≡ room_of 0 code_width p.slices (lists_held v b).slice_at l.slice_at
    is3 = answer-accepted (λ _. l.slice_at) _ _ left.slice_at w.codes accepted

    is4 : left.slice ≡ room_of +0 shape_width p.slices (lists_held v b).slice l.slice
    is4 = answer-accepted (λ _. l.slice) _ _ left.slice w.shapes accepted

    is5 : left.slice_edition ≡ room_of 0 1 p.slices (lists_held v b).slice_edition l.slice_edition
    is5 = answer-accepted (λ _. l.slice_edition) _ _ left.slice_edition w.dates accepted

    at_least : {A : Type 0} (d : A) (k need : ℕ) (items x y : List A) → y ≡ room_of d k need items x → length items ≡ k * need → k * need ≤ length y
    unfolding room_of
    at_least d k need items x y e f = omega (arith, ap length e ∙ length-append items _, f)

    pub held_fits : Held s.head.plan left
    held_fits =
        let k = read-long v b in
        rw seen-head
        (record {
          first = at_least +0 3 p.vc1 (lists_held v b).outline1 l.outline1 left.outline1 is1 k.first;
          second = at_least +0 3 p.vc2 (lists_held v b).outline2 l.outline2 left.outline2 is2 k.second;
          codes = at_least 0 code_width p.slices (lists_held v b).slice_at l.slice_at left.slice_at is3 k.codes;
          shapes = at_least +0 shape_width p.slices (lists_held v b).slice l.slice left.slice is4 k.shapes;
          dates = omega (arith, at_least 0 1 p.slices (lists_held v b).slice_edition l.slice_edition left.slice_edition is5 one);
        })

    -- the lists' fronts are what the bytes hold
    front1 : take (3 * p.vc1) left.outline1 ≡ (lists_held v b).outline1
    front1 = room-front +0 3 p.vc1 (lists_held v b).outline1 l.outline1 left.outline1 (3 * p.vc1) is1 (read-long v b).first

    front2 : take (3 * p.vc2) left.outline2 ≡ (lists_held v b).outline2
    front2 = room-front +0 3 p.vc2 (lists_held v b).outline2 l.outline2 left.outline2 (3 * p.vc2) is2 (read-long v b).second

    front3 : take (code_width * p.slices) left.slice_at ≡ (lists_held v b).slice_at
    front3 = room-front 0 code_width p.slices (lists_held v b).slice_at l.slice_at left.slice_at (code_width * p.slices) is3 (read-long v b).codes

    front4 : take (shape_width * p.slices) left.slice ≡ (lists_held v b).slice
    front4 = room-front +0 shape_width p.slices (lists_held v b).slice l.slice left.slice (shape_width * p.slices) is4 (read-long v b).shapes

    front5 : take p.slices left.slice_edition ≡ (lists_held v b).slice_edition
    front5 = room-front 0 1 p.slices (lists_held v b).slice_edition l.slice_edition left.slice_edition p.slices is5 (read-long v b).dates

    stitch-held : stitch_by (fronts p left) p ≡ held_in b
    stitch-held = rw (front1, front2, front3, front4)

    dates-held : editions_by (fronts p left) (head_in v b) ≡ dates_in b
    dates-held = rw front5

    pub replay-stitched : (x : Lists) (a : StitchAnswer) (y : Lists) (c : ReplayAnswer) → StitchLeft (stitch_by (fronts s.head.plan left) s.head.plan) (editions_by (fronts s.head.plan left) s.head) x a y
        → c ≡ replay_of s.version s.head.plan.slices a → ReplayLeft b x c y
    replay-stitched x a y c q e =
        let s1 : StitchLeft (stitch_by (fronts p left) p) (editions_by (fronts p left) (head_in v b)) x a y =
        subst (λ (h : Head). StitchLeft (stitch_by (fronts h.plan left) h.plan) (editions_by (fronts h.plan left) h) x a y) seen-head q in
        let t : StitchLeft (held_in b) (editions_by (fronts p left) (head_in v b)) x a y =
        subst (λ (g : Given). StitchLeft g (editions_by (fronts p left) (head_in v b)) x a y) stitch-held s1 in
        let u : StitchLeft (held_in b) (dates_in b) x a y = subst (λ (d : Editions). StitchLeft (held_in b) d x a y) dates-held t in
        replay-held b (sym clean ∙ seen-form) x c y a u
        (e ∙ ap (λ (n : ℕ). replay_of n s.head.plan.slices a) seen-version ∙ ap (λ (h : Head). replay_of v.number h.plan.slices a) seen-head)
