-- K9: "Whatever the sequence of calls, it answers as a plain list would", for every content of lists of up to 2,047 places, refused calls included; the whole table of
-- an entry's refusals; and that a refusal leaves every list as it was.
use Prim.Native.Nat.{ℕ, zero, suc, ◌*◌, ◌≤◌}
use Rattle.std.specs.Prelude.{◌≡◌, refl, List, ◌++◌, length, T, eqb}
use Rattle.std.proofs.Math.Path.{sym}
use Rattle.std.proofs.Common.{ap, ◌∙◌, arith}
use Rattle.basis.specs.declared.answer.CountAnswer.{CountAnswer}
use Rattle.basis.specs.Choice.{by-test}
use Rattle.basis.specs.Refuse.{first_of, answer}
use Rattle.basis.specs.RefuseLaws.{numbered, Clear, clear, first_found, first-later, length-ok, ok-length}
use Rattle.store.specs.Keys.{keyed}
use Rattle.basis.specs.Machine.{turn, answers, Alike, all_alike}
use Rattle.store.specs.Slice.{Slice, Whole}
use Rattle.store.specs.Plain.{Answer, refused, given, done, listed}
use Rattle.store.specs.Marks.{handle_of}
use Rattle.store.specs.Lists.{Lists, Sized, lives_in, plain_of, list_step}
use Rattle.store.specs.Refines.{Sound, sound-put, sound-release, sound-list, sound-compact, alike}
use Rattle.store_write.specs.Calls.{Rooms}
use Rattle.store_party.specs.Parties.{part_of, party_step}
use Rattle.store_party.specs.PartiesLaws.{rejoined-same}
use Rattle.store_party.specs.Ready.{share}
use Rattle.store_entries.specs.declared.answer.HandleAnswer.{HandleAnswer}
use Rattle.store_entries.specs.declared.answer.DoneAnswer.{DoneAnswer}
use Rattle.store_entries.specs.Answers.{handle_answer, done_answer, count_answer}
use Rattle.store_entries.specs.StoreRows.{places, slice_rows, party_rows}
use Rattle.store_entries.specs.StoreEntry.{Asked, to_put, to_release, to_list, to_compact, call_of, own_rows, asked_turn, plain_turn, Called, called, lists_rows, call_rows, call_refusal, store_turn, StoreLeft, shown_by, list_turn, ListLeft, last_rows, whole_rows, refusal_in}

-- ---- lists of the right lengths are not refused by number 1

pub lists-clear : (w : Lists) → Sized places w → Clear (lists_rows w)
lists-clear w z =
    let a = z.marks in
    let b = z.ones in (
      ok-length 1 (length w.held) places (omega arith),
      (ok-length 4 (length w.at) places z.fours, (ok-length 6 (length w.shape) places z.sixes, (ok-length 1 (length w.edition) places (omega arith), tt))),
    )

pub clear-lists : (w : Lists) → Clear (lists_rows w) → Sized places w
clear-lists w c =
    let a : length w.held ≡ 1 * places = length-ok 1 (length w.held) places c.0 in
    let b : length w.edition ≡ 1 * places = length-ok 1 (length w.edition) places c.1.1.1.0 in
    record {
      marks = omega arith;
      fours = length-ok 4 (length w.at) places c.1.0;
      sixes = length-ok 6 (length w.shape) places c.1.1.0;
      ones = omega arith;
    }

-- a slice that its own rows let through is four codes and six numbers
pub slice-whole : (x : Slice) → first_of (slice_rows x.code x.number) ≡ 0 → Whole x
slice-whole x e =
    let ok = clear (slice_rows x.code x.number) tt e in
    let a : length x.code ≡ 4 * 1 = length-ok 4 (length x.code) 1 ok.0 in
    let b : length x.number ≡ 6 * 1 = length-ok 6 (length x.number) 1 ok.1.0 in
    record { four = omega arith; six = omega arith }

-- ---- lists of any number of places that a mark can name, which is 2,047: one call, and every history of calls

module _ (cap : ℕ) (few : cap ≤ 2047) where
  own-sound : (a : Asked) → first_of (own_rows cap a) ≡ 0 → Sound (call_of a)
  unfolding call_of own_rows
  own-sound (to_put x) e = sound-put (slice-whole x e)
  own-sound (to_release h) e = sound-release
  own-sound (to_list h a s d) e = sound-list
  own-sound to_compact e = sound-compact

  by_number : (s : Lists) (a : Asked) → Sized cap s → (n : ℕ) → first_of (own_rows cap a) ≡ n → Alike (plain_of cap) (Sized cap) (asked_turn cap) (plain_turn cap) s a
  unfolding asked_turn plain_turn answer
  by_number s a z zero e =
      let i = alike cap few s (call_of a) (own-sound a e) z in
      record { says = rw e i.says; leaves = rw e i.leaves; keeps = rw e i.keeps }
  by_number s a z (suc n) e = record { says = rw e; leaves = rw e; keeps = rw e z }

  pub asked-alike : (s : Lists) (a : Asked) → Sized cap s → Alike (plain_of cap) (Sized cap) (asked_turn cap) (plain_turn cap) s a
  asked-alike s a z = by_number s a z (first_of (own_rows cap a)) refl

  pub asked-plain : (s : Lists) (calls : List Asked) → Sized cap s → answers (asked_turn cap) s calls ≡ answers (plain_turn cap) (plain_of cap s) calls
  asked-plain s calls z = all_alike (plain_of cap) (Sized cap) (asked_turn cap) (plain_turn cap) asked-alike s calls z

-- ---- the whole table: the number that is given is the first of the call's rows and, after them, of the store's own

pub numbered-own : (cap : ℕ) (a : Asked) → T (numbered (own_rows cap a))
unfolding own_rows
numbered-own cap (to_put x) = tt
numbered-own cap (to_release h) = tt
numbered-own cap (to_list h a s e) = tt
numbered-own cap to_compact = tt

numbered-call : (w : Lists) (v : Called) → T (numbered (call_rows w v))
unfolding call_rows own_rows
numbered-call w v = go v.asked
  where
    go : (a : Asked) → T (numbered (lists_rows w ++ (own_rows share a ++ party_rows v.party)))
    go (to_put x) = tt
    go (to_release h) = tt
    go (to_list h a s e) = tt
    go to_compact = tt

last-number : (cap : ℕ) (s : Lists) (a : Asked) → refusal_in (list_step cap s (call_of a)).answer ≡ first_of (last_rows cap s a)
unfolding refusal_in list_step last_rows call_of first_of
last-number cap s (to_put x) = by-test (eqb (length (lives_in cap s)) cap) (λ e. rw e) (λ e. rw e)
last-number cap s (to_release h) = by-test (keyed handle_of (lives_in cap s) h) (λ e. rw e) (λ e. rw e)
last-number cap s (to_list h a s' e) = refl
last-number cap s to_compact = refl

pub whole-table : (w : Lists) (v : Called) → refusal_in (store_turn w v).answer ≡ first_of (whole_rows w v)
unfolding store_turn whole_rows call_refusal
whole-table w v = go (first_of (call_rows w v)) refl
  where
    go : (n : ℕ) → first_of (call_rows w v) ≡ n
        → refusal_in (answer (λ k. turn (refused k) w) n (party_step share v.party w (call_of v.asked))).answer ≡ first_of (call_rows w v ++ last_rows share (part_of share v.party w) v.asked)
    go zero e =
        unfold answer party_step in
        last-number share (part_of share v.party w) v.asked
        ∙ sym (first-later (call_rows w v) (last_rows share (part_of share v.party w) v.asked) (clear (call_rows w v) (numbered-call w v) e))
    go (suc n) e = unfold answer refusal_in in sym (first_found (call_rows w v) (last_rows share (part_of share v.party w) v.asked) (λ z. let q : suc n ≡ 0 = sym e ∙ z in omega arith) ∙ e)

-- ---- "nothing lent is written": a refused call leaves every list as it was, all of it, and not only the party's part

step-refused : (cap : ℕ) (s : Lists) (a : Asked) → (refusal_in (list_step cap s (call_of a)).answer ≡ 0 → ⊥) → (list_step cap s (call_of a)).left ≡ s
unfolding refusal_in list_step call_of
step-refused cap s (to_put x) h = by-test (eqb (length (lives_in cap s)) cap) (λ e. rw e) (λ e. absurd (h (rw e)))
step-refused cap s (to_release k) h = by-test (keyed handle_of (lives_in cap s) k) (λ e. absurd (h (rw e))) (λ e. rw e)
step-refused cap s (to_list k a s' d) h = refl
step-refused cap s to_compact h = absurd (h refl)

pub turn-refused : (w : Lists) (v : Called) → (refusal_in (store_turn w v).answer ≡ 0 → ⊥) → (store_turn w v).left ≡ w
unfolding store_turn answer party_step
turn-refused w v = go (call_refusal w v)
  where
    go : (n : ℕ) → (refusal_in (answer (λ k. turn (refused k) w) n (party_step share v.party w (call_of v.asked))).answer ≡ 0 → ⊥)
        → (answer (λ k. turn (refused k) w) n (party_step share v.party w (call_of v.asked))).left ≡ w
    go zero h = rw (step-refused share (part_of share v.party w) v.asked h) (rejoined-same share v.party w)
    go (suc n) h = refl

shown-refused : (a : Answer Slice) (o : Rooms) → (refusal_in a ≡ 0 → ⊥) → shown_by a o ≡ o
unfolding shown_by refusal_in
shown-refused (refused n) o h = refl
shown-refused (given k) o h = refl
shown-refused done o h = refl
shown-refused (listed l) o h = absurd (h refl)

-- the number of each entry's answer is the one that the store gives

handle-number : (a : Answer Slice) → (handle_answer a).refusal ≡ refusal_in a
unfolding refusal_in
handle-number (refused n) = refl
handle-number (given k) = refl
handle-number done = refl
handle-number (listed l) = refl

done-number : (a : Answer Slice) → (done_answer a).refusal ≡ refusal_in a
unfolding refusal_in
done-number (refused n) = refl
done-number (given k) = refl
done-number done = refl
done-number (listed l) = refl

count-number : (a : Answer Slice) → (count_answer a).refusal ≡ refusal_in a
unfolding refusal_in
count-number (refused n) = refl
count-number (given k) = refl
count-number done = refl
count-number (listed l) = refl

-- ---- of each entry, from its contract alone: whatever number other than 0 it gives, each list is at exit what it was at entry

untouched : {R : Type 0} (f : Answer Slice → R) (number : R → ℕ) → ((a : Answer Slice) → number (f a) ≡ refusal_in a)
    → (w : Lists) (v : Called) (r : R) (left : Lists) → StoreLeft f w v r left → (number r ≡ 0 → ⊥) → left ≡ w
untouched f number told w v r left holds some = holds.lists ∙ turn-refused w v (λ z. some (ap number holds.answers ∙ told (store_turn w v).answer ∙ z))

pub put-untouched : (w : Lists) (p : ℕ) (x : Slice) (r : HandleAnswer) (left : Lists) → StoreLeft handle_answer w (called p (to_put x)) r left → (r.refusal ≡ 0 → ⊥) → left ≡ w
put-untouched w p x = untouched handle_answer (λ (a : HandleAnswer). a.refusal) handle-number w (called p (to_put x))

pub release-untouched : (w : Lists) (p k : ℕ) (r : DoneAnswer) (left : Lists) → StoreLeft done_answer w (called p (to_release k)) r left → (r.refusal ≡ 0 → ⊥) → left ≡ w
release-untouched w p k = untouched done_answer (λ (a : DoneAnswer). a.refusal) done-number w (called p (to_release k))

pub compact-untouched : (w : Lists) (p : ℕ) (r : DoneAnswer) (left : Lists) → StoreLeft done_answer w (called p to_compact) r left → (r.refusal ≡ 0 → ⊥) → left ≡ w
compact-untouched w p = untouched done_answer (λ (a : DoneAnswer). a.refusal) done-number w (called p to_compact)

-- the store's own lists are only read by this one
pub list-untouched : (w : Lists) (p : ℕ) (o : Rooms) (r : CountAnswer) (left : Rooms) → ListLeft w p o r left → (r.refusal ≡ 0 → ⊥) → left ≡ o
list-untouched w p o r left holds some =
    holds.room ∙ shown-refused (list_turn w p o).answer o (λ z. some (ap (λ (a : CountAnswer). a.refusal) holds.answers ∙ count-number (list_turn w p o).answer ∙ z))
