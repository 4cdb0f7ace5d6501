-- What the store's entries are proved by: acceptance, and the ways out.
use Prim.Native.Nat.{ℕ, ◌≤◌, ◌<◌}
use mathlib.Core.Bool.{Bool, true}
use mathlib.Core.Path.{◌≡◌, refl, sym, ap, ◌∙◌}
use mathlib.Core.List.{List, [], ◌++◌}
use native.Mathlib.Omega.{arith}
use lib.ListN.{length}
use lib.Dec.{T, eqb}
use lib.Ieee.{Float}
use borrow.Author.Tests.{ltb-false}
use Rattle.basis.specs.declared.answer.CountAnswer.{CountAnswer}
use Rattle.basis.specs.Answers.{count_refused, counted}
use Rattle.basis.specs.Choice.{by-test}
use Rattle.basis.specs.Refuse.{Row, first_from}
use Rattle.basis.specs.RefuseLaws.{numbered, Clear, clear, clear-left, clear-right, none-clear, go-rows, part-stops, answer-no, answer-yes}
use Rattle.std.specs.Prelude.{Option}
use Rattle.store.specs.Keys.{keyed}
use Rattle.basis.specs.Machine.{Turn, turn}
use Rattle.store.specs.Slice.{Slice, slice_of}
use Rattle.store.specs.Plain.{put, compact, Answer, refused, listed}
use Rattle.store.specs.Blocks.{block}
use Rattle.store.specs.Marks.{handle_of, lives_of}
use Rattle.store.specs.Lists.{Lists, lists, lives_in, plain_of, list_step}
use Rattle.store_write.specs.Calls.{Turned, handle_as, Rooms, rooms}
use Rattle.store_party.specs.Parties.{part_of, party_step}
use Rattle.store_party.specs.Ready.{share, PartFits, PartPutFits, PartMarksFit, PartReleased, PartListFits, PartListed}
use Rattle.store_party.specs.PartiesLaws.{released-left}
use Rattle.store_entries.specs.declared.answer.HandleAnswer.{HandleAnswer}
use Rattle.store_entries.specs.declared.answer.DoneAnswer.{DoneAnswer}
use Rattle.store_entries.specs.Answers.{handle_refused, handle_from, handle_answer, done_refused, done_from, done_answer}
use Rattle.store_entries.specs.StoreRows.{slice_rows, room_rows, party_rows}
use Rattle.store_entries.specs.StoreEntry.{to_put, to_release, to_list, to_compact, call_of, own_rows, Called, called, lists_rows, call_rows, call_refusal, store_turn, StoreLeft, shown_by, list_turn, ListLeft}
use Rattle.store_entries.specs.StoreTheorems.{clear-lists, slice-whole}

-- ---- a call that is refused, and one that is not

refused-turn : (w : Lists) (v : Called) (n : ℕ) → n ≡ call_refusal w v → (n ≡ 0 → ⊥) → store_turn w v ≡ turn (refused n) w
unfolding store_turn
refused-turn w v n e h =
    sym (answer-no (λ k. turn (refused k) w) n (call_refusal w v) (party_step share v.party w (call_of v.asked)) (turn (refused n) w) e h refl)

given-turn : (w : Lists) (v : Called) (n : ℕ) → n ≡ call_refusal w v → n ≡ 0 → store_turn w v ≡ party_step share v.party w (call_of v.asked)
unfolding store_turn
given-turn w v n e z =
    let t : Turn Lists (Answer Slice) = party_step share v.party w (call_of v.asked) in
    sym (answer-yes (λ k. turn (refused k) w) n (call_refusal w v) (party_step share v.party w (call_of v.asked)) (party_step share v.party w (call_of v.asked)) e z refl)

left-refused : {R : Type 0} (f : Answer Slice → R) (w : Lists) (v : Called) (n : ℕ) (r : R) → n ≡ call_refusal w v → (n ≡ 0 → ⊥) → r ≡ f (refused n) → StoreLeft f w v r w
left-refused f w v n r e h q =
    let t : store_turn w v ≡ turn (refused n) w = refused-turn w v n e h in
    record { answers = rw t q; lists = rw t }

left-given : {R : Type 0} (f : Answer Slice → R) (w : Lists) (v : Called) (n : ℕ) (r : R) (left : Lists) → n ≡ call_refusal w v → n ≡ 0
    → r ≡ f (party_step share v.party w (call_of v.asked)).answer → left ≡ (party_step share v.party w (call_of v.asked)).left → StoreLeft f w v r left
left-given f w v n r left e z p q =
    let t : store_turn w v ≡ party_step share v.party w (call_of v.asked) = given-turn w v n e z in
    record { answers = rw t p; lists = rw t q }

-- ---- what acceptance tells: lists of the right lengths, and a known party

known-party : (q : ℕ) → Clear (party_rows q) → q < 2
known-party q c = let h : q ≤ 1 = ltb-false 1 q c.0 in omega arith

part-fits : (w : Lists) (q : ℕ) (rows : List Row) → Clear (lists_rows w ++ (rows ++ party_rows q)) → PartFits w q
part-fits w q rows c =
    record {
      sized = clear-lists w (clear-left (lists_rows w) (rows ++ party_rows q) c);
      known = known-party q (clear-right rows (party_rows q) (clear-right (lists_rows w) (rows ++ party_rows q) c));
    }

-- lists of the right lengths, and a slice that is refused
pub put-stops : (w : Lists) (x : Slice) (q p k n : ℕ) → p ≡ first_from 0 (lists_rows w) → p ≡ 0 → k ≡ first_from 0 (slice_rows x.code x.number) → (k ≡ 0 → ⊥) → n ≡ k
    → n ≡ call_refusal w (called q (to_put x))
unfolding call_refusal call_rows own_rows
put-stops w x q p k n e z f h i =
    i ∙ go-rows (lists_rows w) (slice_rows x.code x.number ++ party_rows q) p k tt tt e z (part-stops (slice_rows x.code x.number) (party_rows q) k f h)

-- where the number is 0, no row's fault is there
number-clear : (w : Lists) (v : Called) (rows : List Row) → own_rows share v.asked ≡ rows → T (numbered (lists_rows w ++ (rows ++ party_rows v.party))) → (n : ℕ)
    → n ≡ call_refusal w v → n ≡ 0 → Clear (lists_rows w ++ (rows ++ party_rows v.party))
unfolding call_refusal call_rows
number-clear w v rows o t n e z = clear (lists_rows w ++ (rows ++ party_rows v.party)) t (rw o at (sym e ∙ z))

-- ---- entry by entry, over the four lists as they are lent

module _ (held at : List ℕ) (shape : List Float) (edition : List ℕ) where
  -- ---- put
  module _ (c : List ℕ) (m : List Float) (d q n : ℕ) (put-number : n ≡ call_refusal (lists held at shape edition) (called q (to_put (slice_of c m d)))) where
    pub put_refused : (r : HandleAnswer) → (n ≡ 0 → ⊥) → r ≡ handle_refused n
        → StoreLeft handle_answer (lists held at shape edition) (called q (to_put (slice_of c m d))) r (lists held at shape edition)
    put_refused r h k = left-refused handle_answer (lists held at shape edition) (called q (to_put (slice_of c m d))) n r put-number h k

    put-clear : n ≡ 0 → Clear (lists_rows (lists held at shape edition) ++ (slice_rows c m ++ party_rows q))
    unfolding own_rows
    put-clear z = number-clear (lists held at shape edition) (called q (to_put (slice_of c m d))) (slice_rows c m) refl tt n put-number z

    pub put-fits : n ≡ 0 → PartPutFits (lists held at shape edition) q (slice_of c m d)
    put-fits z =
        record {
          fits = part-fits (lists held at shape edition) q (slice_rows c m) (put-clear z);
          whole = slice-whole (slice_of c m d)
              (none-clear (slice_rows c m) (clear-left (slice_rows c m) (party_rows q) (clear-right (lists_rows (lists held at shape edition)) (slice_rows c m ++ party_rows q) (put-clear z))));
        }

    pub put-given : (h : Option ℕ) (r : HandleAnswer) (left : Lists) → n ≡ 0 → Turned handle_as (party_step share q (lists held at shape edition) (put (slice_of c m d))) h left → r ≡ handle_from h
        → StoreLeft handle_answer (lists held at shape edition) (called q (to_put (slice_of c m d))) r left
    put-given h r left z t k = left-given handle_answer (lists held at shape edition) (called q (to_put (slice_of c m d))) n r left put-number z (k ∙ said) left_is
      where
        same : handle_from (handle_as (party_step share q (lists held at shape edition) (put (slice_of c m d))).answer)
            ≡ handle_answer (party_step share q (lists held at shape edition) (call_of (to_put (slice_of c m d)))).answer
        same =
            unfold call_of party_step list_step in
            by-test (eqb (length (lives_in share (part_of share q (lists held at shape edition)))) share) (λ x. rw x) (λ x. rw x)

        said : handle_from h ≡ handle_answer (party_step share q (lists held at shape edition) (call_of (to_put (slice_of c m d)))).answer
        said = ap handle_from t.says ∙ same

        left_is : left ≡ (party_step share q (lists held at shape edition) (call_of (to_put (slice_of c m d)))).left
        left_is = unfold call_of in t.leaves

  -- ---- release and compaction: no rows of their own
  module _ (q n : ℕ) (compact-number : n ≡ call_refusal (lists held at shape edition) (called q to_compact)) where
    release-number : (k : ℕ) → n ≡ call_refusal (lists held at shape edition) (called q (to_release k))
    unfolding call_refusal call_rows own_rows
    release-number k = compact-number

    fits_both : n ≡ 0 → PartFits (lists held at shape edition) q
    unfolding own_rows
    fits_both z = part-fits (lists held at shape edition) q [] (number-clear (lists held at shape edition) (called q to_compact) [] refl tt n compact-number z)

    pub release-refused : (k : ℕ) (r : DoneAnswer) → (n ≡ 0 → ⊥) → r ≡ done_refused n → StoreLeft done_answer (lists held at shape edition) (called q (to_release k)) r (lists held at shape edition)
    release-refused k r h x = left-refused done_answer (lists held at shape edition) (called q (to_release k)) n r (release-number k) h x

    pub release-fits : n ≡ 0 → PartMarksFit held q
    release-fits z = let f = fits_both z in record { whole = f.sized.marks; known = f.known }

    pub release-given : (k : ℕ) (found : Bool) (r : DoneAnswer) (held' : List ℕ) → n ≡ 0 → PartReleased held q k found held' → r ≡ done_from found
        → StoreLeft done_answer (lists held at shape edition) (called q (to_release k)) r (lists held' at shape edition)
    release-given k found r held' z t x =
        left-given done_answer (lists held at shape edition) (called q (to_release k)) n r (lists held' at shape edition) (release-number k) z (x ∙ said) left_is
      where
        same : done_from (keyed handle_of (lives_of share (block share held q)) k) ≡ done_answer (party_step share q (lists held at shape edition) (call_of (to_release k))).answer
        same = unfold call_of party_step part_of list_step in by-test (keyed handle_of (lives_of share (block share held q)) k) (λ y. rw y) (λ y. rw y)

        said : done_from found ≡ done_answer (party_step share q (lists held at shape edition) (call_of (to_release k))).answer
        said = ap done_from t.found ∙ same

        left_is : lists held' at shape edition ≡ (party_step share q (lists held at shape edition) (call_of (to_release k))).left
        left_is = unfold call_of in released-left (lists held at shape edition) q k held' t

    pub compact-refused : (r : DoneAnswer) → (n ≡ 0 → ⊥) → r ≡ done_refused n → StoreLeft done_answer (lists held at shape edition) (called q to_compact) r (lists held at shape edition)
    compact-refused r h x = left-refused done_answer (lists held at shape edition) (called q to_compact) n r compact-number h x

    pub compact-fits : n ≡ 0 → PartFits (lists held at shape edition) q
    compact-fits z = fits_both z

    pub compact-given : (r : DoneAnswer) (left : Lists) → n ≡ 0 → left ≡ (party_step share q (lists held at shape edition) compact).left → r ≡ done_from true
        → StoreLeft done_answer (lists held at shape edition) (called q to_compact) r left
    compact-given r left z t x = left-given done_answer (lists held at shape edition) (called q to_compact) n r left compact-number z said left_is
      where
        said : r ≡ done_answer (party_step share q (lists held at shape edition) (call_of to_compact)).answer
        said = unfold call_of party_step list_step in x

        left_is : left ≡ (party_step share q (lists held at shape edition) (call_of to_compact)).left
        left_is = unfold call_of in t

  -- ---- the list
  module _ (rh ra : List ℕ) (rs : List Float) (rd : List ℕ) (q n : ℕ) (list-number : n ≡ call_refusal (lists held at shape edition) (called q (to_list (length rh) (length ra) (length rs) (length rd)))) where
    pub list-refused : (r : CountAnswer) → (n ≡ 0 → ⊥) → r ≡ count_refused n → ListLeft (lists held at shape edition) q (rooms rh ra rs rd) r (rooms rh ra rs rd)
    unfolding shown_by
    list-refused r h x =
        let t = refused-turn (lists held at shape edition) (called q (to_list (length rh) (length ra) (length rs) (length rd))) n list-number h in
        record { answers = rw t x; room = rw t }

    list-clear : n ≡ 0 → Clear (lists_rows (lists held at shape edition) ++ (room_rows share (length rh) (length ra) (length rs) (length rd) ++ party_rows q))
    unfolding own_rows
    list-clear z =
        number-clear (lists held at shape edition) (called q (to_list (length rh) (length ra) (length rs) (length rd))) (room_rows share (length rh) (length ra) (length rs) (length rd)) refl tt n list-number z

    pub list-fits : n ≡ 0 → PartListFits (lists held at shape edition) q (rooms rh ra rs rd)
    list-fits z =
        let rows : List Row = room_rows share (length rh) (length ra) (length rs) (length rd) in
        let ok = clear-left (room_rows share (length rh) (length ra) (length rs) (length rd)) (party_rows q)
        (clear-right (lists_rows (lists held at shape edition)) (room_rows share (length rh) (length ra) (length rs) (length rd) ++ party_rows q) (list-clear z)) in
        let a = ltb-false (length rh) 896 ok.0 in
        let b = ltb-false (length ra) 3584 ok.1.0 in
        let c = ltb-false (length rs) 5376 ok.1.1.0 in
        let d = ltb-false (length rd) 896 ok.1.1.1.0 in
        record {
          fits = part-fits (lists held at shape edition) q (room_rows share (length rh) (length ra) (length rs) (length rd)) (list-clear z);
          room = record { ones = a; fours = b; sixes = c; editions = d };
        }

    pub list-given : (k : ℕ) (r : CountAnswer) (left : Rooms) → n ≡ 0 → PartListed (lists held at shape edition) q (rooms rh ra rs rd) k left → r ≡ counted k
        → ListLeft (lists held at shape edition) q (rooms rh ra rs rd) r left
    list-given k r left z t x = record { answers = rw whole (x ∙ ap (λ (j : ℕ). counted j) t.count); room = rw whole shows }
      where
        whole : (list_turn (lists held at shape edition) q (rooms rh ra rs rd)).answer ≡ listed (plain_of share (part_of share q (lists held at shape edition)))
        whole =
            ap (λ (u : Turn Lists (Answer Slice)). u.answer) (given-turn (lists held at shape edition) (called q (to_list (length rh) (length ra) (length rs) (length rd))) n list-number z)
            ∙ (unfold call_of party_step list_step in refl)

        shows : left ≡ shown_by (listed (plain_of share (part_of share q (lists held at shape edition)))) (rooms rh ra rs rd)
        shows = unfold shown_by in t.shows
