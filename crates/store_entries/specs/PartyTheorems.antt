-- K10 at the entries: "One party's lists, handles and refusals are the same in any two histories that agree on its own calls, compaction by the other included."
use Rattle.std.specs.Prelude.{ℕ, zero, suc, ◌≤◌, ◌<◌, Bool, true, false, cond, ◌&&◌, ◌≡◌, List, [], ◌∷◌, ◌++◌, map, length, T, eqb, ltb, leb}
use Rattle.std.proofs.Math.Path.{refl}
use Rattle.std.proofs.Common.{sym, ap, ◌∙◌, arith, eqb-true, ne_eqb, ltb-true, ltb-false, lt-ltb, le-ltb, leb-true}
use Rattle.std.proofs.lemmas.Bool.{eqb-false}
use Rattle.basis.specs.Choice.{by-test, T-left, T-right, true_of}
use Rattle.basis.specs.Refuse.{Row, row, first_of, answer}
use Rattle.basis.specs.RefuseLaws.{Clear, clear, clear_both, first_found, first-later, none-clear}
use Rattle.basis.specs.Machine.{Turn, turn, answers}
use Rattle.store.specs.Slice.{Slice}
use Rattle.store.specs.Plain.{Kept, has, Answer, refused, plain_step}
use Rattle.store.specs.Lists.{Lists, Sized, lives_in, plain_of, list_step}
use Rattle.store.specs.ListsLaws.{plain-length}
use Rattle.store_party.specs.Parties.{part_of, party_step}
use Rattle.store_party.specs.PartiesLaws.{part-sized, rejoined-own, rejoined-other, rejoined-sized}
use Rattle.store_party.specs.Ready.{share}
use Rattle.store_entries.specs.StoreRows.{places, slice_rows, room_rows, party_rows}
use Rattle.store_entries.specs.StoreEntry.{Asked, to_put, to_release, to_list, to_compact, call_of, own_rows, lists_rows, asked_turn, plain_turn, Called, called, call_rows, call_refusal, store_turn, last_rows, whole_rows, refusal_in}
use Rattle.store_entries.specs.StoreTheorems.{numbered-own, lists-clear, asked-alike, asked-plain, whole-table}

-- ---- of a history: the answers that party p got, and p's own calls

unfoldable pub heard : ℕ → Lists → List Called → List (Answer Slice)
heard p w [] = []
heard p w (v ∷ h) =
    let rest = heard p (store_turn w v).left h in
    cond (eqb v.party p) ((store_turn w v).answer ∷ rest) rest

unfoldable pub own : ℕ → List Called → List Asked
own p [] = []
own p (v ∷ h) = let rest = own p h in cond (eqb v.party p) (v.asked ∷ rest) rest

-- ---- the number of a call over lists of the right lengths: the call's own, then 22

number-own : (w : Lists) (v : Called) → Sized places w → call_refusal w v ≡ first_of (own_rows share v.asked ++ party_rows v.party)
unfolding call_refusal call_rows
number-own w v z = first-later (lists_rows w) (own_rows share v.asked ++ party_rows v.party) (lists-clear w z)

-- a known party adds no row that applies
known-rows : (p : ℕ) → p < 2 → Clear (party_rows p)
known-rows p h = (le-ltb 1 p (omega arith), tt)

number-known : (a : Asked) (p : ℕ) → p < 2 → first_of (own_rows share a ++ party_rows p) ≡ first_of (own_rows share a)
number-known a p h = go (first_of (own_rows share a)) refl
  where
    go : (n : ℕ) → first_of (own_rows share a) ≡ n → first_of (own_rows share a ++ party_rows p) ≡ first_of (own_rows share a)
    go zero e = first-later (own_rows share a) (party_rows p) (clear (own_rows share a) (numbered-own share a) e) ∙ none-clear (party_rows p) (known-rows p h) ∙ sym e
    go (suc n) e = first_found (own_rows share a) (party_rows p) (λ z. let q : suc n ≡ 0 = sym e ∙ z in omega arith)

-- ---- one call: what it answers, and what it leaves of each party's part

pub record Parted (w : Lists) (v : Called) : Type 0 where
  pub says : (store_turn w v).answer ≡ (asked_turn share (part_of share v.party w) v.asked).answer
  pub mine : part_of share v.party (store_turn w v).left ≡ (asked_turn share (part_of share v.party w) v.asked).left
  pub others : (q : ℕ) → (q ≡ v.party → ⊥) → part_of share q (store_turn w v).left ≡ part_of share q w
  pub sized : Sized places (store_turn w v).left

few : share ≤ 2047
few = omega arith

parted : (w : Lists) (v : Called) → Sized places w → v.party < 2 → (n : ℕ) → first_of (own_rows share v.asked) ≡ n → Parted w v
unfolding store_turn asked_turn answer party_step
parted w v z h zero e =
    let p : ℕ = v.party in
    let q : call_refusal w v ≡ 0 = number-own w v z ∙ number-known v.asked v.party h ∙ e in
    let k : Sized share (asked_turn share (part_of share v.party w) v.asked).left = (asked-alike share few (part_of share v.party w) v.asked (part-sized share v.party w h z)).keeps in
    let s : Sized share (list_step share (part_of share v.party w) (call_of v.asked)).left = rw e at k in
    record {
      says = rw (q, e);
      mine = rw (q, e) (rejoined-own share v.party w (list_step share (part_of share v.party w) (call_of v.asked)).left h z s);
      others = λ r d. rw q (rejoined-other share v.party w (list_step share (part_of share v.party w) (call_of v.asked)).left h z s r d);
      sized = rw q (rejoined-sized share v.party w (list_step share (part_of share v.party w) (call_of v.asked)).left h z s);
    }
parted w v z h (suc n) e =
    let q : call_refusal w v ≡ suc n = number-own w v z ∙ number-known v.asked v.party h ∙ e in
    record { says = rw (q, e); mine = rw (q, e); others = λ r d. rw q; sized = rw q z }

pub one-call : (w : Lists) (v : Called) → Sized places w → v.party < 2 → Parted w v
one-call w v z h = parted w v z h (first_of (own_rows share v.asked)) refl

-- an unknown party is refused by its call alone, and changes nothing
unfoldable pub unknown_answer : ℕ → Asked → Answer Slice
unknown_answer p a = refused (first_of (own_rows share a ++ party_rows p))

unknown-party : (p : ℕ) → 2 ≤ p → first_of (party_rows p) ≡ 22
unfolding first_of
unknown-party p h = let t : ltb 1 p ≡ true = lt-ltb 1 p (omega arith) in rw t

unknown-number : (p : ℕ) (a : Asked) → 2 ≤ p → (n : ℕ) → first_of (own_rows share a) ≡ n → first_of (own_rows share a ++ party_rows p) ≡ 0 → ⊥
unknown-number p a h zero e f =
    let k : first_of (own_rows share a ++ party_rows p) ≡ 22 = first-later (own_rows share a) (party_rows p) (clear (own_rows share a) (numbered-own share a) e) ∙ unknown-party p h in
    omega arith
unknown-number p a h (suc n) e f =
    let k : first_of (own_rows share a ++ party_rows p) ≡ suc n = first_found (own_rows share a) (party_rows p) (λ z. let q : suc n ≡ 0 = sym e ∙ z in omega arith) ∙ e in
    omega arith

pub unknown-call : (w : Lists) (v : Called) → Sized places w → 2 ≤ v.party → store_turn w v ≡ turn (unknown_answer v.party v.asked) w
unfolding store_turn unknown_answer
unknown-call w v z h = rw (number-own w v z) (go (first_of (own_rows share v.asked ++ party_rows v.party)) refl)
  where
    go : (n : ℕ) → first_of (own_rows share v.asked ++ party_rows v.party) ≡ n
        → answer (λ k. turn (refused k) w) n (party_step share v.party w (call_of v.asked)) ≡ turn (refused n) w
    go zero e = absurd (unknown-number v.party v.asked h (first_of (own_rows share v.asked)) refl e)
    go (suc n) e = unfold answer in refl

-- ---- every call leaves lists of the same lengths, and the part of every other party

pub turn-sized : (w : Lists) (v : Called) → Sized places w → Sized places (store_turn w v).left
turn-sized w v z =
    by-test (ltb v.party 2)
    (λ e. (one-call w v z (ltb-true _ _ e)).sized)
    (λ e. rw (unknown-call w v z (ltb-false _ _ e)) z)

pub turn-other : (w : Lists) (v : Called) → Sized places w → (q : ℕ) → (q ≡ v.party → ⊥) → part_of share q (store_turn w v).left ≡ part_of share q w
turn-other w v z q d =
    by-test (ltb v.party 2)
    (λ e. (one-call w v z (ltb-true _ _ e)).others q d)
    (λ e. rw (unknown-call w v z (ltb-false _ _ e)))

-- ---- a history: a party hears what its own part answers to its own calls

pub heard-own : (p : ℕ) (w : Lists) (h : List Called) → p < 2 → Sized places w → heard p w h ≡ answers (asked_turn share) (part_of share p w) (own p h)
unfolding heard own answers
heard-own p w [] k z = refl
heard-own p w (v ∷ h) k z =
    by-test (eqb v.party p)
    (λ e.
    let i : v.party ≡ p = eqb-true _ _ e in
    let c : Parted w v = one-call w v z (omega arith) in
    let says : (store_turn w v).answer ≡ (asked_turn share (part_of share p w) v.asked).answer = c.says ∙ ap (λ (q : ℕ). (asked_turn share (part_of share q w) v.asked).answer) i in
    let mine : part_of share p (store_turn w v).left ≡ (asked_turn share (part_of share p w) v.asked).left
    = ap (λ (q : ℕ). part_of share q (store_turn w v).left) (sym i) ∙ c.mine ∙ ap (λ (q : ℕ). (asked_turn share (part_of share q w) v.asked).left) i in
    rw (e, says, heard-own p (store_turn w v).left h k (turn-sized w v z), mine))
    (λ e.
    let d : p ≡ v.party → ⊥ = λ q. eqb-false _ _ e (sym q) in
    rw (e, heard-own p (store_turn w v).left h k (turn-sized w v z), turn-other w v z p d))

pub heard-unknown : (p : ℕ) (w : Lists) (h : List Called) → 2 ≤ p → Sized places w → heard p w h ≡ map (unknown_answer p) (own p h)
unfolding heard own
heard-unknown p w [] k z = refl
heard-unknown p w (v ∷ h) k z =
    by-test (eqb v.party p)
    (λ e.
    let i : v.party ≡ p = eqb-true _ _ e in
    let says : (store_turn w v).answer ≡ unknown_answer p v.asked = ap (λ (t : Turn Lists (Answer Slice)). t.answer) (unknown-call w v z (omega arith)) ∙ ap (λ (q : ℕ). unknown_answer q v.asked) i in
    rw (e, says, heard-unknown p (store_turn w v).left h k (turn-sized w v z)))
    (λ e. rw (e, heard-unknown p (store_turn w v).left h k (turn-sized w v z)))

-- a party's answers are those of a plain list of its own, of at most 896 slices: K9's theorem, of its part
pub plain-heard : (p : ℕ) (w : Lists) (h : List Called) → p < 2 → Sized places w → heard p w h ≡ answers (plain_turn share) (plain_of share (part_of share p w)) (own p h)
plain-heard p w h k z = heard-own p w h k z ∙ asked-plain share few (part_of share p w) (own p h) (part-sized share p w k z)

-- ---- THE THEOREM of isolation: two histories, over two contents in which a party has the same live slices, answer the party alike where they agree on its own calls, whatever the other party did
pub undisturbed : (p : ℕ) (w w' : Lists) (h h' : List Called) → Sized places w → Sized places w'
    → plain_of share (part_of share p w) ≡ plain_of share (part_of share p w') → own p h ≡ own p h' → heard p w h ≡ heard p w' h'
undisturbed p w w' h h' z z' r o =
    by-test (ltb p 2)
    (λ e. plain-heard p w h (ltb-true p 2 e) z ∙ rw (r, o) (sym (plain-heard p w' h' (ltb-true p 2 e) z')))
    (λ e. heard-unknown p w h (ltb-false p 2 e) z ∙ rw o (sym (heard-unknown p w' h' (ltb-false p 2 e) z')))

-- ---- "K9's limit reads as 896 for each party": a put that numbers 3 and 5 let through is refused exactly when 896 of the party's are live

pub full-exactly : (p : ℕ) (w : Lists) (x : Slice) → p < 2 → Sized places w → first_of (slice_rows x.code x.number) ≡ 0
    → refusal_in (store_turn w (called p (to_put x))).answer ≡ first_of (row (eqb (length (plain_of share (part_of share p w))) share) 20 ∷ [])
full-exactly p w x k z e = whole-table w (called p (to_put x)) ∙ table_of
  where
    own-clear : Clear (slice_rows x.code x.number ++ party_rows p)
    own-clear = clear_both (slice_rows x.code x.number) (party_rows p) (clear (slice_rows x.code x.number) tt e) (known-rows p k)

    table_of : first_of (whole_rows w (called p (to_put x))) ≡ first_of (row (eqb (length (plain_of share (part_of share p w))) share) 20 ∷ [])
    table_of =
        unfold whole_rows call_rows own_rows last_rows in
        rw (plain-length share (part_of share p w))
        (first-later (lists_rows w ++ (slice_rows x.code x.number ++ party_rows p)) (row (eqb (length (lives_in share (part_of share p w))) share) 20 ∷ [])
        (clear_both (lists_rows w) (slice_rows x.code x.number ++ party_rows p) (lists-clear w z) own-clear))

-- ---- "is never answered 20 below that, whatever the other does"

-- the numbers of a table are at most k
abbrev at_most : ℕ → List Row → Bool
at_most k [] = true
at_most k (row b n ∷ t) = leb n k && at_most k t

first-most : (k : ℕ) (t : List Row) → T (at_most k t) → first_of t ≤ k
unfolding first_of
first-most k [] h = omega arith
first-most k (row true n ∷ t) h = leb-true n k (true_of (leb n k) (T-left (leb n k) (at_most k t) h))
first-most k (row false n ∷ t) h = first-most k t (T-right (leb n k) (at_most k t) h)

own-most : (a : Asked) → first_of (own_rows share a) ≤ 9
unfolding own_rows
own-most (to_put x) = first-most 9 (slice_rows x.code x.number) tt
own-most (to_release h) = first-most 9 [] tt
own-most (to_list h a s e) = first-most 9 (room_rows share h a s e) tt
own-most to_compact = first-most 9 [] tt

-- a plain list that is not full never answers 20
plain-room : (l : List (Kept Slice)) (a : Asked) → length l < share → refusal_in (plain_step share l (call_of a)).answer ≡ 20 → ⊥
unfolding plain_step call_of refusal_in
plain-room l (to_put x) room e =
    let d : eqb (length l) share ≡ false = ne_eqb (length l) share (λ q. omega arith) in
    let f : ◌≡◌ {A = ℕ} 0 20 = rw d at e in
    omega arith
plain-room l (to_release h) room e =
    by-test (has l h)
    (λ t. let f : ◌≡◌ {A = ℕ} 0 20 = rw t at e in omega arith)
    (λ t. let f : ◌≡◌ {A = ℕ} 21 20 = rw t at e in omega arith)
plain-room l (to_list h a s d) room e = omega arith
plain-room l to_compact room e = omega arith

plain-never : (l : List (Kept Slice)) (a : Asked) → length l < share → (n : ℕ) → first_of (own_rows share a) ≡ n → refusal_in (plain_turn share l a).answer ≡ 20 → ⊥
unfolding plain_turn answer refusal_in
plain-never l a room zero q e = plain-room l a room (rw q at e)
plain-never l a room (suc n) q e =
    let m : first_of (own_rows share a) ≤ 9 = own-most a in
    let f : suc n ≡ 20 = rw q at e in
    omega arith

pub never-full : (p : ℕ) (w : Lists) (a : Asked) → p < 2 → Sized places w → length (plain_of share (part_of share p w)) < share
    → refusal_in (store_turn w (called p a)).answer ≡ 20 → ⊥
never-full p w a k z room e =
    let c = one-call w (called p a) z k in
    let i = asked-alike share few (part_of share p w) a (part-sized share p w k z) in
    let f : refusal_in (plain_turn share (plain_of share (part_of share p w)) a).answer ≡ 20 = ap refusal_in (sym (c.says ∙ i.says)) ∙ e in
    plain-never (plain_of share (part_of share p w)) a room (first_of (own_rows share a)) refl f
