-- Demand 3, said of the stitch by tolerances: from its contract `StitchLeft` alone, whatever answer and lists it permits. `mask_stitch` names a setting, and its contract is
-- `NamedStitch`. named_entries/specs/NamedTheorems.antt says the same of it: `by-tolerances` leads from its contract to this one, `named-demand` has the rounds and the chains,
-- and `named-need-accepted` `named-shorter-refused` `named-need-is-reached` have the room.
use Prim.Native.Nat.{ℕ, zero, suc, ◌+◌, ◌-◌, ◌≤◌}
use Rattle.std.specs.Prelude.{Bool, true, false, ◌&&◌, ◌≡◌, T, eqb, drop}
use Rattle.std.proofs.lemmas.Bool.{false≢true}
use Rattle.std.proofs.Math.Path.{refl, ap}
use Rattle.std.proofs.Common.{sym, ◌∙◌, inl, inr, arith, lt-ltb, le-ltb, eqb-true, length-append, take_at, drop_at}
use mathlib.Core.List.{List, [], ◌∷◌, ◌++◌, append_assoc, map, map-map, flat_map, flatten}
use Rattle.std.proofs.Math.ListN.{length, get_or, take}
use Rattle.std.proofs.lemmas.List.{length-map}
use Rattle.basis.specs.All.{All}
use Rattle.basis.specs.Sizes.{most_slices}
use Rattle.basis.specs.Room.{room_of}
use Rattle.basis.specs.RoomLaws.{room-front}
use Rattle.basis.specs.Choice.{T-left, T-right, true_of}
use Rattle.basis.specs.Refuse.{Row, row, first_of, answer}
use Rattle.basis.specs.RefusalOrder.{Applies}
use Rattle.basis.specs.RefuseLaws.{clear, clear-left, clear-right, none-clear, first-later, answer-zero, answer-accepted}
use Rattle.outline.specs.declared.point.Vertex.{Vertex}
use Rattle.stitch_run.specs.Run.{Chain, slices_of, order_of}
use Rattle.stitch_run.specs.Demand3.{LowestFirst}
use Rattle.stitch_run.specs.Stitch.{Given, run_of, totals, round_count, loop_count, chain_count, chain_items, chain_end_items}
use Rattle.stitch_run.specs.Demand3Theorems.{exactly-n-rounds, each-slice-once, no-other-slice, lowest-begins, chains-ascend, chain-items, chain-end-items}
use Rattle.stitch_run.specs.NeedIsTight.{to_and_fro, Tight, need-is-tight}
use Rattle.stitch.specs.Lent.{Lists, Long}
use Rattle.stitch_entries.specs.declared.answer.StitchAnswer.{StitchAnswer}
use Rattle.stitch_entries.specs.Answers.{stitch_refused, stitch_given}
use Rattle.slice.specs.Editions.{Editions, edition_list_rows}
use Rattle.stitch_entries.specs.StitchEntry.{lengths_of, stitch_number, StitchLeft}
use Rattle.stitch_faults.specs.StitchTable.{shape_rows, input_rows, edition_part, room_part, stitch_rows, stitch_refusal}
use Rattle.stitch_faults.specs.Matching.{Matched, base_refusal, base-number, one_edition, one-matched}
use Rattle.stitch_entries.specs.TightLaws.{codes-whole, tight-shape}
use Rattle.stitch_entries.specs.Demand.{parted, chains_in, Demanded, Shorter}

-- ---- lists one after the other, parted where each ends

parted-totals : (before : List ℕ) (m : ℕ) → length before ≡ m → (parts : List (List ℕ)) (rest : List ℕ)
    → parted m (totals m (map length parts)) (before ++ (flatten parts ++ rest)) ≡ parts
unfolding parted totals flatten
parted-totals before m e [] rest = refl
parted-totals before m e (c ∷ parts) rest =
    let k : m + length c - m ≡ length c = omega arith in
    let d : drop m (before ++ ((c ++ flatten parts) ++ rest)) ≡ c ++ (flatten parts ++ rest) = drop_at before _ m e ∙ append_assoc c (flatten parts) rest in
    let q : before ++ ((c ++ flatten parts) ++ rest) ≡ (before ++ c) ++ (flatten parts ++ rest) = ap (λ (l : List ℕ). before ++ l) (append_assoc c (flatten parts) rest) ∙ sym (append_assoc before c (flatten parts ++ rest)) in
    let n : length (before ++ c) ≡ m + length c = omega (arith, length-append before c) in
    rw (k, d, take_at c (flatten parts ++ rest) (length c) refl)
    (ap (λ (l : List (List ℕ)). c ∷ l) (rw q (parted-totals (before ++ c) (m + length c) n parts rest)))

flatten-map : (l : List (Chain (List Vertex))) → flatten (map slices_of l) ≡ order_of l
unfolding flatten order_of flat_map
flatten-map [] = refl
flatten-map (c ∷ l) = rw (flatten-map l)

all_map : (l : List (Chain (List Vertex))) → All (λ c. LowestFirst (slices_of c)) l → All LowestFirst (map slices_of l)
all_map [] a = tt
all_map (c ∷ l) a = (a.0, all_map l a.1)

-- ---- rows that all have one number

abbrev only_number : ℕ → List Row → Bool
only_number n [] = true
only_number n (row b m ∷ t) = eqb m n && only_number n t

first-same : (n : ℕ) (s : List Row) → T (only_number n s) → Applies n s → first_of s ≡ n
unfolding first_of
first-same n [] h a = absurd a
first-same n (row true m ∷ s) h a = eqb-true m n (true_of (eqb m n) (T-left (eqb m n) (only_number n s) h))
first-same n (row false m ∷ s) h (inl (p, q)) = absurd (false≢true p)
first-same n (row false m ∷ s) h (inr a) = first-same n s (T-right (eqb m n) (only_number n s) h) a

-- the rows of number 9
abbrev rooms : Given → Lists → List Row
rooms g x = room_part g (lengths_of x)

-- ---- an accepted call

module _ (g : Given) (e : Editions) (x : Lists) (r : StitchAnswer) (left : Lists) (holds : StitchLeft g e x r left) where
  module _ (accepted : r.refusal ≡ 0) where
    number : stitch_number g e x ≡ 0
    number = answer-zero stitch_refused (λ a. a.refusal) (stitch_number g e x) _ r (λ k. refl) holds.answers accepted

    told : r ≡ stitch_given (round_count g) (loop_count g) (chain_count g)
    told = answer-accepted stitch_refused (stitch_number g e x) _ r holds.answers number

    chain-is : left.chain ≡ room_of 0 1 g.slices (chain_items g) x.chain
    chain-is = answer-accepted (λ _. x.chain) (stitch_number g e x) _ left.chain holds.chain number

    ends_is : left.chain_ends ≡ room_of 0 1 g.slices (chain_end_items g) x.chain_ends
    ends_is = answer-accepted (λ _. x.chain_ends) (stitch_number g e x) _ left.chain_ends holds.chain_ends number

    order_is : take g.slices left.chain ≡ chain_items g
    order_is = room-front 0 1 g.slices (chain_items g) x.chain left.chain g.slices chain-is (chain-items g)

    chains-are : r.chains ≡ chain_count g
    chains-are = ap (λ (a : StitchAnswer). a.chains) told

    parts_are : chains_in r.chains left ≡ map slices_of (run_of g)
    unfolding chain_items chain_end_items room_of
    parts_are =
        let parts = map slices_of (run_of g) in
        let h : take r.chains left.chain_ends ≡ totals 0 (map length parts) =
        ap (λ (n : ℕ). take n left.chain_ends) chains-are
        ∙ room-front 0 1 g.slices (chain_end_items g) x.chain_ends left.chain_ends (chain_count g) ends_is (chain-end-items g)
        ∙ ap (totals 0) (sym (map-map length slices_of (run_of g))) in
        rw (h, chain-is, ← flatten-map (run_of g)) (parted-totals [] 0 refl parts _)

    -- Whatever the answer and the lists: there are as many rounds as slices, and the chains that are listed are those of demand 3.
    pub stitch-demand : Demanded g.slices r.rounds r.chains (take g.slices left.chain) (chains_in r.chains left)
    unfolding chain_items chain_count
    stitch-demand =
        record {
          rounds = ap (λ (a : StitchAnswer). a.rounds) told ∙ exactly-n-rounds g;
          permutation = rw order_is (record { size = chain-items g; once = each-slice-once g; only = no-other-slice g });
          whole = rw (parts_are, order_is) (flatten-map (run_of g));
          counted = rw (parts_are, chains-are) (length-map (run_of g) slices_of);
          lowest = rw parts_are (all_map (run_of g) (lowest-begins g));
          ascending = rw (parts_are, map-map (λ c. get_or c 0 0) slices_of (run_of g)) (chains-ascend g);
        }

    -- nothing of 1 to 8 applies to it
    pub accepted-shape : first_of (shape_rows g) ≡ 0
    unfolding stitch_refusal
    accepted-shape =
        let inputs = input_rows g (length e.slices) in
        let ok = clear-left inputs (edition_part g e ++ rooms g x) (clear (stitch_rows g e (lengths_of x)) tt number) in
        none-clear (shape_rows g) (clear-right (edition_list_rows (length e.slices) g.slices) (shape_rows g) ok)

  -- ---- the room: of a call to which nothing of 1 to 8 applies, with editions that match

  module _ (shape : first_of (shape_rows g) ≡ 0) (matched : Matched g e) where
    refusal_is : (n a b c : ℕ) → (answer stitch_refused n (stitch_given a b c)).refusal ≡ n
    unfolding answer
    refusal_is zero a b c = refl
    refusal_is (suc n) a b c = refl

    -- the rooms decide
    by-rooms : r.refusal ≡ first_of (rooms g x)
    unfolding base_refusal
    by-rooms =
        ap (λ (a : StitchAnswer). a.refusal) holds.answers ∙ refusal_is (stitch_number g e x) _ _ _ ∙ base-number g e (lengths_of x) matched
        ∙ first-later (shape_rows g) (rooms g x) (clear (shape_rows g) tt shape)

    -- the need is always enough
    pub need-accepted : Long g x → r.refusal ≡ 0
    need-accepted l =
        by-rooms
        ∙ none-clear (rooms g x) (le-ltb _ _ l.room, (le-ltb _ _ l.ends, (le-ltb _ _ l.chain, (le-ltb _ _ l.chain_ends, (le-ltb _ _ l.chain_how, tt)))))

    -- a room one number shorter than the need is refused, and so is any other list one entry shorter
    pub shorter-refused : Shorter g x → r.refusal ≡ 9
    shorter-refused h = by-rooms ∙ first-same 9 (rooms g x) tt (go h)
      where
        go : Shorter g x → Applies 9 (rooms g x)
        go (inl a) = inl (lt-ltb _ _ a, refl)
        go (inr (inl a)) = inr (inl (lt-ltb _ _ a, refl))
        go (inr (inr (inl a))) = inr (inr (inl (lt-ltb _ _ a, refl)))
        go (inr (inr (inr (inl a)))) = inr (inr (inr (inl (lt-ltb _ _ a, refl))))
        go (inr (inr (inr (inr a)))) = inr (inr (inr (inr (inl (lt-ltb _ _ a, refl)))))

-- ---- the need is tight

-- For every n from 1 to 1,792 there is a call of n slices that is accepted, in any one edition, whatever lists are lent that are as long as the need, and whose one chain
-- really holds as many vertices as the need says.
pub need-is-reached : (n : ℕ) → 1 ≤ n → n ≤ most_slices
    → ((to_and_fro n).slices ≡ n) × Tight (to_and_fro n) × ((k : ℕ) (x : Lists) (r : StitchAnswer) (left : Lists) → Long (to_and_fro n) x → StitchLeft (to_and_fro n) (one_edition k n) x r left → r.refusal ≡ 0)
need-is-reached n some few =
    (refl, need-is-tight n some, λ k x r left l h. need-accepted (to_and_fro n) (one_edition k n) x r left h (tight-shape n few) (one-matched (to_and_fro n) k (codes-whole n few)) l)
