-- Theorems about a replay, over both versions: its contract leaves one answer, its number is the first that applies, 14 is of version 2 alone, and with the program's own lists
-- it never gives 9.
use Prim.Native.Nat.{ℕ, zero, suc, ◌+◌, ◌*◌, ◌≤◌, ◌<◌}
use Rattle.std.specs.Prelude.{true, false, not, cond, ◌≡◌, ltb, eqb, length}
use Rattle.std.proofs.Math.Path.{refl, sym, ap}
use Rattle.std.proofs.Common.{subst, ◌∙◌}
use mathlib.Core.List.{List, [], ◌∷◌, ◌++◌, append_assoc}
use native.Mathlib.Omega.{arith}
use borrow.Author.Tests.{ltb-true, ltb-false, lt-ltb, le-ltb, eqb-true, eqb-false, ne_eqb, not-false}
use Rattle.basis.specs.Choice.{by-test}
use Rattle.basis.specs.Sizes.{most_slices}
use Rattle.basis.specs.Refuse.{Row, row, first_of, answer}
use Rattle.basis.specs.RefuseLaws.{Clear, clear, clear-left, clear-right, none-clear, not-given, ok-length, one_answer, first_found, first-later, answer-no, answer-yes}
use Rattle.basis.specs.RefusalOrder.{refusal_order, before, First}
use Rattle.basis.specs.RefusalOrderLaws.{first-of}
use Rattle.slice.specs.Slice.{code_width, shape_width, codes_at}
use Rattle.slice.specs.SliceLaws.{offset_at}
use Rattle.slice.specs.Editions.{Editions, edition_fault, edition_list_rows}
use Rattle.stitch_run.specs.Stitch.{Given, sum_below, weight_at, need_for, need_of}
use Rattle.stitch.specs.Lent.{Lists}
use Rattle.stitch_entries.specs.StitchEntry.{lengths_of, stitch_number}
use Rattle.stitch_faults.specs.StitchTable.{list_part, code_part, number_part, index_part, shape_rows, edition_part, room_part, stitch_refusal}
use Rattle.stitch_faults.specs.Matching.{Matched, one_edition, one-matched, never-14}
use Rattle.record_form.specs.declared.form.Version.{Version}
use Rattle.record_form.specs.Form.{form_for, taken_vertices, taken_slices}
use Rattle.record.specs.Record.{plan_in, head_in, plan_held, lists_held, number_in, form_in, frame_rows, length_of, taken_rows, count_rows, room_rows, taken_lengths, read_rows}
use Rattle.record.specs.RecordLaws.{Long, read-long, counts-small}
use Rattle.record_read.specs.ReadTheorems.{NoEditions, no-editions}
use Rattle.record_replay.specs.declared.replay.ReplayAnswer.{ReplayAnswer}
use Rattle.record_replay.specs.Replayed.{held_in, dates_in, form_number, replay_number, ReplayLeft}

-- two answers that the contract permits, with what they leave in the lists, are equal
pub replay-one : (b : List ℕ) (l : Lists) (r s : ReplayAnswer) (x y : Lists) → ReplayLeft b l r x → ReplayLeft b l s y
    → (r ≡ s) × (x.room ≡ y.room) × (x.ends ≡ y.ends) × (x.chain ≡ y.chain) × (x.chain_ends ≡ y.chain_ends) × (x.chain_how ≡ y.chain_how)
replay-one b l r s x y p q = (
  one_answer r s _ p.answers q.answers,
  one_answer x.room y.room _ p.room q.room,
  one_answer x.ends y.ends _ p.ends q.ends,
  one_answer x.chain y.chain _ p.chain q.chain,
  one_answer x.chain_ends y.chain_ends _ p.chain_ends q.chain_ends,
  one_answer x.chain_how y.chain_how _ p.chain_how q.chain_how,
)

-- ---- the table of a replay, in the order of the numbers: the frame, the length by the counts, then the stitch's own rows and among them those of what the
-- program takes
abbrev pub listed : List ℕ → List Row
listed b = edition_list_rows (length (dates_in b).slices) (held_in b).slices ++ list_part (held_in b)

abbrev pub after_taken : Given → List Row
after_taken g = code_part g ++ (number_part g ++ index_part g)

abbrev pub stitch_rows : List ℕ → Lists → List Row
stitch_rows b x = after_taken (held_in b) ++ (edition_part (held_in b) (dates_in b) ++ room_part (held_in b) (lengths_of x))

abbrev pub length_row : List ℕ → Row
length_row b = row (not (eqb (length b) (length_of (form_in b) (plan_held (form_in b) b)))) 13

abbrev pub replay_rows : List ℕ → Lists → List Row
replay_rows b x = frame_rows (form_in b) b ++ (length_row b ∷ (listed b ++ (taken_rows (plan_in (held_in b)) ++ stitch_rows b x)))

module _ (b : List ℕ) where
  abbrev v : Version
  v = form_in b

  abbrev g : Given
  g = held_in b

  abbrev framed : List Row
  framed = frame_rows v b

  abbrev counted : List Row
  counted = count_rows (length b) (length_of v (plan_held v b)) (plan_held v b)

  abbrev lent : List Row
  lent = room_rows (plan_held v b) taken_lengths

  -- the lists that are read are as long as the counts say
  long : Long (plan_held v b) (lists_held v b)
  long = read-long v b

  one : length (dates_in b).slices ≡ 1 * g.slices
  one = omega (arith, long.dates)

  -- so number 1 of the stitch is there only where the program's own is
  lists-idle : (t : List Row) → first_of (listed b ++ (taken_rows (plan_in g) ++ t)) ≡ first_of (taken_rows (plan_in g) ++ t)
  unfolding first_of
  lists-idle t =
      rw (
        ok-length 1 (length (dates_in b).slices) g.slices one,
        ok-length 3 (length g.outline1) g.vc1 long.first,
        ok-length 3 (length g.outline2) g.vc2 long.second,
        ok-length code_width (length g.slice_at) g.slices long.codes,
        ok-length shape_width (length g.slice) g.slices long.shapes,
      )
      (by-test (ltb most_slices g.slices)
      (λ e. let n : most_slices < g.slices = ltb-true most_slices g.slices e in rw (e, lt-ltb taken_slices g.slices (omega arith)))
      (λ e. rw e))

  lists-clear : g.slices ≤ taken_slices → Clear (listed b)
  lists-clear few = (
    ok-length 1 (length (dates_in b).slices) g.slices one,
    (
      ok-length 3 (length g.outline1) g.vc1 long.first,
      (
        ok-length 3 (length g.outline2) g.vc2 long.second,
        (
          ok-length code_width (length g.slice_at) g.slices long.codes,
          (ok-length shape_width (length g.slice) g.slices long.shapes, (le-ltb most_slices g.slices (omega arith), tt)),
        ),
      ),
    ),
  )

  -- where the program takes the record, its lists have room for it
  lent-clear : Clear counted → Clear lent
  lent-clear c =
      let p = plan_held v b in
      let n : p.slices ≤ taken_slices = ltb-false taken_slices p.slices c.1.0 in
      let v1 : p.vc1 ≤ taken_vertices = ltb-false taken_vertices p.vc1 c.1.1.0 in
      let v2 : p.vc2 ≤ taken_vertices = ltb-false taken_vertices p.vc2 c.1.1.1.0 in (
        le-ltb (3 * taken_vertices) (3 * p.vc1) (omega arith),
        (
          le-ltb (3 * taken_vertices) (3 * p.vc2) (omega arith),
          (
            le-ltb (code_width * taken_slices) (code_width * p.slices) (omega arith),
            (le-ltb (shape_width * taken_slices) (shape_width * p.slices) (omega arith), (le-ltb taken_slices p.slices n, tt)),
          ),
        ),
      )

  -- the reader's own number
  read_number : form_number b ≡ first_of ((framed ++ counted) ++ lent)
  unfolding read_rows
  read_number = ap first_of (sym (append_assoc framed counted lent))

  module _ (x : Lists) where
    abbrev rest : List Row
    rest = stitch_rows b x

    -- the table without the rows that are idle
    idle : (s : List Row) → first_of (s ++ (length_row b ∷ (listed b ++ (taken_rows (plan_in g) ++ rest)))) ≡ first_of (s ++ (counted ++ rest))
    unfolding first_of
    idle [] = ap (cond (not (eqb (length b) (length_of v (plan_held v b)))) 13) (lists-idle rest)
    idle (row c n ∷ s) = ap (cond c n) (idle s)

    table-number : first_of (replay_rows b x) ≡ first_of ((framed ++ counted) ++ rest)
    table-number = idle framed ∙ ap first_of (sym (append_assoc framed counted rest))

    -- the frame or the counts refuse
    found_number : (first_of (framed ++ counted) ≡ 0 → ⊥) → replay_number b x ≡ first_of (replay_rows b x)
    unfolding replay_number
    found_number h =
        let n : form_number b ≡ first_of (framed ++ counted) = read_number ∙ first_found (framed ++ counted) lent h in
        sym (answer-no (λ (k : ℕ). k) (form_number b) (form_number b) (stitch_number g (dates_in b) x) (form_number b) refl (λ z. h (sym n ∙ z)) refl)
        ∙ n ∙ sym (first_found (framed ++ counted) rest h) ∙ sym table-number

    -- they do not: the stitch's own rows decide
    stitch-number : Clear (framed ++ counted) → replay_number b x ≡ first_of (replay_rows b x)
    unfolding replay_number stitch_refusal
    stitch-number c =
        let d : Clear counted = clear-right framed counted c in
        let few : g.slices ≤ taken_slices = ltb-false taken_slices g.slices d.1.0 in
        let n : form_number b ≡ 0 = read_number ∙ first-later (framed ++ counted) lent c ∙ none-clear lent (lent-clear d) in
        sym (answer-yes (λ (k : ℕ). k) (form_number b) (form_number b) (stitch_number g (dates_in b) x) (stitch_number g (dates_in b) x) refl n refl)
        ∙ first-later (listed b) rest (lists-clear few) ∙ sym (first-later (framed ++ counted) rest c) ∙ sym table-number

    replay-number : replay_number b x ≡ first_of (replay_rows b x)
    replay-number =
        by-test (eqb (first_of (framed ++ counted)) 0) (λ e. stitch-number (clear (framed ++ counted) tt (eqb-true (first_of (framed ++ counted)) 0 e)))
        (λ e. found_number (eqb-false (first_of (framed ++ counted)) 0 e))

-- the number that a replay gives applies, and none before it in the order of refusals does
pub replay-first : (b : List ℕ) (x : Lists) → First (replay_rows b x) (replay_number b x)
unfolding before refusal_order
replay-first b x = rw (replay-number b x) (first-of (replay_rows b x) tt)

-- an accepted replay is of the version that the bytes name
pub accepted-version : (b : List ℕ) (x : Lists) → replay_number b x ≡ 0 → (form_in b).number ≡ number_in b
accepted-version b x z =
    let ok = clear (replay_rows b x) tt (sym (replay-number b x) ∙ z) in
    sym (eqb-true (number_in b) (form_in b).number (not-false _ ok.1.0))

-- ---- number 14, of version 2 alone

-- the reader does not give it
module _ (b : List ℕ) (other : number_in b ≡ 2 → ⊥) where
  undated : ((form_in b).second ≡ 0) × ((form_in b).edition ≡ 0)
  unfolding form_for
  undated = rw (ne_eqb (number_in b) 2 other) (refl, refl)

  -- K14: "a version 1 record reads as .. edition 0"
  dated : Matched (held_in b) (dates_in b)
  dated =
      let e : NoEditions (head_in (form_in b) b) (lists_held (form_in b) b).slice_edition = no-editions (form_in b) undated.0 undated.1 b in
      let d : dates_in b ≡ one_edition 0 (held_in b).slices = rw (e.first, e.second, e.slices) in
      subst (λ (y : Editions). Matched (held_in b) y) (sym d) (one-matched (held_in b) 0 (long b).codes)

  pub only-version-2 : (x : Lists) → replay_number b x ≡ 14 → ⊥
  unfolding replay_number answer read_rows
  only-version-2 x = go (form_number b) refl
    where
      go : (n : ℕ) → form_number b ≡ n → answer (λ (k : ℕ). k) n (stitch_number (held_in b) (dates_in b) x) ≡ 14 → ⊥
      go zero e q = never-14 (held_in b) (dates_in b) (lengths_of x) dated q
      go (suc n) e q = not-given 14 (read_rows (form_in b) b taken_lengths) (λ z. absurd (omega (arith, z))) tt (e ∙ q)

-- ---- lists as long as the program's: three numbers for each vertex of the need of 28 slices of offset 64, and an entry for each of 28 slices
abbrev pub most_vertices_read : ℕ
most_vertices_read = 1 + taken_slices * (taken_vertices + 1)

pub record ProgramLists (x : Lists) : Type 0 where
  pub room : 3 * most_vertices_read ≤ length x.room
  pub ends : taken_slices ≤ length x.ends
  pub chain : taken_slices ≤ length x.chain
  pub chain_ends : taken_slices ≤ length x.chain_ends
  pub chain_how : taken_slices ≤ length x.chain_how

sum-small : (f : ℕ → ℕ) (n : ℕ) → ((i : ℕ) → i < n → f i ≤ taken_vertices + 1) → sum_below f n ≤ (taken_vertices + 1) * n
unfolding sum_below
sum-small f zero h = omega arith
sum-small f (suc n) h = omega (arith, sum-small f n (λ i k. h i (omega arith)), h n (omega arith))

need-small : (f : ℕ → ℕ) (n : ℕ) → n ≤ taken_slices → ((i : ℕ) → i < n → f i ≤ taken_vertices + 1) → 3 * need_for f n ≤ 3 * most_vertices_read
unfolding need_for
need-small f zero k h = omega arith
need-small f (suc n) k h = omega (arith, sum-small f (suc n) h)

-- 1 to 8, then 14
abbrev pub judged_rows : List ℕ → List Row
judged_rows b = shape_rows (held_in b) ++ edition_part (held_in b) (dates_in b)

module _ (b : List ℕ) (z : form_number b ≡ 0) where
  taken : Clear (taken_rows (plan_in (g b)))
  unfolding read_rows
  taken = (clear-left (counted b) (lent b) (clear-right (framed b) (counted b ++ lent b) (clear (framed b ++ (counted b ++ lent b)) tt z))).1

  few : (g b).slices ≤ taken_slices
  few = ltb-false taken_slices (g b).slices taken.0

  module _ (x : Lists) where
    abbrev rooms : List Row
    rooms = room_part (g b) (lengths_of x)

    -- the number of the stitch, whose list of editions is as long as its count
    judged-number : stitch_number (g b) (dates_in b) x ≡ first_of (judged_rows b ++ rooms)
    unfolding stitch_refusal first_of
    judged-number = rw (ok-length 1 (length (dates_in b).slices) (g b).slices (one b))

    -- where 1 to 8 find nothing and a slice has another edition than its outline, it is 14
    pub gives-14 : Clear (shape_rows (g b)) → edition_fault (dates_in b) (g b).slice_at ≡ true → replay_number b x ≡ 14
    unfolding replay_number first_of
    gives-14 ok t =
        sym (answer-yes (λ (k : ℕ). k) (form_number b) (form_number b) (stitch_number (g b) (dates_in b) x) (stitch_number (g b) (dates_in b) x) refl z refl)
        ∙ judged-number ∙ first-later (shape_rows (g b)) (edition_part (g b) (dates_in b) ++ rooms) ok ∙ rw t

    module _ (roomy : ProgramLists x) where
      module _ (judged : Clear (judged_rows b)) where
        ok : Clear (shape_rows (g b))
        ok = clear-left (shape_rows (g b)) (edition_part (g b) (dates_in b)) judged

        after : Clear (code_part (g b) ++ (number_part (g b) ++ index_part (g b)))
        after = clear-right (list_part (g b)) (code_part (g b) ++ (number_part (g b) ++ index_part (g b))) ok

        indexed : Clear (index_part (g b))
        indexed = clear-right (number_part (g b)) (index_part (g b)) (clear-right (code_part (g b)) (number_part (g b) ++ index_part (g b)) after)

        weight-small : (i : ℕ) → i < (g b).slices → weight_at (g b).slice_at i ≤ taken_vertices + 1
        unfolding weight_at
        weight-small i h =
            omega (
              arith,
              counts-small (plan_in (g b)) taken (codes_at (g b).slice_at i).source,
              offset_at (g b).slice_at (g b).slices (long b).codes (g b).vc1 (g b).vc2 (not-false _ indexed.1.0) i h,
            )

        need : 3 * need_of (g b).slice_at (g b).slices ≤ 3 * most_vertices_read
        unfolding need_of
        need = need-small (weight_at (g b).slice_at) (g b).slices few weight-small

        rooms-clear : Clear rooms
        rooms-clear = (
          le-ltb (length x.room) (3 * need_of (g b).slice_at (g b).slices) (omega (arith, need, roomy.room)),
          (
            le-ltb (length x.ends) (g b).slices (omega (arith, few, roomy.ends)),
            (
              le-ltb (length x.chain) (g b).slices (omega (arith, few, roomy.chain)),
              (
                le-ltb (length x.chain_ends) (g b).slices (omega (arith, few, roomy.chain_ends)),
                (le-ltb (length x.chain_how) (g b).slices (omega (arith, few, roomy.chain_how)), tt),
              ),
            ),
          ),
        )

        clear-number : stitch_number (g b) (dates_in b) x ≡ first_of (judged_rows b)
        clear-number = judged-number ∙ first-later (judged_rows b) rooms judged ∙ none-clear rooms rooms-clear ∙ sym (none-clear (judged_rows b) judged)

      -- then the stitch's number is one of 1 to 8, or 14, or none
      roomy-number : stitch_number (g b) (dates_in b) x ≡ first_of (judged_rows b)
      roomy-number =
          by-test (eqb (first_of (judged_rows b)) 0) (λ t. clear-number (clear (judged_rows b) tt (eqb-true (first_of (judged_rows b)) 0 t)))
          (λ f. judged-number ∙ first_found (judged_rows b) rooms (eqb-false (first_of (judged_rows b)) 0 f))

-- with the program's lists a replay's number is the reader's, or else one of 1 to 8, or 14, of the stitch that the bytes hold
pub program-number : (b : List ℕ) (x : Lists) → ProgramLists x → replay_number b x ≡ answer (λ (n : ℕ). n) (form_number b) (first_of (judged_rows b))
unfolding replay_number
program-number b x roomy = go (form_number b) refl
  where
    go : (n : ℕ) → form_number b ≡ n → answer (λ (k : ℕ). k) n (stitch_number (held_in b) (dates_in b) x) ≡ answer (λ (k : ℕ). k) n (first_of (judged_rows b))
    go zero e = unfold answer in roomy-number b e x roomy
    go (suc n) e = unfold answer in refl

-- the reader gives no 9: where it takes the counts, its lists have room
module _ (b : List ℕ) (q : form_number b ≡ 9) where
  abbrev read : List Row
  read = framed b ++ counted b

  read-roomy : eqb (first_of read) 0 ≡ true → ⊥
  read-roomy e =
      let c = clear read tt (eqb-true (first_of read) 0 e) in
      let n : form_number b ≡ 0 = read_number b ∙ first-later read (lent b) c ∙ none-clear (lent b) (lent-clear b (clear-right (framed b) (counted b) c)) in
      absurd (omega (arith, n, q))

  read-refused : eqb (first_of read) 0 ≡ false → ⊥
  read-refused e =
      not-given 9 read (λ z. absurd (omega (arith, z))) tt (sym (first_found read (lent b) (eqb-false (first_of read) 0 e)) ∙ sym (read_number b) ∙ q)

  reader-never-9 : ⊥
  reader-never-9 = by-test (eqb (first_of read) 0) read-roomy read-refused

-- so with the program's lists no bytes give 9
pub never-9 : (b : List ℕ) (x : Lists) → ProgramLists x → replay_number b x ≡ 9 → ⊥
unfolding answer
never-9 b x roomy q = go (form_number b) refl (sym (program-number b x roomy) ∙ q)
  where
    go : (n : ℕ) → form_number b ≡ n → answer (λ (k : ℕ). k) n (first_of (judged_rows b)) ≡ 9 → ⊥
    go zero e q = not-given 9 (judged_rows b) (λ z. absurd (omega (arith, z))) tt q
    go (suc n) e q = reader-never-9 b (e ∙ q)
