-- Request K11: "Where the three accept, its answer is theirs in turn." `mask_candidates` twice, `mask_straight_winding` for each candidate and `mask_prune`, beside
-- `mask_straight_slices`. Each call is taken by its contract, so this holds of the exported entries.
use Rattle.std.specs.Prelude.{ℕ, zero, suc, ◌+◌, ◌*◌, ◌<◌, true, ◌≡◌, refl, List, [], ◌∷◌, ◌++◌, ltb, get_or, ℤ, pos, negsuc, Float}
use Rattle.std.proofs.Common.{zero-le, subst, ◌∙◌, not-suc-le-zero, le_of_suc-le-suc, arith, ext_get_or, get_or-append-add, ltb-true, ltb-false, le-leb, le-ltb}
use Rattle.std.proofs.Math.Bool.{not}
use Rattle.std.proofs.Math.Path.{sym, ap}
use Rattle.std.proofs.Math.ListN.{length, take, replicate, get_or-append}
use Rattle.std.proofs.lemmas.List.{length-replicate}
use Rattle.basis.specs.Number.{+0}
use Rattle.basis.specs.All.{all_of}
use Rattle.basis.specs.Choice.{by-test}
use Rattle.basis.specs.Items.{first_items}
use Rattle.basis.specs.ItemLaws.{items-length}
use Rattle.basis.specs.RoomLaws.{room-front}
use Rattle.basis.specs.RefuseLaws.{Clear, clear, clear-left, clear-right, clear_both, none-clear, answer-zero, answer-accepted, ok-length, ok-size}
use Rattle.basis.specs.declared.answer.CountAnswer.{CountAnswer}
use Rattle.basis.specs.Answers.{count_refused}
use Rattle.outline.specs.Outline.{Whole}
use Rattle.cut.specs.Cuts as cuts
use Rattle.cut.specs.Cuts.{which_of}
use Rattle.cut_entries.specs.CutRows as cut
use Rattle.cut_entries.specs.CutRowsLaws.{CutsPass, cuts-accepted}
use Rattle.candidate.specs.Candidates.{cand_numbers, cand_shapes, probe_numbers, candidates_of, numbers_of, shape_of, probe_of}
use Rattle.candidate_write.specs.ItemLaws.{flat-length, wide-numbers, wide-shapes, wide-probes}
use Rattle.candidate_entries.specs.Candidates.{Lent, lengths, later_rows, candidates_rows, candidates_refusal, cand_number, Sliced}
use Rattle.candidate_entries.specs.CandidatesLaws.{cand-pass}
use Rattle.slice.specs.Slice.{code_width, shape_width}
use Rattle.slice.specs.Ready as slice
use Rattle.prune.specs.Prune as prune
use Rattle.prune.specs.Prune.{Cands, cands, call_of, overlaps, pruned_of, slice_codes, slice_shapes, slice_editions}
use Rattle.prune_entries.specs.declared.answer.PruneAnswer.{PruneAnswer}
use Rattle.prune_entries.specs.Answers.{prune_refused}
use Rattle.prune_entries.specs.PruneEntry as pruned
use Rattle.prune_entries.specs.PruneEntry.{prune_refusal, prune_number, PruneLeft}
use Rattle.prune_entries.specs.PruneEntryLaws.{prune-accepted}
use Rattle.whole.specs.Fit.{Near}
use Rattle.straight_entries.specs.declared.answer.WindingAnswer.{WindingAnswer}
use Rattle.straight_entries.specs.Answers.{winding_refused}
use Rattle.straight_entries.specs.Range.{in_reach, all_in_reach}
use Rattle.straight_entries.specs.WindingEntry.{winding_rows, winding_refusal, winding_answer}
use Rattle.straight_cut.specs.Microdegrees.{wholes_of}
use Rattle.straight_cut.specs.MicrodegreesLaws.{wholes-length, wholes-close}
use Rattle.straight_cut.specs.Straight.{straight_outline, whole_points, straight_laps}
use Rattle.straight_cut.specs.Splits.{straight_splits}
use Rattle.straight_cut.specs.Inside.{inside_code, mid_at, inside_at, insides_of}
use Rattle.straight_cut.specs.InsideLaws.{mid-near, insides-length}
use Rattle.straight_side.specs.Side.{along_straight, side_count, side_cands}
use Rattle.straight_slices.specs.Slices.{Given, first_cuts, second_cuts, pruning, need_all}
use Rattle.straight_slices.specs.Rows as rows
use Rattle.straight_slices.specs.Rows.{slices_refusal, slices_number, SlicesLeft}

-- ---- `mask_straight_winding` accepts every outline and every doubled midpoint of a candidate's two vertices

near-reach : (m : ℕ) (z : ℤ) → Near m z → in_reach m z ≡ true
unfolding in_reach
near-reach zero (pos n) h = rw (le-leb 0 n zero-le, le-leb n 0 h.near)
near-reach (suc m) (pos n) h = le-leb n (suc m) h.near
near-reach zero (negsuc n) h = absurd (not-suc-le-zero h.near)
near-reach (suc m) (negsuc n) h = rw (le-leb n m (le_of_suc-le-suc h.near))

all-reach : (l : List ℤ) → ((k : ℕ) → Near 400000000 (get_or l k (pos 0))) → all_in_reach l ≡ true
unfolding all_of
all-reach [] h = refl
all-reach (z ∷ l) h = rw (near-reach 400000000 z (h 0)) (all-reach l (λ k. h (suc k)))

pub winding-accepts : (o : List Float) (vc : ℕ) (probe : List Float) (k : ℕ) → Whole o vc → winding_refusal (wholes_of o vc) vc (mid_at probe k).x (mid_at probe k).y ≡ 0
unfolding winding_refusal
winding-accepts o vc probe k w =
    let l = wholes_of o vc in
    none-clear (winding_rows l vc (mid_at probe k).x (mid_at probe k).y) (
      ok-length 2 (length l) vc (wholes-length o vc),
      (
        ok-size vc w.least w.most,
        (ap not (all-reach l (wholes-close o vc)), (ap not (near-reach 800000000 _ (mid-near _ _)), (ap not (near-reach 800000000 _ (mid-near _ _)), tt))),
      ),
    )

-- a host's inside answers: one call of `mask_straight_winding` a candidate, at the doubled midpoint of its two vertices
pub record Asked (o : List Float) (vc : ℕ) (probe : List Float) (count : ℕ) (inside : List ℕ) : Type 0 where
  pub each : length inside ≡ count
  pub told : ℕ → WindingAnswer
  pub holds : (k : ℕ) → k < count → told k ≡ winding_answer (wholes_of o vc) vc (mid_at probe k).x (mid_at probe k).y
  pub codes : (k : ℕ) → k < count → get_or inside k 0 ≡ inside_code (told k).winding

item-at : (f : ℕ → ℕ) (n k : ℕ) → k < n → get_or (first_items (λ j. f j ∷ []) n) k 0 ≡ f k
unfolding first_items
item-at f zero k h = absurd (not-suc-le-zero h)
item-at f (suc n) k h =
    let xs = first_items (λ j. f j ∷ []) n in
    let e : length xs ≡ 1 * n = items-length (λ j. f j ∷ []) 1 (λ j. refl) n in
    by-test (ltb k n)
    (λ t. let b : k < length xs = omega (arith, ltb-true k n t) in get_or-append xs (f n ∷ []) 0 k b ∙ item-at f n k (ltb-true k n t))
    (λ t. let b : k ≡ length xs + 0 = omega (arith, ltb-false k n t) in
    let c : k ≡ n = omega (arith, ltb-false k n t) in
    rw b (get_or-append-add xs (f n ∷ []) 0 0) ∙ ap f (sym c))

pub asked_is : (o : List Float) (vc : ℕ) (probe : List Float) (count : ℕ) (inside : List ℕ) → Whole o vc → Asked o vc probe count inside → inside ≡ insides_of (wholes_of o vc) probe count
unfolding insides_of inside_at
asked_is o vc probe count inside w a =
    ext_get_or 0 inside (insides_of (wholes_of o vc) probe count) (a.each ∙ sym (insides-length (wholes_of o vc) probe count))
    (λ k h. let b : k < count = omega (arith, a.each) in
    a.codes k b
    ∙ ap (λ (r : WindingAnswer). inside_code r.winding) (answer-accepted winding_refused _ _ (a.told k) (a.holds k b) (winding-accepts o vc probe k w))
    ∙ sym (item-at (inside_at (wholes_of o vc) probe) count k b))

-- ---- `mask_candidates`, with the splits of straight segments

-- an accepted call: what was lent, the answer, and what was left
pub record Listed (g : cuts.Given) (edition : ℕ) : Type 0 where
  pub lent : Lent
  pub answer : CountAnswer
  pub left : Lent
  pub holds : Sliced g (straight_splits g) edition lent answer left
  pub accepted : answer.refusal ≡ 0

-- what the host hands on: as many items as were counted, and its answer for each
abbrev pub hand_on : {g : cuts.Given} {edition : ℕ} → Listed g edition → List ℕ → Cands
hand_on m inside = cands (take (2 * m.answer.count) m.left.at) (take (6 * m.answer.count) m.left.cand) (take m.answer.count m.left.edition) inside

-- and the vertices between which it asks
abbrev pub probes_of : {g : cuts.Given} {edition : ℕ} → Listed g edition → List Float
probes_of m = take (6 * m.answer.count) m.left.probe

module _ (g : cuts.Given) (edition : ℕ) (m : Listed g edition) where
  none : cand_number g (straight_splits g) m.lent ≡ 0
  none = answer-zero count_refused (λ a. a.refusal) (cand_number g (straight_splits g) m.lent) _ m.answer (λ k. refl) m.holds.answers m.accepted

  pub listed-count : m.answer.count ≡ side_count g
  listed-count = ap (λ (a : CountAnswer). a.count) (answer-accepted count_refused (cand_number g (straight_splits g) m.lent) _ m.answer m.holds.answers none)

  pub probes-are : probes_of m ≡ probe_numbers (along_straight g)
  unfolding candidates_of
  probes-are =
      let a = along_straight g in
      room-front +0 6 (cuts.cut_count g) (probe_numbers a) m.lent.probe m.left.probe (6 * m.answer.count)
      (answer-accepted (λ _. m.lent.probe) (cand_number g (straight_splits g) m.lent) _ m.left.probe m.holds.probe none)
      (flat-length 6 probe_of wide-probes a a.count ∙ ap (λ (j : ℕ). 6 * j) (sym listed-count))

  -- they are the candidates of one outline of `mask_straight_slices`
  pub listed-are : (other : List Float) (vc : ℕ) (inside : List ℕ) → Whole other vc → Asked other vc (probes_of m) m.answer.count inside → hand_on m inside ≡ side_cands g other vc edition
  unfolding candidates_of side_cands
  listed-are other vc inside w asked =
      let a = along_straight g in
      let n = listed-count in
      let at : take (2 * m.answer.count) m.left.at ≡ cand_numbers a =
      room-front 0 2 (cuts.cut_count g) (cand_numbers a) m.lent.at m.left.at (2 * m.answer.count)
      (answer-accepted (λ _. m.lent.at) (cand_number g (straight_splits g) m.lent) _ m.left.at m.holds.at none)
      (flat-length 2 numbers_of wide-numbers a a.count ∙ ap (λ (j : ℕ). 2 * j) (sym n)) in
      let cand : take (6 * m.answer.count) m.left.cand ≡ cand_shapes a =
      room-front +0 6 (cuts.cut_count g) (cand_shapes a) m.lent.cand m.left.cand (6 * m.answer.count)
      (answer-accepted (λ _. m.lent.cand) (cand_number g (straight_splits g) m.lent) _ m.left.cand m.holds.cand none)
      (flat-length 6 shape_of wide-shapes a a.count ∙ ap (λ (j : ℕ). 6 * j) (sym n)) in
      let dated : take m.answer.count m.left.edition ≡ replicate (side_count g) edition =
      room-front 0 1 (cuts.cut_count g) (replicate (side_count g) edition) m.lent.edition m.left.edition m.answer.count
      (answer-accepted (λ _. m.lent.edition) (cand_number g (straight_splits g) m.lent) _ m.left.edition m.holds.editions none)
      (length-replicate (side_count g) edition ∙ sym n) in
      let told : inside ≡ insides_of (wholes_of other vc) (probe_numbers a) (side_count g) =
      asked_is other vc (probes_of m) m.answer.count inside w asked ∙ (λ i. insides_of (wholes_of other vc) (probes-are i) (n i)) in
      λ i. cands (at i) (cand i) (dated i) (told i)

-- ---- where the three accept, it accepts

-- what 18 looks at, and nothing else does
pub record Straight (g : Given) : Type 0 where
  pub outline1 : straight_outline g.outline1 ≡ true
  pub outline2 : straight_outline g.outline2 ≡ true
  pub hits : whole_points g.hit ≡ true
  pub laps : straight_laps g.lap ≡ true

listed-clear : (g : cuts.Given) (edition : ℕ) → Listed g edition → Clear (cut.list_rows g)
unfolding candidates_refusal
listed-clear g edition m =
    let rows = candidates_rows g (straight_splits g) (lengths m.lent) in
    clear-left (cut.list_rows g) (later_rows g (straight_splits g) (lengths m.lent)) (clear rows (unfold cut.list_rows cut.value_rows cut.index_rows later_rows in tt) (none g edition m))

listed-pass : (g : cuts.Given) (edition : ℕ) → Listed g edition → CutsPass g
listed-pass g edition m = (cand-pass g (straight_splits g) (lengths m.lent) (none g edition m)).cuts

listed-whole : (g : cuts.Given) (edition : ℕ) → Listed g edition → Whole g.outline g.vc
listed-whole g edition m = (cuts-accepted g (listed-pass g edition m)).ready.whole

-- the codes of a call that `mask_prune` accepts
prune-codes : (g : prune.Given) (l : slice.Rooms) → prune_number g l ≡ 0 → Clear (pruned.codes_rows g)
unfolding prune_refusal pruned.input_rows
prune-codes g l z =
    let rooms = pruned.lent_rows g (length l.at) (length l.shape) (length l.edition) in
    let first = pruned.cands_rows g.first g.call.count1 in
    let second = pruned.cands_rows g.second g.call.count2 in
    let from5 = pruned.numbers_rows g ++ (pruned.starts_rows g ++ pruned.reaches_rows g) in
    let from2 = pruned.codes_rows g ++ from5 in
    let laps = pruned.laps_rows g ++ from2 in
    let a : Clear (pruned.input_rows g) = clear-left (pruned.input_rows g) rooms (clear (pruned.input_rows g ++ rooms) tt z) in
    clear-left (pruned.codes_rows g) from5 (clear-right (pruned.laps_rows g) from2 (clear-right second laps (clear-right first (second ++ laps) a)))

module _ (g : Given) (one : Listed (first_cuts g) g.job.edition1) (two : Listed (second_cuts g) g.job.edition2) (l : slice.Rooms) (pruned : prune_number (pruning g) l ≡ 0) (straight : Straight g)
    (x : slice.Rooms) (roomy : slice.Roomy (need_all g.job) x) where
  accepts : slices_number g x ≡ 0
  unfolding slices_refusal rows.input_rows which_of
  accepts =
      let j = g.job in
      let p = listed-pass (first_cuts g) j.edition1 one in
      let q = listed-pass (second_cuts g) j.edition2 two in
      let code = prune-codes (pruning g) l pruned in
      let laps : length g.lap_edition ≡ j.laps = (prune-accepted (pruning g) l 0 (sym pruned) refl).laps.edition in
      let more = rows.more_list_rows (length g.outline2) j.vc2 (length g.lap_edition) j.laps in
      let coded = rows.code_rows j g.lap_at in
      let numbered = rows.number_rows j.tolerance g.outline1 g.outline2 g.hit g.lap in
      let flat = rows.straight_rows g.outline1 g.outline2 g.hit g.lap in
      let indexed = rows.index_rows j g.hit_at g.lap_at in
      let lent = rows.lent_rows g (length x.at) (length x.shape) (length x.edition) in
      let a : Clear more = (ok-length 3 (length g.outline2) j.vc2 q.outline_length, (ok-length 1 (length g.lap_edition) j.laps (omega (arith, laps)), tt)) in
      let b : Clear coded = (p.sized, (q.sized, (code.1.1.0, (code.1.1.1.0, (ap not p.opposing, tt))))) in
      let c : Clear numbered = (ap not p.tolerance, (ap not p.outline_within, (ap not q.outline_within, (ap not p.hit_within, (ap not p.lap_within, tt))))) in
      let d : Clear flat = (ap not straight.outline1, (ap not straight.outline2, (ap not straight.hits, (ap not straight.laps, tt)))) in
      let e : Clear indexed = (
        ap not p.hits_below,
        (
          ap not q.hits_below,
          (
            ap not p.starts_below,
            (ap not q.starts_below, (ap not p.ends_below, (ap not q.ends_below, (ap not (q.view_starts refl), (ap not (q.view_offsets refl), tt))))),
          ),
        ),
      ) in
      let f : Clear lent = (le-ltb _ _ roomy.at, (le-ltb _ _ roomy.shape, (le-ltb _ _ roomy.edition, tt))) in
      none-clear (rows.input_rows g ++ lent)
      (clear_both (rows.input_rows g) lent
      (clear_both (rows.list_rows g) (coded ++ (numbered ++ (flat ++ indexed))) (clear_both (cut.list_rows (first_cuts g)) more (listed-clear (first_cuts g) j.edition1 one) a)
      (clear_both coded (numbered ++ (flat ++ indexed)) b (clear_both numbered (flat ++ indexed) c (clear_both flat indexed d e))))
      f)

-- ---- the three in turn
module _ (g : Given) (one : Listed (first_cuts g) g.job.edition1) (two : Listed (second_cuts g) g.job.edition2) (inside1 inside2 : List ℕ)
    (asked1 : Asked g.outline2 g.job.vc2 (probes_of one) one.answer.count inside1) (asked2 : Asked g.outline1 g.job.vc1 (probes_of two) two.answer.count inside2) where
  -- what the host hands to `mask_prune`
  abbrev pub turn : prune.Given
  turn =
      prune.given (call_of g.job.mode g.job.opposing g.job.vc1 g.job.vc2 one.answer.count two.answer.count g.job.laps) (hand_on one inside1) (hand_on two inside2)
      (overlaps g.lap_at g.lap g.lap_edition)

  -- which is the call that the definition of `mask_straight_slices` names
  pub turn_is : turn ≡ pruning g
  turn_is =
      let a = listed-count (first_cuts g) g.job.edition1 one in
      let b = listed-count (second_cuts g) g.job.edition2 two in
      let c = listed-are (first_cuts g) g.job.edition1 one g.outline2 g.job.vc2 inside1 (listed-whole (second_cuts g) g.job.edition2 two) asked1 in
      let d = listed-are (second_cuts g) g.job.edition2 two g.outline1 g.job.vc1 inside2 (listed-whole (first_cuts g) g.job.edition1 one) asked2 in
      λ i. prune.given (call_of g.job.mode g.job.opposing g.job.vc1 g.job.vc2 (a i) (b i) g.job.laps) (c i) (d i) (overlaps g.lap_at g.lap g.lap_edition)

  -- where `mask_prune` accepts too, the masks are straight and the room lent is that needed: `mask_straight_slices` accepts, its answer is that of `mask_prune`, and so are its slices
  module _ (l : slice.Rooms) (r : PruneAnswer) (left : slice.Rooms) (kept : PruneLeft turn l r left) (accepted : r.refusal ≡ 0) (straight : Straight g) (x : slice.Rooms)
      (roomy : slice.Roomy (need_all g.job) x) (s : PruneAnswer) (y : slice.Rooms) (sliced : SlicesLeft g x s y) where
    here : PruneLeft (pruning g) l r left
    here = subst (λ (p : prune.Given). PruneLeft p l r left) turn_is kept

    zero-there : prune_number (pruning g) l ≡ 0
    zero-there = answer-zero prune_refused (λ a. a.refusal) (prune_number (pruning g) l) _ r (λ k. refl) here.answers accepted

    zero-here : slices_number g x ≡ 0
    zero-here = accepts g one two l zero-there straight x roomy

    pub same_answer : s ≡ r
    same_answer = answer-accepted prune_refused (slices_number g x) _ s sliced.answers zero-here ∙ sym (answer-accepted prune_refused (prune_number (pruning g) l) _ r here.answers zero-there)

    -- as many of each list as there are slices
    pub same_codes : take (length (slice_codes (pruning g))) y.at ≡ take (length (slice_codes (pruning g))) left.at
    same_codes =
        room-front 0 code_width (need_all g.job) (slice_codes (pruning g)) x.at y.at _ (answer-accepted (λ _. x.at) (slices_number g x) _ y.at sliced.at zero-here) refl
        ∙ sym (room-front 0 code_width (prune.need_of (pruning g).call) (slice_codes (pruning g)) l.at left.at _ (answer-accepted (λ _. l.at) (prune_number (pruning g) l) _ left.at here.at zero-there) refl)

    pub same-shapes : take (length (slice_shapes (pruning g))) y.shape ≡ take (length (slice_shapes (pruning g))) left.shape
    same-shapes =
        room-front +0 shape_width (need_all g.job) (slice_shapes (pruning g)) x.shape y.shape _ (answer-accepted (λ _. x.shape) (slices_number g x) _ y.shape sliced.shape zero-here) refl
        ∙ sym (room-front +0 shape_width (prune.need_of (pruning g).call) (slice_shapes (pruning g)) l.shape left.shape _ (answer-accepted (λ _. l.shape) (prune_number (pruning g) l) _ left.shape here.shape zero-there) refl)

    pub same-editions : take (length (slice_editions (pruning g))) y.edition ≡ take (length (slice_editions (pruning g))) left.edition
    same-editions =
        room-front 0 1 (need_all g.job) (slice_editions (pruning g)) x.edition y.edition _ (answer-accepted (λ _. x.edition) (slices_number g x) _ y.edition sliced.edition zero-here) refl
        ∙ sym (room-front 0 1 (prune.need_of (pruning g).call) (slice_editions (pruning g)) l.edition left.edition _ (answer-accepted (λ _. l.edition) (prune_number (pruning g) l) _ left.edition here.edition zero-there) refl)
