-- What an accepted call leaves, and what a call needs to be accepted: the entries of the pipeline one by one.
use Rattle.std.specs.Prelude.{ℕ, ◌*◌, ◌≤◌, ◌<◌, Bool, true, false, not, ◌≡◌, refl, List, ◌++◌, get_or, replicate, Float}
use Rattle.std.proofs.Common.{sym, ◌∙◌, arith, le-ltb}
use Rattle.std.proofs.Math.Path.{ap}
use Rattle.std.proofs.Math.Nat.{add-zero}
use Rattle.std.proofs.Math.ListN.{length, take}
use Rattle.std.proofs.lemmas.List.{length-map, length-replicate}
use Rattle.basis.specs.Number.{+0, all_within, tolerable}
use Rattle.basis.specs.Sizes.{most_candidates, most_laps, most_slices}
use Rattle.basis.specs.Each.{places_below, places_at_most, choices_known}
use Rattle.basis.specs.EachLaws.{at-below, at_most}
use Rattle.basis.specs.Room.{room_of}
use Rattle.basis.specs.RoomLaws.{room-front}
use Rattle.basis.specs.Refuse.{size_fault}
use Rattle.basis.specs.RefuseLaws.{Clear, clear_both, none-clear, answer-zero, answer-accepted, ok-length, ok-size}
use Rattle.outline.specs.Outline.{Whole}
use Rattle.cut.specs.Cuts as cuts
use Rattle.cut_order.specs.CutsLaws.{points-within}
use Rattle.candidate.specs.Candidates.{cand_count, cand_numbers, cand_shapes, candidates_of, numbers_of, shape_of}
use Rattle.candidate_write.specs.ItemLaws.{flat-length, wide-numbers, wide-shapes}
use Rattle.candidate_write.specs.CandidateTheorems.{count_most, starts-below, offsets-most}
use Rattle.candidate_write.specs.RangeTheorems.{InRange, shapes-in}
use Rattle.basis.specs.declared.answer.CountAnswer.{CountAnswer}
use Rattle.basis.specs.Answers.{count_refused}
use Rattle.candidate_lists.specs.Lists.{along_cuts, Accepted}
use Rattle.candidate_lists.specs.ListsLaws.{along-sound}
use Rattle.candidate_entries.specs.Candidates.{Lent, rooms_of, lengths, cand_number, Sliced}
use Rattle.candidate_entries.specs.CandidatesLaws.{SplitsPass, cand-pass, cand-accepted}
use Rattle.select.specs.declared.class.Starts.{Starts}
use Rattle.slice.specs.Slice.{code_width, shape_width}
use Rattle.slice.specs.Ready as slice
use Rattle.slice.specs.Editions.{Editions, editions, edition_fault}
use Rattle.slice.specs.Sound as sound
use Rattle.prune.specs.Prune.{Cands, Overlaps, Given, need_of, pruned_of, slices_of, slice_codes, slice_shapes, slice_editions}
use Rattle.prune.specs.Ready.{Few, OverlapsFit}
use Rattle.prune_write.specs.PruneTheorems.{slices-few, slices-counted, starts-ascend, stitch-accepts, editions-carried}
use Rattle.prune_entries.specs.declared.answer.PruneAnswer.{PruneAnswer}
use Rattle.prune_entries.specs.Answers.{prune_refused, prune_given}
use Rattle.prune_entries.specs.PruneEntry.{cands_rows, laps_rows, codes_rows, numbers_rows, starts_rows, reaches_rows, input_rows, lent_rows, prune_refusal, prune_number, PruneLeft, Sound}
use Rattle.prune_entries.specs.PruneEntryLaws.{prune-accepted, prune-sound}
use Rattle.stitch_run.specs.Stitch as stitch
use Rattle.stitch.specs.Lent.{Lists, Long}
use Rattle.stitch_faults.specs.StitchRows.{starts_fault}
use Rattle.stitch_entries.specs.StitchEntry as stitched
use Rattle.stitch_entries.specs.StitchEntry.{stitch_number}
use Rattle.stitch_faults.specs.StitchTable as tabled
use Rattle.stitch_faults.specs.StitchTable.{shape_rows}
use Rattle.stitch_faults.specs.Matching.{Matched, base_refusal, base-number}

-- ---- `mask_candidates`

-- candidates that `mask_prune` finds in order, over an outline of vc vertices
pub record CandsMade (vc count : ℕ) (at : List ℕ) (shape : List Float) : Type 0 where
  pub few : count ≤ most_candidates
  pub places : length at ≡ 2 * count
  pub shapes : length shape ≡ 6 * count
  pub starts : places_below 2 0 vc at ≡ true
  pub reaches : places_at_most 2 1 vc at ≡ true
  pub numbers : all_within shape ≡ true

module _ (g : cuts.Given) (splits : List Float) (edition : ℕ) (l : Lent) (r : CountAnswer) (left : Lent) (sliced : Sliced g splits edition l r left) (accepted : r.refusal ≡ 0) where
  cand-zero : cand_number g splits l ≡ 0
  cand-zero = answer-zero count_refused (λ a. a.refusal) (cand_number g splits l) _ r (λ k. refl) sliced.answers accepted

  -- what an accepted call looked at and found in order
  pub made-pass : SplitsPass g splits (lengths l)
  made-pass = cand-pass g splits (lengths l) cand-zero

  cand-told : r.count ≡ cand_count (along_cuts g splits)
  cand-told = ap (λ (a : CountAnswer). a.count) (answer-accepted count_refused (cand_number g splits l) _ r sliced.answers cand-zero)

  -- beside each candidate the outline's edition
  pub cands-dated : take r.count left.edition ≡ replicate r.count edition
  cands-dated =
      let n = cand-told in
      room-front 0 1 (cuts.cut_count g) (replicate r.count edition) l.edition left.edition r.count
      (answer-accepted (λ _. l.edition) (cand_number g splits l) _ left.edition sliced.editions cand-zero
      ∙ ap (λ (k : ℕ). room_of 0 1 (cuts.cut_count g) (replicate k edition) l.edition) (sym n))
      (length-replicate r.count edition)

  -- what the host hands on: as many items of each list as were counted
  pub cands-made : CandsMade g.vc r.count (take (2 * r.count) left.at) (take (6 * r.count) left.cand)
  unfolding candidates_of
  cands-made =
      let ok : Accepted g splits (rooms_of l) = cand-accepted g splits l cand-zero in
      let along = along_cuts g splits in
      let sound = along-sound g splits ok.along in
      let p = made-pass in
      let range : InRange along =
      record { outline = p.cuts.outline_within; cut = points-within g ok.along.accepted.ready p.cuts.hit_within p.cuts.lap_within; splits = p.within } in
      let n = cand-told in
      let m : length (cand_numbers along) ≡ 2 * r.count = flat-length 2 numbers_of wide-numbers along along.count ∙ ap (λ (k : ℕ). 2 * k) (sym n) in
      let s : length (cand_shapes along) ≡ 6 * r.count = flat-length 6 shape_of wide-shapes along along.count ∙ ap (λ (k : ℕ). 6 * k) (sym n) in
      let at : take (2 * r.count) left.at ≡ cand_numbers along =
      room-front 0 2 (cuts.cut_count g) (cand_numbers along) l.at left.at (2 * r.count) (answer-accepted (λ _. l.at) (cand_number g splits l) _ left.at sliced.at cand-zero) m in
      let shape : take (6 * r.count) left.cand ≡ cand_shapes along =
      room-front +0 6 (cuts.cut_count g) (cand_shapes along) l.cand left.cand (6 * r.count) (answer-accepted (λ _. l.cand) (cand_number g splits l) _ left.cand sliced.cand cand-zero) s in
      record {
        few = omega (arith, n, count_most along, sound.few);
        places = ap length at ∙ m;
        shapes = ap length shape ∙ s;
        starts = ap (places_below 2 0 g.vc) at ∙ at-below 2 0 (cand_numbers along) r.count g.vc (omega arith) m (λ i h. rw add-zero (starts-below along sound i (rw n at h)));
        reaches = ap (places_at_most 2 1 g.vc) at ∙ at_most 2 1 (cand_numbers along) r.count g.vc (omega arith) m (λ i h. offsets-most along sound i (rw n at h));
        numbers = ap all_within shape ∙ shapes-in along sound range;
      }

-- ---- `mask_prune`

-- the candidates of an outline, with a yes or no for each
pub record CandsPass (vc count : ℕ) (c : Cands) : Type 0 where
  pub made : CandsMade vc count c.at c.shape
  pub dated : length c.edition ≡ count
  pub told : length c.inside ≡ count
  pub known : choices_known 1 0 c.inside ≡ true

-- overlaps of two outlines, with the view of each, which is of outline 2
pub record LapsPass (vc1 vc2 count : ℕ) (o : Overlaps) : Type 0 where
  pub fit : OverlapsFit o count
  pub codes : choices_known 7 4 o.at ≡ true
  pub starts1 : places_below 7 0 vc1 o.at ≡ true
  pub starts2 : places_below 7 1 vc2 o.at ≡ true
  pub ends1 : places_below 7 2 vc1 o.at ≡ true
  pub ends2 : places_below 7 3 vc2 o.at ≡ true
  pub views : places_below 7 5 vc2 o.at ≡ true
  pub reaches : places_at_most 7 6 vc2 o.at ≡ true
  pub numbers : all_within o.shape ≡ true

-- a call of `mask_prune` in which nothing is out of order
pub record PrunePass (g : Given) (l : slice.Rooms) : Type 0 where
  pub sized1 : size_fault g.call.vc1 ≡ false
  pub sized2 : size_fault g.call.vc2 ≡ false
  pub mode : g.call.mode ≤ 3
  pub choice : g.call.opposing ≤ 1
  pub first : CandsPass g.call.vc1 g.call.count1 g.first
  pub second : CandsPass g.call.vc2 g.call.count2 g.second
  pub laps : LapsPass g.call.vc1 g.call.vc2 g.call.laps g.laps
  pub roomy : slice.Roomy (need_of g.call) l

told-no : {b : Bool} → b ≡ true → not b ≡ false
told-no e = ap not e

cands-clear : (vc count : ℕ) (c : Cands) → CandsPass vc count c → Clear (cands_rows c count)
cands-clear vc count c p = (
  ok-length 2 (length c.at) count p.made.places,
  (
    ok-length shape_width (length c.shape) count p.made.shapes,
    (
      ok-length 1 (length c.edition) count (let e = p.dated in omega arith),
      (ok-length 1 (length c.inside) count (let e = p.told in omega arith), (le-ltb most_candidates count p.made.few, tt)),
    ),
  ),
)

pub prune-passes : (g : Given) (l : slice.Rooms) → PrunePass g l → prune_number g l ≡ 0
unfolding prune_refusal input_rows
prune-passes g l p =
    let c = g.call in
    let o = p.laps in
    let laps : Clear (laps_rows g) = (
      ok-length 7 (length g.laps.at) c.laps o.fit.at,
      (
        ok-length shape_width (length g.laps.shape) c.laps o.fit.shape,
        (ok-length 1 (length g.laps.edition) c.laps (let e = o.fit.edition in omega (arith, e)), (le-ltb most_laps c.laps o.fit.few, tt)),
      ),
    ) in
    let codes : Clear (codes_rows g) =
    (p.sized1, (p.sized2, (le-ltb 3 c.mode p.mode, (le-ltb 1 c.opposing p.choice, (told-no p.first.known, (told-no p.second.known, (told-no o.codes, tt))))))) in
    let numbers : Clear (numbers_rows g) = (told-no p.first.made.numbers, (told-no p.second.made.numbers, (told-no o.numbers, tt))) in
    let starts : Clear (starts_rows g) =
    (told-no p.first.made.starts, (told-no p.second.made.starts, (told-no o.starts1, (told-no o.starts2, (told-no o.ends1, (told-no o.ends2, (told-no o.views, tt))))))) in
    let reaches : Clear (reaches_rows g) = (told-no p.first.made.reaches, (told-no p.second.made.reaches, (told-no o.reaches, tt))) in
    let rooms = lent_rows g (length l.at) (length l.shape) (length l.edition) in
    let lent : Clear rooms = (le-ltb _ _ p.roomy.at, (le-ltb _ _ p.roomy.shape, (le-ltb _ _ p.roomy.edition, tt))) in
    let first = cands_rows g.first c.count1 in
    let second = cands_rows g.second c.count2 in
    let a = starts_rows g ++ reaches_rows g in
    let b = numbers_rows g ++ a in
    let d = codes_rows g ++ b in
    let e = laps_rows g ++ d in
    none-clear (input_rows g ++ rooms)
    (clear_both (input_rows g) rooms
    (clear_both first (second ++ e) (cands-clear c.vc1 c.count1 g.first p.first)
    (clear_both second e (cands-clear c.vc2 c.count2 g.second p.second)
    (clear_both (laps_rows g) d laps (clear_both (codes_rows g) b codes (clear_both (numbers_rows g) a numbers (clear_both (starts_rows g) (reaches_rows g) starts reaches))))))
    lent)

-- slices that `mask_stitch` finds in order
pub record SlicesMade (vc1 vc2 n : ℕ) (starts : Starts) (at : List ℕ) (shape : List Float) : Type 0 where
  pub few : n ≤ most_slices
  pub fit : sound.Accepted vc1 vc2 n at shape
  pub ascend : starts_fault starts n ≡ false

-- those of sound candidates and overlaps are
pub pruned-made : (g : Given) → Sound g → Few g.call → SlicesMade g.call.vc1 g.call.vc2 (pruned_of g).slices (pruned_of g).starts (slice_codes g) (slice_shapes g)
unfolding starts_fault
pruned-made g s few =
    let up = starts-ascend g in
    record {
      few = omega (arith, slices-few g, few.first, few.second, few.laps);
      fit = stitch-accepts g s.first s.second s.laps;
      ascend = rw (le-ltb _ _ up.0, le-ltb _ _ up.1, le-ltb _ _ up.2);
    }

module _ (g : Given) (l : slice.Rooms) (r : PruneAnswer) (left : slice.Rooms) (holds : PruneLeft g l r left) (accepted : r.refusal ≡ 0) where
  prune-zero : prune_number g l ≡ 0
  prune-zero = answer-zero prune_refused (λ a. a.refusal) (prune_number g l) _ r (λ k. refl) holds.answers accepted

  given_is : r ≡ prune_given (pruned_of g)
  given_is = answer-accepted prune_refused (prune_number g l) _ r holds.answers prune-zero

  count-is : r.slices ≡ (pruned_of g).slices
  count-is = ap (λ (a : PruneAnswer). a.slices) given_is

  made : SlicesMade g.call.vc1 g.call.vc2 (pruned_of g).slices (pruned_of g).starts (slice_codes g) (slice_shapes g)
  made = pruned-made g (prune-sound g l 0 (sym prune-zero) refl) (prune-accepted g l 0 (sym prune-zero) refl).few

  -- as many slices of each list as were counted
  codes-are : take (code_width * r.slices) left.at ≡ slice_codes g
  codes-are =
      room-front 0 code_width (need_of g.call) (slice_codes g) l.at left.at (code_width * r.slices) (answer-accepted (λ _. l.at) (prune_number g l) _ left.at holds.at prune-zero)
      (made.fit.codes ∙ ap (λ (k : ℕ). code_width * k) (sym count-is))

  shapes-are : take (shape_width * r.slices) left.shape ≡ slice_shapes g
  shapes-are =
      room-front +0 shape_width (need_of g.call) (slice_shapes g) l.shape left.shape (shape_width * r.slices) (answer-accepted (λ _. l.shape) (prune_number g l) _ left.shape holds.shape prune-zero)
      (made.fit.shapes ∙ ap (λ (k : ℕ). shape_width * k) (sym count-is))

  editions-counted : length (slice_editions g) ≡ r.slices
  editions-counted = length-map (slices_of g) (λ s. s.edition) ∙ sym (slices-counted g) ∙ sym count-is

  editions-are : take r.slices left.edition ≡ slice_editions g
  editions-are =
      room-front 0 1 (need_of g.call) (slice_editions g) l.edition left.edition r.slices (answer-accepted (λ _. l.edition) (prune_number g l) _ left.edition holds.edition prune-zero)
      editions-counted

  -- what was copied is an edition a slice
  pub slices-dated : length (take r.slices left.edition) ≡ r.slices
  slices-dated = ap length editions-are ∙ editions-counted

  -- and, where every candidate has its outline's and every overlap outline 2's, each slice's is that of its source
  pub slices-matched : (first second : ℕ) → ((k : ℕ) → k < g.call.count1 → get_or g.first.edition k 0 ≡ first) → ((k : ℕ) → k < g.call.count2 → get_or g.second.edition k 0 ≡ second)
      → ((j : ℕ) → j < g.call.laps → get_or g.laps.edition j 0 ≡ second)
      → edition_fault (editions first second (take r.slices left.edition)) (take (code_width * r.slices) left.at) ≡ false
  slices-matched first second a b c = rw (editions-are, codes-are) (editions-carried first second g a b c)

  pub slices-made : SlicesMade g.call.vc1 g.call.vc2 r.slices r.starts (take (code_width * r.slices) left.at) (take (shape_width * r.slices) left.shape)
  slices-made = rw (codes-are, shapes-are, given_is) made

-- ---- `mask_stitch`

-- a call in which nothing is out of order
pub record StitchPass (g : stitch.Given) (e : Editions) (x : Lists) : Type 0 where
  pub whole1 : Whole g.outline1 g.vc1
  pub whole2 : Whole g.outline2 g.vc2
  pub numbers1 : all_within g.outline1 ≡ true
  pub numbers2 : all_within g.outline2 ≡ true
  pub tolerance : tolerable g.tolerance ≡ true
  pub selector : g.selector ≤ 1
  pub slices : SlicesMade g.vc1 g.vc2 g.slices g.starts g.slice_at g.slice
  pub matched : Matched g e
  pub long : Long g x

pub stitch-passes : (g : stitch.Given) (e : Editions) (x : Lists) → StitchPass g e x → stitch_number g e x ≡ 0
unfolding base_refusal
stitch-passes g e x p =
    let listed = tabled.list_part g in
    let coded = tabled.code_part g in
    let numbered = tabled.number_part g in
    let indexed = tabled.index_part g in
    let lent = tabled.room_part g (stitched.lengths_of x) in
    let s = p.slices in
    let a = p.slices.fit in
    let lists : Clear listed = (
      ok-length 3 (length g.outline1) g.vc1 p.whole1.triples,
      (
        ok-length 3 (length g.outline2) g.vc2 p.whole2.triples,
        (ok-length code_width (length g.slice_at) g.slices a.codes, (ok-length shape_width (length g.slice) g.slices a.shapes, (le-ltb most_slices g.slices s.few, tt))),
      ),
    ) in
    let codes : Clear coded = (
      ok-size g.vc1 p.whole1.least p.whole1.most,
      (
        ok-size g.vc2 p.whole2.least p.whole2.most,
        (le-ltb 1 g.selector p.selector, (told-no a.sources, (told-no a.turned, tt))),
      ),
    ) in
    let numbers : Clear numbered =
    (told-no p.tolerance, (told-no p.numbers1, (told-no p.numbers2, (told-no a.numbers, tt)))) in
    let indexes : Clear indexed = (told-no a.starts, (told-no a.reaches, (s.ascend, tt))) in
    let rooms : Clear lent =
    (le-ltb _ _ p.long.room, (le-ltb _ _ p.long.ends, (le-ltb _ _ p.long.chain, (le-ltb _ _ p.long.chain_ends, (le-ltb _ _ p.long.chain_how, tt))))) in
    base-number g e (stitched.lengths_of x) p.matched
    ∙ none-clear (shape_rows g ++ lent)
    (clear_both (shape_rows g) lent
    (clear_both listed (coded ++ (numbered ++ indexed)) lists (clear_both coded (numbered ++ indexed) codes (clear_both numbered indexed numbers indexes)))
    rooms)
