-- What holds of every pruning: it stays within the need, its starts ascend, and a stitch accepts what it gives.
use Prim.Native.Nat.{ℕ, zero, suc, ◌+◌, ◌*◌, ◌≤◌, ◌<◌}
use Rattle.std.specs.Prelude.{Bool, ◌≡◌, refl, [], ◌∷◌, ◌++◌, eqb, length, get_or}
use Rattle.std.proofs.Math.Bool.{true, false, cond}
use Rattle.std.proofs.Common.{add-zero, length-append}
use native.Mathlib.Omega.{arith}
use borrow.Author.Tests.{lt-ltb, le-leb}
use Rattle.basis.specs.Each.{places_below, places_at_most, choices_known}
use Rattle.basis.specs.EachLaws.{below_at, most-at}
use Rattle.basis.specs.All.{All, all_snoc, all_both}
use Rattle.basis.specs.Number.{all_within}
use Rattle.basis.specs.Refuse.{source_fault, count_for}
use Rattle.slice.specs.Slice.{Slice}
use Rattle.slice.specs.Faults.{source_known, start_inside, offset_inside}
use Rattle.slice.specs.Sound.{SliceSound, Accepted}
use Rattle.slice.specs.SoundLaws.{shape-within, sound-accepted, editions-match}
use Rattle.slice.specs.Editions.{editions, edition_of, edition_fault}
use Rattle.prune.specs.declared.mode.Part.{Part}
use Rattle.prune.specs.Prune.{Cands, Overlaps, Given, cand_codes, cand_slice, lap_codes, lap_inverted, lap_slice, kept_to, laps_to, wanted_of, turned_of, first_part, second_part, parts_of, parts_for, kept_first, kept_second, laps_for, slices_of, need_of, pruned_at, pruned_of, slice_codes, slice_shapes, slice_editions}
use Rattle.prune.specs.Ready.{CandsFit, OverlapsFit}
use Rattle.prune.specs.Sound.{CandsSound, OverlapsSound}
use Rattle.prune_write.specs.WriteLaws.{kept-few, laps-all}

-- ---- the counts

-- never more slices than the need
pub slices-few : (g : Given) → (pruned_of g).slices ≤ need_of g.call
unfolding pruned_of pruned_at
slices-few g =
    omega (
      arith,
      kept-few g.first (parts_for g.call).first g.call.count1,
      kept-few g.second (parts_for g.call).second g.call.count2,
      laps-all g.laps true g.call.laps,
      laps-all g.laps false g.call.laps,
    )

-- the count is that of the list
pub slices-counted : (g : Given) → (pruned_of g).slices ≡ length (slices_of g)
unfolding pruned_of pruned_at slices_of
slices-counted g =
    let a = length-append (kept_first g) (kept_second g ++ (laps_for true g ++ laps_for false g)) in
    let b = length-append (kept_second g) (laps_for true g ++ laps_for false g) in
    let c = length-append (laps_for true g) (laps_for false g) in
    omega arith

-- number 8 never applies: pline2 ≤ pline1_overlapping ≤ pline2_overlapping ≤ slices
pub starts-ascend : (g : Given) → let s = (pruned_of g).starts in
    (s.pline2 ≤ s.pline1_overlapping) × (s.pline1_overlapping ≤ s.pline2_overlapping) × (s.pline2_overlapping ≤ (pruned_of g).slices)
unfolding pruned_of pruned_at
starts-ascend g = (omega arith, omega arith, omega arith)

-- ---- each slice

-- what a caller's looks through the lists tell
pub cands-sound : (vc n : ℕ) (c : Cands) → CandsFit c n → places_below 2 0 vc c.at ≡ true → places_at_most 2 1 vc c.at ≡ true → all_within c.shape ≡ true → CandsSound vc n c
cands-sound vc n c f p q w =
    record {
      starts = λ k h. rw add-zero at (below_at 2 0 c.at n vc (omega arith) f.at p k h);
      reaches = most-at 2 1 c.at n vc (omega arith) f.at q;
      numbers = w;
      size = f.shape;
    }

pub overlaps-sound : (vc n : ℕ) (o : Overlaps) → OverlapsFit o n → choices_known 7 4 o.at ≡ true → places_below 7 5 vc o.at ≡ true → places_at_most 7 6 vc o.at ≡ true
    → all_within o.shape ≡ true → OverlapsSound vc n o
overlaps-sound vc n o f a p q w =
    record {
      codes = most-at 7 4 o.at n 1 (omega arith) f.at a;
      starts = below_at 7 5 o.at n vc (omega arith) f.at p;
      reaches = most-at 7 6 o.at n vc (omega arith) f.at q;
      numbers = w;
      size = f.shape;
    }

-- what holds of each candidate and each overlap as a slice holds of every slice
module _ (P : Slice → Type 0) where
  kept-each : (c : Cands) (p : Part) (n : ℕ) → ((k : ℕ) → k < n → P (cand_slice c p k)) → All P (kept_to c p n)
  unfolding kept_to
  kept-each c p zero h = tt
  kept-each c p (suc k) h =
      all_both P (kept_to c p k) (cond (eqb (get_or c.inside k 0) p.keep) (cand_slice c p k ∷ []) []) (kept-each c p k (λ i b. h i (omega arith)))
      (go (eqb (get_or c.inside k 0) p.keep))
    where
      go : (b : Bool) → All P (cond b (cand_slice c p k ∷ []) [])
      go true = (h k (omega arith), tt)
      go false = tt

  laps-each : (o : Overlaps) (first : Bool) (n : ℕ) → ((j : ℕ) → j < n → P (lap_slice o first j)) → All P (laps_to o first n)
  unfolding laps_to
  laps-each o first zero h = tt
  laps-each o first (suc j) h = all_snoc P (laps_to o first j) (lap_slice o first j) (laps-each o first j (λ i b. h i (omega arith))) (h j (omega arith))

  slices-each : (g : Given) → ((k : ℕ) → k < g.call.count1 → P (cand_slice g.first (parts_for g.call).first k))
      → ((k : ℕ) → k < g.call.count2 → P (cand_slice g.second (parts_for g.call).second k))
      → ((first : Bool) (j : ℕ) → j < g.call.laps → P (lap_slice g.laps first j)) → All P (slices_of g)
  unfolding slices_of
  slices-each g a b c =
      all_both P (kept_first g) (kept_second g ++ (laps_for true g ++ laps_for false g)) (kept-each g.first (parts_for g.call).first g.call.count1 a)
      (all_both P (kept_second g) (laps_for true g ++ laps_for false g) (kept-each g.second (parts_for g.call).second g.call.count2 b)
      (all_both P (laps_for true g) (laps_for false g) (laps-each g.laps true g.call.laps (c true)) (laps-each g.laps false g.call.laps (c false))))

module _ (vc1 vc2 vc n : ℕ) (p : Part) (source : source_fault p.source ≡ false) (turned : p.inverted ≤ 1) (own : vc ≡ count_for vc1 vc2 p.source) (c : Cands) (sound : CandsSound vc n c) where
  cand-sound : (k : ℕ) → k < n → SliceSound vc1 vc2 (cand_slice c p k)
  unfolding cand_codes source_known start_inside offset_inside
  cand-sound k h =
      record {
        source = rw source;
        turned = turned;
        starts = lt-ltb _ _ (rw own at (sound.starts k h));
        reaches = le-leb _ _ (rw own at (sound.reaches k h));
        numbers = shape-within c.shape n k sound.numbers sound.size h;
      }

module _ (vc1 vc2 n : ℕ) (o : Overlaps) (sound : OverlapsSound vc2 n o) (first : Bool) where
  lap-turned : (j : ℕ) → j < n → lap_inverted o.at first j ≤ 1
  unfolding lap_inverted
  lap-turned j h = go first
    where
      go : (b : Bool) → cond b (get_or o.at (7 * j + 4) 0) 0 ≤ 1
      go true = sound.codes j h
      go false = omega arith

  lap-sound : (j : ℕ) → j < n → SliceSound vc1 vc2 (lap_slice o first j)
  unfolding lap_codes source_known source_fault start_inside offset_inside
  lap-sound j h =
      record {
        source = refl;
        turned = lap-turned j h;
        starts = lt-ltb _ _ (sound.starts j h);
        reaches = le-leb _ _ (sound.reaches j h);
        numbers = shape-within o.shape n j sound.numbers sound.size h;
      }

turned-code : (wanted own : Bool) → turned_of wanted own ≤ 1
unfolding turned_of
turned-code true true = omega arith
turned-code true false = omega arith
turned-code false true = omega arith
turned-code false false = omega arith

-- every slice is sound where the candidates and the overlaps are
pub slices-sound : (g : Given) → CandsSound g.call.vc1 g.call.count1 g.first → CandsSound g.call.vc2 g.call.count2 g.second
    → OverlapsSound g.call.vc2 g.call.laps g.laps → All (SliceSound g.call.vc1 g.call.vc2) (slices_of g)
unfolding parts_of first_part second_part source_fault
slices-sound g first second laps =
    let c = g.call in
    let w = wanted_of c.mode in
    let own = eqb c.opposing 1 in
    slices-each (SliceSound c.vc1 c.vc2) g
    (cand-sound c.vc1 c.vc2 c.vc1 c.count1 (first_part w own) refl (turned-code w.opposing own) refl g.first first)
    (cand-sound c.vc1 c.vc2 c.vc2 c.count2 (second_part w) refl (omega arith) refl g.second second)
    (lap-sound c.vc1 c.vc2 c.laps g.laps laps)

-- so a stitch's numbers 1, 3, 5, 6 and 7 do not apply to the lists that go out
pub stitch-accepts : (g : Given) → CandsSound g.call.vc1 g.call.count1 g.first → CandsSound g.call.vc2 g.call.count2 g.second
    → OverlapsSound g.call.vc2 g.call.laps g.laps → Accepted g.call.vc1 g.call.vc2 (pruned_of g).slices (slice_codes g) (slice_shapes g)
stitch-accepts g first second laps = rw (slices-counted g) (sound-accepted g.call.vc1 g.call.vc2 (slices_of g) (slices-sound g first second laps))

-- ---- editions

-- Where every candidate has its outline's edition, and every overlap outline 2's, every slice has that of its source: 14 does not apply to the lists that go out.
pub editions-carried : (first second : ℕ) (g : Given) → ((k : ℕ) → k < g.call.count1 → get_or g.first.edition k 0 ≡ first)
    → ((k : ℕ) → k < g.call.count2 → get_or g.second.edition k 0 ≡ second) → ((j : ℕ) → j < g.call.laps → get_or g.laps.edition j 0 ≡ second)
    → edition_fault (editions first second (slice_editions g)) (slice_codes g) ≡ false
unfolding cand_codes lap_codes parts_of first_part second_part
editions-carried first second g a b c =
    editions-match first second (slices_of g) (slices-each (λ s. s.edition ≡ edition_of first second s.codes.source) g a b (λ x j h. c j h))
