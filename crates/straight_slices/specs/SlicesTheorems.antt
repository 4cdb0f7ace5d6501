-- What is handed on is in order: the candidates of an accepted call are sound for their outlines, each with its outline's edition. So a stitch accepts the slices.
use Prim.Native.Nat.{ℕ, zero, suc, ◌+◌, ◌-◌, ◌*◌, ◌≤◌, ◌<◌}
use Rattle.std.specs.Prelude.{true, ◌&&◌, ◌≡◌, List, ◌++◌, ltb, length, get_or, Float}
use Rattle.std.proofs.Math.Path.{refl}
use Rattle.std.proofs.Common.{◌∙◌, arith}
use Rattle.std.proofs.Math.Dec.{eqb}
use Rattle.std.proofs.lemmas.List.{get_or-replicate}
use Rattle.std.specs.Float.Ieee.{nan, of_bits, le}
use Rattle.basis.specs.Choice.{by-test}
use Rattle.basis.specs.All.{all_of, all_append, all-at}
use Rattle.basis.specs.Number.{+0, abs_f, within, all_within}
use Rattle.basis.specs.Items.{first_items}
use Rattle.outline.specs.declared.point.Vertex.{Vertex}
use Rattle.outline.specs.Points.{with_bulge, vertex_numbers}
use Rattle.outline.specs.Outline.{vertex_at, point_at}
use Rattle.cut.specs.Cuts as cuts
use Rattle.cut.specs.Cuts.{cut_count}
use Rattle.cut.specs.Order as order
use Rattle.cut.specs.Order.{cut_numbers, cut_points}
use Rattle.cut_order.specs.CutsLaws.{points-length, points-within, segment-below}
use Rattle.cut_entries.specs.CutRowsLaws.{cuts-accepted}
use Rattle.candidate.specs.Candidates.{segment_at, candidates_of, shape_of}
use Rattle.candidate_write.specs.ItemLaws.{flat-length, wide-shapes}
use Rattle.candidate_write.specs.CandidateTheorems.{starts-below, offsets-most}
use Rattle.candidate_write.specs.RangeTheorems.{InRange, shapes-in}
use Rattle.candidate_lists.specs.ListsLaws.{along-sound}
use Rattle.prune.specs.Sound.{CandsSound}
use Rattle.prune_write.specs.PruneTheorems.{overlaps-sound}
use Rattle.prune_entries.specs.PruneEntry.{Sound}
use Rattle.straight_cut.specs.Splits.{running_at, cut_vertex, split_at, splits_of, straight_splits}
use Rattle.straight_cut.specs.SplitsLaws.{splits-length}
use Rattle.straight_side.specs.Side.{along_straight, side_count, side_cands}
use Rattle.straight_slices.specs.Slices.{Given, first_cuts, second_cuts, pruning}
use Rattle.straight_slices.specs.RowsLaws.{Parts, first-pass, second-pass}

-- ---- the splits' numbers were handed in, or are +0
both-in : (xs ys : List Float) → all_within xs ≡ true → all_within ys ≡ true → all_within (xs ++ ys) ≡ true
both-in xs ys e f = all_append within xs ys ∙ rw (e, f)

zero_in : within +0 ≡ true
unfolding within abs_f of_bits le
zero_in = refl

-- a position with bulge +0
flat_in : (v : Vertex) → within v.x ≡ true → within v.y ≡ true → all_within (vertex_numbers (with_bulge v +0)) ≡ true
unfolding all_of
flat_in v e f = rw (e, f, zero_in)

module _ (o : List Float) (cut_at : List ℕ) (cut : List Float) (outline : all_within o ≡ true) (points : all_within cut ≡ true) where
  cut_in : (p : ℕ) → 2 * p + 1 < length cut → all_within (vertex_numbers (cut_vertex cut p)) ≡ true
  unfolding point_at
  cut_in p h = flat_in (cut_vertex cut p) (all-at within cut (2 * p) nan points (omega arith)) (all-at within cut (2 * p + 1) nan points h)

  running-in : (p : ℕ) → 2 * p + 1 < length cut → 3 * segment_at cut_at p + 2 < length o → all_within (vertex_numbers (running_at o cut_at cut p)) ≡ true
  unfolding running_at vertex_at
  running-in p h k =
      by-test (ltb 0 p && eqb (segment_at cut_at (p - 1)) (segment_at cut_at p))
      (λ e. rw e (cut_in (p - 1) (omega arith)))
      (λ e. rw e (flat_in (vertex_at o (segment_at cut_at p)) (all-at within o (3 * segment_at cut_at p) nan outline (omega arith)) (all-at within o (3 * segment_at cut_at p + 1) nan outline (omega arith))))

  splits-in : (count : ℕ) → 2 * count ≤ length cut → ((p : ℕ) → p < count → 3 * segment_at cut_at p + 2 < length o) → all_within (splits_of o cut_at cut count) ≡ true
  unfolding splits_of split_at first_items all_of
  splits-in zero h k = refl
  splits-in (suc n) h k =
      let a = running-in n (omega arith) (k n (omega arith)) in
      let b = cut_in n (omega arith) in
      both-in (first_items (split_at o cut_at cut) n) (split_at o cut_at cut n) (splits-in n (omega arith) (λ p j. k p (omega arith)))
      (both-in (vertex_numbers (running_at o cut_at cut n)) (vertex_numbers (cut_vertex cut n) ++ vertex_numbers (cut_vertex cut n)) a (both-in (vertex_numbers (cut_vertex cut n)) (vertex_numbers (cut_vertex cut n)) b b))

-- ---- the candidates of one outline
pub side-sound : (g : cuts.Given) (other : List Float) (vc edition : ℕ) → order.Accepted g → CandsSound g.vc (side_count g) (side_cands g other vc edition)
unfolding side_cands candidates_of
side-sound g other vc edition ok =
    let a = along_straight g in
    let r = ok.ready in
    let sound = along-sound g (straight_splits g) (record { accepted = ok; nine = splits-length g.outline (cut_numbers g) (cut_points g) (cut_count g) }) in
    let points = points-within g r ok.hit_within ok.lap_within in
    let range : InRange a =
    record {
      outline = ok.outline_within;
      cut = points;
      splits = splits-in g.outline (cut_numbers g) (cut_points g) ok.outline_within points (cut_count g) (omega (arith, points-length g)) (λ p h. let b = segment-below g p h r in omega (arith, r.whole.triples));
    } in
    record { starts = starts-below a sound; reaches = offsets-most a sound; numbers = shapes-in a sound range; size = flat-length 6 shape_of wide-shapes a a.count }

-- ---- both outlines, and the overlaps
pub slices-sound : (g : Given) → Parts g → Sound (pruning g)
slices-sound g p =
    let one = first-pass g p in
    let two = second-pass g p in
    record {
      first = side-sound (first_cuts g) g.outline2 g.job.vc2 g.job.edition1 (cuts-accepted (first_cuts g) one);
      second = side-sound (second_cuts g) g.outline1 g.job.vc1 g.job.edition2 (cuts-accepted (second_cuts g) two);
      laps =
          overlaps-sound g.job.vc2 g.job.laps (pruning g).laps (record { few = one.few_laps; at = one.lap_at_length; shape = one.lap_length; edition = p.editions }) one.opposing
          (two.view_starts refl) (two.view_offsets refl) one.lap_within;
    }

-- ---- the editions
pub side-edition : (g : cuts.Given) (other : List Float) (vc edition k : ℕ) → k < side_count g → get_or (side_cands g other vc edition).edition k 0 ≡ edition
unfolding side_cands
side-edition g other vc edition k h = get_or-replicate (side_count g) k edition 0 h
