-- Laws by which one outline's slices are found: the cuts and the other outline in front of their lists.
use Prim.Native.Nat.{ℕ, ◌*◌, ◌≤◌}
use mathlib.Core.Path.{◌≡◌, sym, ap, subst, ◌∙◌}
use mathlib.Core.List.{List}
use native.Mathlib.Omega.{arith}
use lib.ListN.{length, take, length-take}
use lib.IntN.{ℤ, pos}
use lib.Ieee.{Float}
use Rattle.basis.specs.Number.{+0}
use Rattle.basis.specs.Room.{room_of}
use Rattle.basis.specs.RoomLaws.{room-front}
use Rattle.cut.specs.declared.arrival.Case.{Case}
use Rattle.cut.specs.Cuts.{Given, given, cut_count}
use Rattle.cut.specs.Order as order
use Rattle.cut.specs.Order.{cut_numbers, cut_points}
use Rattle.cut_order.specs.Write.{WriteRoom}
use Rattle.cut_order.specs.CutsLaws.{numbers-length, points-length, points-pass, written-lengths}
use Rattle.candidate.specs.Candidates as slices
use Rattle.candidate_lists.specs.ListsLaws.{along-sound}
use Rattle.slice.specs.Slice as slice
use Rattle.slice.specs.Ready.{Rooms}
use Rattle.prune.specs.Prune.{kept_to}
use Rattle.prune_put.specs.Ready.{Wrote}
use Rattle.prune_write.specs.WriteLaws.{kept-few}
use Rattle.straight_cut.specs.Microdegrees.{readable, wholes_of, WholesRoom}
use Rattle.straight_cut.specs.MicrodegreesLaws.{wholes-close, wholes-length}
use Rattle.straight_cut.specs.Splits.{straight_splits, straight_given}
use Rattle.straight_cut.specs.SplitsLaws.{splits-length}
use Rattle.straight_cut.specs.ProbeLaws.{probe-known}
use Rattle.straight_side.specs.declared.keeping.Side.{Side}
use Rattle.straight_along.specs.Stays.{stays_to}
use Rattle.straight_along.specs.Ready.{PlacesRoom, FrontsRoom}
use Rattle.straight_side.specs.Side.{along_straight, side_count, side_cands}
use Rattle.straight_side.specs.Ready.{KeptWith, Kept}
use Rattle.straight_side.proofs.Staying.{stays-kept}

-- a list is no shorter than a front of it
front_long : {A : Type 0} (n : ℕ) (l : List A) → length (take n l) ≡ n → n ≤ length l
front_long n l e = omega (arith, simp length-take at e)

module _ (o : List Float) (ha : List ℕ) (h : List Float) (la : List ℕ) (l : List Float) (s : Case) (other : List Float) (side : Side) (sorted a : List ℕ) (b : List Float) (wholes : List ℤ) (room : Rooms)
    (k : KeptWith (given o ha h la l s) other side sorted a b wholes room) where
  abbrev g : Given
  g = given o ha h la l s

  pub sort-room : WriteRoom g sorted a b
  sort-room = record { roomy = record { accepted = k.ok.both.accepted; number_room = k.number_room; point_room = k.point_room }; long = k.sorted_long }

  pub wholes-room : WholesRoom other side.other_vc wholes
  wholes-room = record { whole = k.ok.both.whole; all = k.ok.both.others; fits = k.wholes_room }

  -- cuts and whole microdegrees stand in front of their lists
  module _ (a' : List ℕ) (b' : List Float) (w : order.Written g a b a' b') (wholes' : List ℤ) (e : wholes' ≡ room_of (pos 0) 2 side.other_vc (wholes_of other side.other_vc) wholes) where
    numbers-front : take (3 * cut_count g) a' ≡ cut_numbers g
    numbers-front = room-front 0 3 (cut_count g) (cut_numbers g) a a' (3 * cut_count g) w.numbers (numbers-length g)

    points-front : take (2 * cut_count g) b' ≡ cut_points g
    points-front = room-front +0 2 (cut_count g) (cut_points g) b b' (2 * cut_count g) w.points (points-length g)

    wholes-front : take (2 * side.other_vc) wholes' ≡ wholes_of other side.other_vc
    wholes-front = room-front (pos 0) 2 side.other_vc (wholes_of other side.other_vc) wholes wholes' (2 * side.other_vc) e (wholes-length other side.other_vc)

    same : straight_given o (take (3 * cut_count g) a') (take (2 * cut_count g) b') s ≡ along_straight g
    same = rw (numbers-front, points-front)

    pub fronts-room : FrontsRoom o a' b' s wholes' side.other_vc room side.from
    fronts-room =
        let c = k.ok.both.accepted.ready in
        let v = k.ok.both.whole in
        let sizes = written-lengths g a a' b b' (record { accepted = k.ok.both.accepted; number_room = k.number_room; point_room = k.point_room }) w in
        let sound = along-sound g (straight_splits g) (record { accepted = k.ok.both.accepted; nine = splits-length o (cut_numbers g) (cut_points g) (cut_count g) }) in
        let there : PlacesRoom (along_straight g) (wholes_of other side.other_vc) side.other_vc room side.from =
        record {
          sound = sound;
          known = probe-known o (cut_numbers g) (cut_points g) s sound k.ok.both.own (points-pass readable g c k.ok.both.hits k.ok.both.laps);
          outline = record { long = wholes-length other side.other_vc; least = v.least; most = v.most; close = wholes-close other side.other_vc };
          low = k.ok.low;
          roomy = k.ok.roomy;
        } in
        record {
          few = omega (arith, c.few_hits, c.few_laps);
          few_vertices = v.most;
          numbers = omega (arith, sizes.0, k.number_room);
          points = omega (arith, sizes.1, k.point_room);
          wide = front_long (2 * side.other_vc) wholes' (ap length wholes-front ∙ wholes-length other side.other_vc);
          ready =
              subst (λ (x : slices.Given). PlacesRoom x (take (2 * side.other_vc) wholes') side.other_vc room side.from) (sym same)
              (subst (λ (x : List ℤ). PlacesRoom (along_straight g) x side.other_vc room side.from) (sym wholes-front) there);
        }

    pub fronts-kept : (room' : Rooms) (r : ℕ)
        → Wrote (stays_to (take (2 * side.other_vc) wholes') side.edition side.part (straight_given o (take (3 * cut_count g) a') (take (2 * cut_count g) b') s) (cut_count g)) (cut_count g) room side.from r room'
        → Kept g other side room r room'
    fronts-kept room' r q =
        let vc = side.other_vc in
        let is : stays_to (take (2 * vc) wholes') side.edition side.part (straight_given o (take (3 * cut_count g) a') (take (2 * cut_count g) b') s) (cut_count g)
        ≡ kept_to (side_cands g other vc side.edition) side.part (side_count g) =
        (λ i. stays_to (wholes-front i) side.edition side.part (same i) (cut_count g)) ∙ stays-kept g other vc side.edition side.part in
        let p = subst (λ (t : List slice.Slice). Wrote t (cut_count g) room side.from r room') is q in
        record {
          placed = p.placed;
          few = omega (arith, p.placed.counted, kept-few (side_cands g other vc side.edition) side.part (side_count g));
          size-at = p.size-at;
          size-shape = p.size-shape;
          size-edition = p.size-edition;
        }
