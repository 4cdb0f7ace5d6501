-- What the candidates of an accepted call are proved by: the cuts in lists of their own, an order that a list tells.
use Prim.Native.Nat.{ℕ, ◌*◌, ◌≤◌}
use mathlib.Core.Path.{◌≡◌, sym, subst}
use mathlib.Core.List.{List}
use native.Mathlib.Omega.{arith}
use lib.ListN.{length, take, length-take}
use lib.Ieee.{Float}
use Rattle.basis.specs.Sizes.{most_candidates}
use Rattle.basis.specs.RoomLaws.{room-front}
use Rattle.cut.specs.Cuts.{Given, cut_count}
use Rattle.cut.specs.Order as order
use Rattle.cut.specs.Order.{cut_numbers}
use Rattle.cut_order.specs.CutsLaws.{numbers-length, written-lengths}
use Rattle.cut_order.specs.Write.{WriteRoom}
use Rattle.candidate.specs.Ready.{Rooms, Written}
use Rattle.candidate.specs.Told.{along, ToldReady}
use Rattle.candidate_lists.specs.Lists.{along_cuts, Accepted, InFront, FoundRoom, Few}
use Rattle.candidate_lists.specs.ListsLaws.{along-sound, cuts-told}

-- ---- the cuts in lists of their own
module _ (g : Given) (splits : List Float) (l : Rooms) (sorted cut_at : List ℕ) (cut : List Float) where
  -- lists for so many cuts are enough for a call that has no more
  pub few-lists : (most : ℕ) → Few most g splits l → length sorted ≡ most → length cut_at ≡ 3 * most → length cut ≡ 2 * most → FoundRoom g splits l sorted cut_at cut
  few-lists most f c d e = let h = f.few in record { ok = f.ok; sorted_long = omega arith; number_room = omega arith; point_room = omega arith }

  pub sort-room : FoundRoom g splits l sorted cut_at cut → WriteRoom g sorted cut_at cut
  sort-room r = record { roomy = record { accepted = r.ok.along.accepted; number_room = r.number_room; point_room = r.point_room }; long = r.sorted_long }

-- the front of a list is as long as it is said to be
pub front_length : {A : Type 0} (n : ℕ) (l : List A) → n ≤ length l → n ≡ length (take n l)
front_length n l h = simp length-take (omega arith)

-- what the order was written to has it in front
pub in-front : (g : Given) (splits : List Float) (lent : Rooms) (a a' : List ℕ) (b b' : List Float) → order.Written g a b a' b' → Accepted g splits lent
    → 3 * cut_count g ≤ length a → 2 * cut_count g ≤ length b → InFront g a' splits lent
in-front g splits lent a a' b b' w ok m n =
    let sizes = written-lengths g a a' b b' (record { accepted = ok.along.accepted; number_room = m; point_room = n }) w in
    record { ok = ok; long = omega (arith, sizes.0); front = room-front 0 3 (cut_count g) (cut_numbers g) a a' (3 * cut_count g) w.numbers (numbers-length g) }

-- along a list that is the numbers of the cuts in their order, the candidates are those of the call
module _ (g : Given) (splits : List Float) (lent : Rooms) (told : List ℕ) (e : told ≡ cut_numbers g) where
  pub told-ready : Accepted g splits lent → ToldReady g told splits lent
  told-ready ok =
      subst (λ (x : List ℕ). ToldReady g x splits lent) (sym e)
      (record { told = cuts-told g ok.along.accepted.ready; ready = record { sound = along-sound g splits ok.along; roomy = ok.roomy } })

  pub told-written : (left : Rooms) (r : ℕ) → Written (along g told splits) lent r left → Written (along_cuts g splits) lent r left
  told-written left r q = subst (λ (x : List ℕ). Written (along g x splits) lent r left) e q

pub ruleset fronts = (few-lists, sort-room, front_length, in-front, told-ready, told-written)
