-- Laws by which the writing of the cuts is proved: three numbers in a row, then item after item.
use Prim.Native.Nat.{ℕ, ◌+◌, ◌-◌, ◌*◌, ◌≤◌, ◌<◌}
use mathlib.Core.Bool.{Bool}
use mathlib.Core.Path.{◌≡◌, refl, sym, ap, ◌∙◌}
use mathlib.Core.List.{List, [], ◌∷◌, ◌++◌}
use native.Mathlib.Numerals.{towards_suc}
use native.Mathlib.Omega.{arith}
use lib.ListN.{length, get_or, set, drop, replicate}
use lib.Seq.{sets, get_or-take, drop-drop}
use lib.Ieee.{Float}
use mir.Syntax.{w64}
use mir.Val.{Fits}
use Rattle.basis.specs.Choice.{code_of}
use Rattle.basis.specs.ItemLaws.{Filling, fill_none, fill_more, fill_end, items-listed}
use Rattle.basis.specs.Number.{+0}
use Rattle.basis.specs.Room.{room_of, RoomFor}
use Rattle.outline.specs.Points.{point_numbers}
use Rattle.cut.specs.declared.arrival.Cut.{Cut}
use Rattle.cut.specs.Cuts.{Given, cut_count, cut_of, Arrival}
use Rattle.cut.specs.Order.{order_of, numbers_of, point_of, cut_numbers, cut_points, Roomy, Written}
use Rattle.cut_order.specs.Sort.{OrderRoom, Found}
use Rattle.cut_order.specs.Write.{Known, WriteRoom}
use Rattle.cut_order.specs.CutsLaws.{order-length, order_below}

-- two numbers and a third behind them
pub three-put : (l l' : List ℕ) (at s m n : ℕ) (b : Bool) → m ≡ code_of b → l' ≡ sets l at (s ∷ m ∷ []) → set l' (at + 2) n ≡ sets l at (s ∷ code_of b ∷ n ∷ [])
three-put l l' at s m n b e f = rw (f, e) (simp towards_suc)

-- ---- both rooms, after i cuts: item i is that of the arrival number at place i of the order
abbrev pub numbers_at : Given → ℕ → List ℕ
numbers_at g i = numbers_of g (get_or (order_of g) i 0)

abbrev pub point_at : Given → ℕ → List Float
point_at g i = point_of g (get_or (order_of g) i 0)

pub record Writing (g : Given) (cut_at : List ℕ) (cut : List Float) (cut_at_now : List ℕ) (cut_now : List Float) (i : ℕ) : Type 0 where
  pub ahead : i ≤ cut_count g
  pub numbers : Filling (numbers_at g) 3 cut_at cut_at_now i
  pub points : Filling (point_at g) 2 cut cut_now i

module _ (here : Given) (cut_at : List ℕ) (cut : List Float) where
  pub write-none : Writing here cut_at cut cut_at cut 0
  write-none = record { ahead = omega arith; numbers = fill_none (numbers_at here) 3 (λ n. refl) cut_at; points = fill_none (point_at here) 2 (λ n. refl) cut }

  module _ (order : List ℕ) (k : Known here order cut_at cut) (i : ℕ) (m : i < cut_count here) where
    at-order : get_or order i 0 ≡ get_or (order_of here) i 0
    at-order = sym (get_or-take (cut_count here) order i 0 m) ∙ ap (λ (ns : List ℕ). get_or ns i 0) k.sorted.front

    pub known-arrival : Arrival here (get_or order i 0)
    known-arrival = record { ready = k.roomy.accepted.ready; arrives = omega (arith, at-order, order_below here i m) }

    -- there is room for item i in both
    module _ (a : List ℕ) (p : List Float) (u : Writing here cut_at cut a p i) where
      pub number-room : RoomFor a (3 * i) 3
      number-room = record { fits = omega arith }

      pub point-room : RoomFor p (2 * i) 2
      point-room = record { fits = omega arith }

    -- the places of the numbers and of the point and the next index are machine numbers
    pub number_fits : Fits w64 (3 * i)
    number_fits = let f = k.roomy.accepted.ready.few_hits in let g = k.roomy.accepted.ready.few_laps in record { fits = omega arith }

    pub point-fits : Fits w64 (2 * i)
    point-fits = let f = k.roomy.accepted.ready.few_hits in let g = k.roomy.accepted.ready.few_laps in record { fits = omega arith }

    pub next_fits : Fits w64 (i + 1)
    next_fits = let f = k.roomy.accepted.ready.few_hits in let g = k.roomy.accepted.ready.few_laps in record { fits = omega arith }

    pub write-more : (a a' : List ℕ) (p p' : List Float) (c : Cut) → Writing here cut_at cut a p i → c ≡ cut_of here (get_or order i 0)
        → a' ≡ sets a (3 * i) (c.segment ∷ code_of c.mark ∷ get_or order i 0 ∷ []) → p' ≡ sets p (2 * i) (point_numbers c.point) → Writing here cut_at cut a' p' (i + 1)
    write-more a a' p p' c u e f q =
        let d : c ≡ cut_of here (get_or (order_of here) i 0) = e ∙ ap (cut_of here) at-order in
        record {
          ahead = omega arith;
          numbers = fill_more (numbers_at here) 3 (λ n. refl) cut_at a a' i u.numbers (omega arith) (f ∙ rw (at-order, d));
          points = fill_more (point_at here) 2 (λ n. refl) cut p p' i u.points (omega arith) (q ∙ rw d);
        }

  pub write-end : (a : List ℕ) (p : List Float) (i : ℕ) → Writing here cut_at cut a p i → cut_count here ≤ i → Written here cut_at cut a p
  unfolding cut_numbers cut_points
  write-end a p i u k =
      let e : i ≡ cut_count here = omega arith in
      let n = order-length here in
      record {
        numbers = fill_end (numbers_at here) 3 (λ n. refl) cut_at 0 a i (cut_count here) u.numbers e ∙ rw (items-listed (numbers_of here) (order_of here) 0 (cut_count here) n);
        points = fill_end (point_at here) 2 (λ n. refl) cut +0 p i (cut_count here) u.points e ∙ rw (items-listed (point_of here) (order_of here) 0 (cut_count here) n);
      }

-- ---- the rooms as they were before the sort used them
room-beyond : {A : Type 0} (z : A) (w n m : ℕ) (items a b : List A) → w * n ≡ n + m → drop n a ≡ drop n b → room_of z w n items a ≡ room_of z w n items b
unfolding room_of
room-beyond {A} z w n m items a b e same =
    let d : drop (w * n) a ≡ drop (w * n) b = rw e (sym (drop-drop m n a) ∙ ap (drop m) same ∙ drop-drop m n b) in
    ap (λ (l : List A). items ++ (replicate (w * n - length items) z ++ l)) d

module _ (g : Given) (cut_at0 : List ℕ) (cut0 : List Float) (cut_at1 : List ℕ) (cut1 : List Float) (order : List ℕ) (found : Found g cut_at0 cut0 cut_at1 cut1 order) where
  pub room-known : Roomy g cut_at0 cut0 → length cut_at1 ≡ length cut_at0 → length cut1 ≡ length cut0 → Known g order cut_at1 cut1
  room-known r a b = record { roomy = record { accepted = r.accepted; number_room = omega (arith, r.number_room); point_room = omega (arith, r.point_room) }; sorted = found.sorted }

  pub written_over : (cut_at : List ℕ) (cut : List Float) → Written g cut_at1 cut1 cut_at cut → Written g cut_at0 cut0 cut_at cut
  written_over cut_at cut w =
      record {
        numbers = w.numbers ∙ room-beyond 0 3 (cut_count g) (2 * cut_count g) (cut_numbers g) cut_at1 cut_at0 (omega arith) found.segs_beyond;
        points = w.points ∙ room-beyond +0 2 (cut_count g) (cut_count g) (cut_points g) cut1 cut0 (omega arith) found.keys_beyond;
      }

-- the rooms have place for what the cuts are sorted by
pub sort-room : (g : Given) (order cut_at : List ℕ) (cut : List Float) → WriteRoom g order cut_at cut → OrderRoom g cut_at cut order
sort-room g order cut_at cut r =
    let a = r.roomy.number_room in
    let b = r.roomy.point_room in
    record {
      accepted = r.roomy.accepted;
      keyed = record { ready = r.roomy.accepted.ready; all = record { segs_long = omega arith; keys_long = omega arith } };
      long = r.long;
    }

pub ruleset overwriting = (sort-room, room-known, written_over)

pub ruleset writing = (three-put, write-none, known-arrival, number-room, point-room, number_fits, point-fits, next_fits, write-more, write-end)
