-- What an accepted call tells of the cuts that the candidates are cut from.
use Rattle.std.specs.Prelude.{ℕ, ◌+◌, ◌*◌, ◌<◌, ◌≡◌, List, Float}
use Rattle.std.proofs.Common.{sym, ◌∙◌, le_of_eq}
use Rattle.std.proofs.Math.Path.{ap}
use native.Mathlib.Omega.{arith}
use Rattle.std.proofs.Math.ListN.{get_or}
use Rattle.std.specs.Float.Ieee.{nan}
use Rattle.outline.specs.Outline.{point_at}
use Rattle.cut.specs.Cuts.{Given, cut_count, cut_of, Ready}
use Rattle.cut.specs.Order.{order_of, cut_numbers, cut_points}
use Rattle.cut_order.specs.CutsLaws.{numbers-length, points-length, order_below, number_at, point_at_lem, segment-below, segments-ascend}
use Rattle.candidate.specs.Ready.{Sound}
use Rattle.candidate.specs.Told.{Told}
use Rattle.candidate_lists.specs.Lists.{along_cuts, Along}

-- the cuts in their order are sound for the slices
pub along-sound : (g : Given) (splits : List Float) → Along g splits → Sound (along_cuts g splits)
along-sound g splits a =
    let r = a.accepted.ready in
    record {
      whole = r.whole;
      few = omega arith;
      at = le_of_eq (sym (numbers-length g));
      points = le_of_eq (sym (points-length g));
      nine = a.nine;
      inside = λ p h. segment-below g p h r;
      ascend = λ p q h k. segments-ascend g p q h k;
    }

-- the numbers of the cuts in their order tell it: each has its number of arrival, whose cut has the point there
module _ (g : Given) (q : ℕ) (h : q < cut_count g) where
  told-number : get_or (cut_numbers g) (3 * q + 2) 0 ≡ get_or (order_of g) q 0
  told-number = number_at g q h 2 (omega arith)

  told-point : point_at (cut_points g) (2 * q) ≡ (cut_of g (get_or (order_of g) q 0)).point
  unfolding point_at
  told-point =
      let e : 2 * q ≡ 2 * q + 0 = omega arith in
      let x : get_or (cut_points g) (2 * q) nan ≡ (cut_of g (get_or (order_of g) q 0)).point.x = ap (λ (i : ℕ). get_or (cut_points g) i nan) e ∙ point_at_lem g q h 0 (omega arith) in
      rw (x, point_at_lem g q h 1 (omega arith))

pub cuts-told : (g : Given) → Ready g → Told g (cut_numbers g)
cuts-told g r =
    record {
      ready = r;
      arrives = λ q h. rw (told-number g q h) (order_below g q h);
      point = λ q h. rw (told-number g q h) (told-point g q h);
    }
