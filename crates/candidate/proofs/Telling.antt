-- Laws of a walk along an order that a list tells: it ends at the point of the cut there.
use Rattle.std.specs.Prelude.{Option}
use Prim.Native.Nat.{ℕ, ◌+◌, ◌*◌}
use mathlib.Core.Bool.{Bool, false}
use mathlib.Core.Path.{◌≡◌, sym, ap, ◌∙◌}
use mathlib.Core.List.{List}
use lib.ListN.{get_or}
use lib.Ieee.{Float}
use Rattle.outline.specs.declared.point.Point.{Point}
use Rattle.view.specs.declared.create.Walk.{Walk}
use Rattle.cut.specs.declared.arrival.Case.{Case}
use Rattle.cut.specs.declared.arrival.Cut.{Cut}
use Rattle.cut.specs.Cuts as cuts
use Rattle.cut.specs.Cuts.{cut_of, cut_count}
use Rattle.cut.specs.Order.{cut_points}
use Rattle.candidate.specs.declared.next.Next.{Next}
use Rattle.candidate.specs.declared.at_cut.Candidate.{Candidate}
use Rattle.candidate.specs.Candidates.{segment_at, same_next, walked, walk_at}
use Rattle.candidate.specs.Steps.{NextCut, walk_with, walk_by}
use Rattle.candidate.specs.Told.{along, ToldPlace, ToldLast}
use Rattle.candidate.specs.PlaceLaws.{walk-of, place-last}

pub told-last : (g : cuts.Given) (cut_at : List ℕ) (splits : List Float) (p : ℕ) (x : Bool) → ToldPlace g cut_at splits p
    → x ≡ same_next cut_at (g.hits + 2 * g.laps) p → x ≡ false → ToldLast g cut_at splits p
told-last g cut_at splits p x here is other = record { told = here.told; last = place-last (along g cut_at splits) p x here.place is other }

pub told-walk : (g : cuts.Given) (cut_at : List ℕ) (splits : List Float) (p : ℕ) → ToldLast g cut_at splits p → (count : ℕ) → count ≡ cut_count g → (n : Next) → NextCut g.vc cut_at count p n
    → (c : Cut) → c ≡ cut_of g (get_or cut_at (3 * n.cut + 2) 0) → (w : Walk) → w ≡ walk_with c.point splits (segment_at cut_at p) p n
    → (r : Option Candidate) → r ≡ walked g.outline g.vc w g.tolerance → r ≡ walk_at (along g cut_at splits) p
told-walk g cut_at splits p here count counted n found c e w is r d =
    walk-of g.outline cut_at (cut_points g) splits s p here.last n f w by r d
  where
    s : Case
    s = cuts.case_of g.vc g.source g.hits g.laps g.tolerance

    f : NextCut g.vc cut_at (cut_count g) p n
    f = rw counted at found

    by : w ≡ walk_by (cut_points g) splits (segment_at cut_at p) p n
    by = is ∙ ap (λ (x : Point). walk_with x splits (segment_at cut_at p) p n) (ap (λ (v : Cut). v.point) e ∙ sym (here.told.point n.cut f.below))
