-- What it takes to hang slices on their lists, and what it leaves.
use Rattle.std.specs.Prelude.{ℕ, ◌+◌, ◌*◌, ◌≤◌, ◌<◌, Bool, List, ◌≡◌, length, get_or, Float}
use Rattle.std.proofs.Common.{arith}
use Rattle.basis.specs.Sizes.{most_slices}
use Rattle.select.specs.declared.class.Starts.{Starts}
use Rattle.stitch_run.specs.declared.plan.Plan.{Plan}
use Rattle.stitch_layout.specs.declared.layout.Layout.{Layout}
use Rattle.stitch_layout.specs.Slices.{home_of, meets_of}
use Rattle.stitch_layout.specs.Links.{Linked, ever_free}
use Rattle.stitch_layout.specs.Ready.{Empty}
use Rattle.stitch_links.specs.Hung.{Laid, Between, hung-fresh}

pub record FarFit (points : List Float) (n : ℕ) : Type 0 where
  pub size : 2 * n ≤ length points
  pub few : n ≤ most_slices

pub record Laying (lists : ℕ) : Type 0 where
  pub small : lists ≤ 4096

pub record LaidBy (w : Layout) (lists n : ℕ) (s : Starts) : Type 0 where
  pub laid : Laid w n s
  pub by : w.lists ≡ lists

-- links for so many lists that hold no slice
pub record Hangable (points : List Float) (link : List ℕ) (p : Plan) (lists : ℕ) : Type 0 where
  pub far : FarFit points p.slices
  pub laying : Laying lists
  pub long : 0 < lists → lists + p.slices + p.slices ≤ length link
  pub none : (h : ℕ) → h < lists → lists + p.slices ≤ get_or link h 0

pub record Hanged (points : List Float) (link : List ℕ) (p : Plan) (w : Layout) : Type 0 where
  pub laid : Laid w p.slices p.starts
  pub linked : 0 < w.lists → Linked ever_free (home_of points w) (meets_of points w) w.lists w.count link

-- with no lists nothing hangs
pub hang-none : (points : List Float) (link : List ℕ) (p : Plan) (w : Layout) → LaidBy w 0 p.slices p.starts → Hanged points link p w
hang-none points link p w l = record { laid = l.laid; linked = λ s. absurd (omega (arith, l.by)) }

module _ (points : List Float) (link : List ℕ) (p : Plan) (lists : ℕ) (h : Hangable points link p lists) (w : Layout) (l : LaidBy w lists p.slices p.starts) where
  pub hang-empty : (lists ≡ 0 → ⊥) → Empty points w link
  hang-empty e =
      let b = l.by in
      let c = l.laid.count in
      record {
        fit =
            record {
              lists = record { some = omega arith; small = l.laid.small };
              few = omega (arith, h.far.few);
              size = omega (arith, h.far.size);
              x = l.laid.x;
              y = l.laid.y;
            };
        size = omega (arith, h.long (omega arith));
        none = λ i d. omega (arith, h.none i (omega arith));
      }

pub ruleset hanging = (hang-none, hang-empty)

-- the first look finds all slices on their lists
pub hanged-between : (points : List Float) (link : List ℕ) (p : Plan) (w : Layout) (visited : List Bool) → Hanged points link p w → Between points visited w link p.slices p.starts
hanged-between points link p w visited h = record { before = 0; hung = hung-fresh points visited 0 w link p.slices p.starts h.laid h.linked }
