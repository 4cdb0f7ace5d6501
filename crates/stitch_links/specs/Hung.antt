-- Slices that hang on lists, from the first look of a stitch to the last. A layout of no lists asks for nothing: there a scan looks.
use Rattle.std.specs.Prelude.{ℕ, ◌≤◌, ◌<◌, Bool, true, false, List, ◌≡◌, get_or, set, Float}
use Rattle.std.proofs.Common.{arith}
use Rattle.select.specs.declared.class.Starts.{Starts}
use Rattle.stitch_run.specs.Run.{free}
use Rattle.stitch_cell.specs.Cell.{Steady}
use Rattle.stitch_layout.specs.declared.layout.Layout.{Layout}
use Rattle.stitch_layout.specs.Slices.{home_of, meets_of}
use Rattle.stitch_layout.specs.Links.{Linked, ever_free}
use Rattle.stitch_links.specs.Ready.{ScanFit}
use Rattle.stitch_layout.specs.Ready.{Fit}
use Rattle.stitch_links.specs.LinkLaws.{linked-fresh, linked-visit, linked-begin}

-- the layout is of these slices
pub record Laid (w : Layout) (n : ℕ) (s : Starts) : Type 0 where
  pub count : w.count ≡ n
  pub two : w.two ≡ s.pline2
  pub over : w.over ≡ s.pline1_overlapping
  pub small : w.lists ≤ 4096
  pub x : Steady w.x
  pub y : Steady w.y

-- a chain runs: its first slice is free, and so is what is not visited
pub record Hung (points : List Float) (visited : List Bool) (first : ℕ) (w : Layout) (link : List ℕ) (n : ℕ) (s : Starts) : Type 0 where
  pub laid : Laid w n s
  pub linked : 0 < w.lists → Linked (free visited first) (home_of points w) (meets_of points w) w.lists w.count link

-- between two chains: the invariant holds with some slice as the first, such as the last chain's
pub record Between (points : List Float) (visited : List Bool) (w : Layout) (link : List ℕ) (n : ℕ) (s : Starts) : Type 0 where
  pub before : ℕ
  pub hung : Hung points visited before w link n s

module _ (points : List Float) (visited : List Bool) (first : ℕ) (w : Layout) (link : List ℕ) (n : ℕ) (s : Starts) where
  -- what a look asks of the layout
  pub hung-fit : Hung points visited first w link n s → 0 < w.lists → ScanFit points visited n → Fit points w
  hung-fit h l f =
      record {
        lists = record { some = l; small = h.laid.small };
        few = omega (arith, h.laid.count, f.few);
        size = omega (arith, h.laid.count, f.size);
        x = h.laid.x;
        y = h.laid.y;
      }

  -- a slice is visited, while a chain runs
  pub hung-visit : (i : ℕ) → Hung points visited first w link n s → Hung points (set visited i true) first w link n s
  hung-visit i h = record { laid = h.laid; linked = λ l. linked-visit (home_of points w) (meets_of points w) w.lists w.count link visited first i (h.linked l) }

  -- a chain begins, with a slice that is not visited
  pub hung-begin : (i : ℕ) → get_or visited i false ≡ false → Hung points visited first w link n s → Hung points (set visited i true) i w link n s
  hung-begin i e h = record { laid = h.laid; linked = λ l. linked-begin (home_of points w) (meets_of points w) w.lists w.count link visited first i e (h.linked l) }

  -- before any is
  pub hung-fresh : Laid w n s → (0 < w.lists → Linked ever_free (home_of points w) (meets_of points w) w.lists w.count link) → Hung points visited first w link n s
  hung-fresh a h = record { laid = a; linked = λ l. linked-fresh (home_of points w) (meets_of points w) w.lists w.count link (free visited first) (h l) }
