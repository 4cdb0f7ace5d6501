-- What the loops over cells keep.
use Prim.Native.Nat.{ℕ, ◌+◌, ◌<◌}
use native.Mathlib.Omega.{arith}
use mathlib.Core.Bool.{Bool}
use mathlib.Core.List.{List}
use mathlib.Core.Path.{◌≡◌, refl, ◌∙◌}
use lib.ListN.{length}
use lib.Ieee.{Float}
use Rattle.select.specs.Select.{no_number}
use Rattle.stitch_cell.specs.CellLaws.{cell-under}
use Rattle.stitch_cell.specs.Lower.{lesser_of}
use Rattle.stitch_layout.specs.declared.layout.Layout.{Layout}
use Rattle.stitch_layout.specs.declared.layout.Query.{Query}
use Rattle.stitch_links.specs.declared.look.Cells.{Cells}
use Rattle.stitch_run.specs.Run.{free}
use Rattle.stitch_layout.specs.Slices.{list_of, home_of, meets_of}
use Rattle.stitch_links.specs.Looks.{hit_of}
use Rattle.stitch_links.specs.Looks.{Found, Looked, Block}
use Rattle.stitch_links.specs.Ready.{Lookable, OnList, Row, Rows, Asked, Lowest}
use Rattle.stitch_layout.specs.PuttingLaws.{list-under}
use Rattle.stitch_links.specs.BlockLaws.{found_none, found_of, found-cell, found-above, found-beside, block-lowest}

module _ (points : List Float) (visited : List Bool) (w : Layout) (q : Query) where
  abbrev Of : (ℕ → Type 0) → List ℕ → ℕ → Type 0
  Of C link r = Looked (free visited q.first) (hit_of points visited w q) (home_of points w) (meets_of points w) C w.lists w.count link r

  -- the block is looked through, and lists and marks are ready for more
  pub record Swept (link₀ link : List ℕ) (x0 x1 y0 y1 best : ℕ) : Type 0 where
    pub ready : Lookable points visited w q.first link
    pub found : Found (hit_of points visited w q) (Block points w x0 x1 y0 y1) w.count best
    pub same : length link ≡ length link₀

  -- nothing yet
  pub swept-row : (link : List ℕ) (x y0 y1 : ℕ) → Row points visited w q.first link y1 → Swept link link x (x + 1) y0 y0 no_number
  swept-row link x y0 y1 t =
      record { ready = t.ready; found = found_none (hit_of points visited w q) w.count (Block points w x (x + 1) y0 y0) (λ j b. omega (arith, b.bottom, b.top)); same = refl }

  pub swept-rows : (link : List ℕ) (c : Cells) → Rows points visited w q.first link c → Swept link link c.x0 c.x0 c.y0 (c.y1 + 1) no_number
  swept-rows link c t =
      record { ready = t.ready; found = found_none (hit_of points visited w q) w.count (Block points w c.x0 c.x0 c.y0 (c.y1 + 1)) (λ j b. omega (arith, b.left, b.right)); same = refl }

  module _ (link₀ link : List ℕ) (x0 x1 y0 y1 best : ℕ) (t : Swept link₀ link x0 x1 y0 y1 best) where
    pub swept-list : (cx cy h : ℕ) → h ≡ list_of w.lists cx cy q.group → OnList points visited w q.first link h
    swept-list cx cy h e = record { ready = t.ready; inside = rw e (list-under w.lists cx cy q.group t.ready.fit.lists) }

    relinked : (C : ℕ → Type 0) (link' : List ℕ) (r : ℕ) → Of C link' r → Lookable points visited w q.first link'
    relinked C link' r k = record { fit = t.ready.fit; marks = t.ready.marks; linked = k.linked }

  -- one more cell on top
  pub swept-up : (link₀ link link' : List ℕ) (x y0 y best h r b : ℕ) → Swept link₀ link x (x + 1) y0 y best → h ≡ list_of w.lists x y q.group → Of (λ j. home_of points w j ≡ h) link' r
      → length link' ≡ length link → b ≡ lesser_of best r → Swept link₀ link' x (x + 1) y0 (y + 1) b
  swept-up link₀ link link' x y0 y best h r b t e k s l =
      record {
        ready = relinked link₀ link x (x + 1) y0 y best t _ link' r k;
        found = rw l (found-above points visited w q x (x + 1) y0 y best r t.found (found-cell points visited w q x y h r e k.found));
        same = s ∙ t.same;
      }

  -- one more column beside
  pub swept-on : (link₀ link link' : List ℕ) (x0 x y0 y1 best r b : ℕ) → Swept link₀ link x0 x y0 y1 best → Of (Block points w x (x + 1) y0 y1) link' r
      → length link' ≡ length link → b ≡ lesser_of best r → Swept link₀ link' x0 (x + 1) y0 y1 b
  swept-on link₀ link link' x0 x y0 y1 best r b t k s l =
      record {
        ready = relinked link₀ link x0 x y0 y1 best t _ link' r k;
        found = rw l (found-beside points visited w q x0 x y0 y1 best r t.found k.found);
        same = s ∙ t.same;
      }

  -- all cells are looked through
  pub row-end : (link₀ link : List ℕ) (x y0 y y1 best : ℕ) → Swept link₀ link x (x + 1) y0 y best → y1 < y → Of (Block points w x (x + 1) y0 (y1 + 1)) link best
  row-end link₀ link x y0 y y1 best t l =
      record {
        linked = t.ready.linked;
        found = found_of (hit_of points visited w q) w.count (Block points w x (x + 1) y0 y) (Block points w x (x + 1) y0 (y1 + 1)) best (λ j b. record { left = b.left; right = b.right; bottom = b.bottom; top = omega (arith, b.top) }) t.found;
      }

  pub rows_end : (link₀ link : List ℕ) (x0 x x1 y0 y1 best : ℕ) → Swept link₀ link x0 x y0 y1 best → x1 < x → Of (Block points w x0 (x1 + 1) y0 y1) link best
  rows_end link₀ link x0 x x1 y0 y1 best t l =
      record {
        linked = t.ready.linked;
        found = found_of (hit_of points visited w q) w.count (Block points w x0 x y0 y1) (Block points w x0 (x1 + 1) y0 y1) best (λ j b. record { left = b.left; right = omega (arith, b.right); bottom = b.bottom; top = b.top }) t.found;
      }

  -- the whole box
  pub rows_of : (link : List ℕ) (c : Cells) → Asked points visited w q link c → Rows points visited w q.first link c
  rows_of link c a =
      record {
        ready = a.ready;
        low = rw a.cells (let z = cell-under w.y a.ready.fit.y q.top in omega arith);
        low_x = rw a.cells (let z = cell-under w.x a.ready.fit.x q.right in omega arith);
      }

  pub lowest-of : (link link' : List ℕ) (c : Cells) (r : ℕ) → Asked points visited w q link c → Of (Block points w c.x0 (c.x1 + 1) c.y0 (c.y1 + 1)) link' r → Lowest points visited w q link' r
  lowest-of link link' c r a k =
      let f = k.found in
      record { is = block-lowest points visited w q r a.ready.fit (rw a.cells at f); linked = k.linked }
