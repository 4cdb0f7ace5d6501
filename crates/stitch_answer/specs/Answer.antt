-- What the selector answers for an end: over the candidates in ascending number, and by three looks.
use Rattle.std.specs.Prelude.{ℕ, ◌*◌, ◌<◌, Bool, true, false, cond, ◌&&◌, List, [], ◌∷◌, ◌≡◌, eqb, Float, Option, Some, None}
use Rattle.std.specs.Bool.{then_some}
use Rattle.basis.specs.declared.number.Tolerance.{Tolerance}
use Rattle.outline.specs.declared.point.Point.{Point}
use Rattle.outline.specs.Points.{in_box}
use Rattle.outline.specs.Outline.{point_at}
use Rattle.select.specs.declared.class.Starts.{Starts}
use Rattle.select.specs.declared.class.Class.{Class}
use Rattle.select.specs.declared.class.Class.TheVariants.{OfOne, OfTwo, OverlapOfOne, OverlapOfTwo}
use Rattle.select.specs.Select.{no_number, Known, select_of}
use Rattle.stitch_run.specs.declared.plan.Plan.{Plan}
use Rattle.stitch_run.specs.Run.{free, passing}
use Rattle.stitch_layout.specs.declared.layout.Layout.{Layout}
use Rattle.stitch_layout.specs.declared.layout.Query.{Query}
use Rattle.stitch_layout.specs.Slices.{group_of, home_of, starts_in, meets_of}
use Rattle.stitch_layout.specs.Links.{Linked}
use Rattle.stitch_links.specs.Ready.{ScanFit, Lookable}
use Rattle.stitch_links.specs.Hung.{Hung}

-- slice j is a candidate of the end
abbrev pub near_end : List Float → List Bool → ℕ → Point → Tolerance → ℕ → Bool
near_end points visited first end t j = free visited first j && in_box t end (point_at points (2 * j))

abbrev pub has_any : List ℕ → Bool
has_any [] = false
has_any (j ∷ l) = true

-- no candidate, or what the selector answers among them
unfoldable pub answer_of : ℕ → Starts → ℕ → List ℕ → Option (Option ℕ)
answer_of selector s current l = then_some (has_any l) (select_of selector s current l)

-- the same of the candidates of an end, for a plan
abbrev pub answer_at : List Float → List Bool → ℕ → ℕ → Point → Plan → Option (Option ℕ)
answer_at points visited first current end p = answer_of p.selector p.starts current (passing (near_end points visited first end p.tolerance) p.slices)

-- ---- by three looks: the group to look for first, by the current slice's class, the other, and overlaps

abbrev pub group_first : Class → ℕ
group_first OfOne = 1
group_first OfTwo = 0
group_first OverlapOfOne = 1
group_first OverlapOfTwo = 0

abbrev pub is_overlap : Class → Bool
is_overlap OfOne = false
is_overlap OfTwo = false
is_overlap OverlapOfOne = true
is_overlap OverlapOfTwo = true

-- overlaps that follow overlaps are not selected by NotXor
abbrev pub refused_of : ℕ → Class → Bool
refused_of selector class = eqb selector 1 && is_overlap class

-- a of the group that is looked for first, b of the other, o of the overlaps
unfoldable pub in_order : Bool → ℕ → ℕ → ℕ → Option (Option ℕ)
in_order refused a b o = cond (eqb a no_number) (cond (eqb b no_number) (cond (eqb o no_number) None (cond refused (Some None) (Some (Some o)))) (Some (Some b))) (Some (Some a))

-- slice j passes, and is of a group
abbrev pub in_group : (ℕ → Bool) → Layout → ℕ → ℕ → Bool
in_group p w g j = p j && eqb (group_of w j) g

-- the slices' groups are their classes, overlaps taken together
pub record Classed (w : Layout) (s : Starts) : Type 0 where
  pub two : w.two ≡ s.pline2
  pub over : w.over ≡ s.pline1_overlapping

-- the box, for another group
abbrev pub grouped : Query → ℕ → Query
grouped q g = record { left = q.left; right = q.right; bottom = q.bottom; top = q.top; group = g; first = q.first }

-- slice j is free, and starts in the closed box
unfoldable pub offered_of : List Float → List Bool → Query → ℕ → Bool
offered_of points visited q j = free visited q.first j && starts_in points q j

pub record Ready (points : List Float) (visited : List Bool) (w : Layout) (q : Query) (link : List ℕ) (selector : ℕ) (s : Starts) : Type 0 where
  pub ready : Lookable points visited w q.first link
  pub known : Known selector
  pub classed : Classed w s

pub record Grouped (points : List Float) (visited : List Bool) (w : Layout) (q : Query) (selector : ℕ) (s : Starts) (current : ℕ) (link : List ℕ) (r : Option (Option ℕ)) : Type 0 where
  pub is : r ≡ answer_of selector s current (passing (offered_of points visited q) w.count)
  pub linked : Linked (free visited q.first) (home_of points w) (meets_of points w) w.lists w.count link

-- ---- of an end

pub record Asking (points : List Float) (visited : List Bool) (link : List ℕ) (w : Layout) (first : ℕ) (p : Plan) : Type 0 where
  pub scan : ScanFit points visited p.slices
  pub selectors : p.selector < 2
  pub hung : Hung points visited first w link p.slices p.starts
  pub some : 0 < w.lists

pub record Answered (points : List Float) (visited : List Bool) (link : List ℕ) (w : Layout) (first current : ℕ) (end : Point) (p : Plan) (r : Option (Option ℕ)) : Type 0 where
  pub is : r ≡ answer_at points visited first current end p
  pub hung : Hung points visited first w link p.slices p.starts
