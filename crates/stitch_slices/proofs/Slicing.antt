-- Laws by which slices are read: their start points, and their vertices in a chain.
use Prim.Native.Nat.{ℕ, suc, ◌+◌, ◌*◌, ◌≤◌, ◌<◌}
use mathlib.Core.Bool.{true, false}
use mathlib.Core.Path.{◌≡◌, refl, ap, ◌∙◌}
use mathlib.Core.List.{List}
use native.Mathlib.Numerals.{add-one}
use native.Mathlib.Decide.{dec_lt}
use native.Mathlib.Omega.{arith}
use lib.Dec.{eqb}
use lib.ListN.{length, set, length-set}
use lib.Seq.{sets, length-sets, get_or-set_same, get_or-set_other}
use lib.Ieee.{Float, nan}
use borrow.Author.Tests.{eq-eqb, ne_eqb}
use Rattle.outline.specs.declared.point.Point.{Point}
use Rattle.outline.specs.declared.point.Vertex.{Vertex}
use Rattle.outline.specs.Points.{pos_of, point_numbers}
use Rattle.outline.specs.Outline.{point_at}
use Rattle.view.specs.declared.data.ViewData.{ViewData}
use Rattle.view.specs.View.{Fit, vertex_of}
use Rattle.select.specs.SelectLaws as select
use Rattle.stitch_vertices.specs.Held.{ViewMore, Extended}
use Rattle.stitch_run.specs.declared.plan.Plan.{Plan}
use Rattle.stitch_run.specs.Stitch.{given, Given, slice_outline, slice_count, slice_vertex, start_point_of, add_slice}
use Rattle.slice.specs.declared.data.Codes.{Codes}
use Rattle.slice.specs.Ready.{CodesThere, SliceThere}
use Rattle.slice.specs.Slice.{codes_at, slice_view}
use Rattle.stitch_slices.specs.Ready.{SliceFit, SliceMore, SliceAdded, PointsFit, Points}

-- ---- a slice

pub there-of : (o1 o2 : List Float) (at : List ℕ) (numbers : List Float) (p : Plan) (i : ℕ) → SliceFit (given o1 o2 at numbers p) i → SliceThere at numbers i
there-of o1 o2 at numbers p i f = record { codes = record { inside = omega (arith, f.sound.at) }; shape-there = record { inside = omega (arith, f.sound.numbers) } }

pub codes-of : (o1 o2 : List Float) (at : List ℕ) (numbers : List Float) (p : Plan) (i : ℕ) → SliceFit (given o1 o2 at numbers p) i → CodesThere at i
codes-of o1 o2 at numbers p i f = (there-of o1 o2 at numbers p i f).codes

-- its source is 1, or not: the slice is of outline 1, or of outline 2
module _ (o1 o2 : List Float) (at : List ℕ) (numbers : List Float) (p : Plan) (i : ℕ) (v : ViewData) (e : v ≡ slice_view at numbers i) (x : Codes) (t : x ≡ codes_at at i) where
  abbrev g : Given
  g = given o1 o2 at numbers p

  first : x.source ≡ 1 → eqb (codes_at at i).source 1 ≡ true
  first h = eq-eqb (codes_at at i).source 1 (rw t at h)

  second : (x.source ≡ 1 → ⊥) → eqb (codes_at at i).source 1 ≡ false
  second h = ne_eqb (codes_at at i).source 1 (rw t at h)

  pub fit-first : SliceFit g i → x.source ≡ 1 → Fit o1 p.vc1 v
  unfolding slice_outline slice_count
  fit-first f h = let k = f.sound.views i f.here in rw e (rw (first h) at k)

  pub fit-second : SliceFit g i → (x.source ≡ 1 → ⊥) → Fit o2 p.vc2 v
  unfolding slice_outline slice_count
  fit-second f h = let k = f.sound.views i f.here in rw e (rw (second h) at k)

  -- its start point
  pub start_first : (w : Vertex) (r : Point) → x.source ≡ 1 → w ≡ vertex_of o1 p.vc1 v 0 → r ≡ pos_of w → r ≡ start_point_of g i
  unfolding start_point_of slice_vertex slice_outline slice_count
  start_first w r h p q = q ∙ ap pos_of p ∙ rw (e, first h)

  pub start-second : (w : Vertex) (r : Point) → (x.source ≡ 1 → ⊥) → w ≡ vertex_of o2 p.vc2 v 0 → r ≡ pos_of w → r ≡ start_point_of g i
  unfolding start_point_of slice_vertex slice_outline slice_count
  start-second w r h p q = q ∙ ap pos_of p ∙ rw (e, second h)

  -- its vertices follow
  pub more-first : (room : List Float) (n : ℕ) → SliceMore g i room n → x.source ≡ 1 → ViewMore room n o1 p.vc1 v
  unfolding slice_view
  more-first room n m h = record { view = fit-first m.slice h; fits = rw e m.fits }

  pub more-second : (room : List Float) (n : ℕ) → SliceMore g i room n → (x.source ≡ 1 → ⊥) → ViewMore room n o2 p.vc2 v
  unfolding slice_view
  more-second room n m h = record { view = fit-second m.slice h; fits = rw e m.fits }

  pub added-first : (n : ℕ) (room : List Float) (r : ℕ) (room' : List Float) → x.source ≡ 1
      → Extended p.tolerance o1 p.vc1 v n room r room' → SliceAdded g i n room r room'
  unfolding add_slice slice_outline slice_count
  added-first n room r room' h a =
      let y = rw e at a in
      record { grown = rw (first h) (unfold slice_view in y.grown); some = a.some }

  pub added-second : (n : ℕ) (room : List Float) (r : ℕ) (room' : List Float) → (x.source ≡ 1 → ⊥)
      → Extended p.tolerance o2 p.vc2 v n room r room' → SliceAdded g i n room r room'
  unfolding add_slice slice_outline slice_count
  added-second n room r room' h a =
      let y = rw e at a in
      record { grown = rw (second h) (unfold slice_view in y.grown); some = a.some }

pub ruleset slicing = (there-of, codes-of, fit-first, fit-second, start_first, start-second, more-first, more-second, added-first, added-second)

-- ---- a point that was put, read back

point-same : (l : List Float) (a : ℕ) (s : Point) → a + 1 < length l → point_at (sets l a (point_numbers s)) a ≡ s
unfolding point_at
point-same l a s h =
    let u : suc a < length (set l a s.x) = simp length-set (omega arith) in
    rw (
      add-one a,
      get_or-set_other (set l a s.x) (suc a) a s.y nan (λ q. omega arith),
      get_or-set_same l a s.x nan (omega arith),
      get_or-set_same (set l a s.x) (suc a) s.y nan u,
    )

point-other : (l : List Float) (a b : ℕ) (s : Point) → b + 1 < a → point_at (sets l a (point_numbers s)) b ≡ point_at l b
unfolding point_at
point-other l a b s h =
    rw (
      get_or-set_other (set l a s.x) (suc a) b s.y nan (λ q. omega arith),
      get_or-set_other l a b s.x nan (λ q. omega arith),
      get_or-set_other (set l a s.x) (suc a) (b + 1) s.y nan (λ q. omega arith),
      get_or-set_other l a (b + 1) s.x nan (λ q. omega arith),
    )

-- ---- the table of start points: those below i are written

pub record Pointing (g : Given) (n : ℕ) (points : List Float) (i : ℕ) : Type 0 where
  pub size : 2 * g.slices ≤ length points
  pub same : length points ≡ n
  pub upto : i ≤ g.slices
  pub holds : (j : ℕ) → j < i → point_at points (2 * j) ≡ start_point_of g j

module _ (g : Given) (points : List Float) where
  pub points_none : PointsFit g points → Pointing g (length points) points 0
  points_none f = record { size = f.size; same = refl; upto = omega arith; holds = λ j h. absurd (omega arith) }

  pub points-more : (n i : ℕ) (s : Point) (points' : List Float) → Pointing g n points i → i < g.slices → s ≡ start_point_of g i
      → points' ≡ sets points (2 * i) (point_numbers s) → Pointing g n points' (i + 1)
  points-more n i s points' p h e w =
      let m : 2 * i + 1 < length points = omega (arith, p.size) in
      let same : length points' ≡ length points = ap length w ∙ length-sets points (2 * i) (point_numbers s) in
      record {
        size = rw same p.size;
        same = same ∙ p.same;
        upto = omega arith;
        holds = λ j d. rw w (go j (dec_lt j i) d m);
      }
    where
      go : (j : ℕ) → Dec (j < i) → j < i + 1 → 2 * i + 1 < length points → point_at (sets points (2 * i) (point_numbers s)) (2 * j) ≡ start_point_of g j
      go j (yes d) l m = point-other points (2 * i) (2 * j) s (omega arith) ∙ p.holds j d
      go j (no d) l m =
          let q : j ≡ i = omega arith in
          rw q (point-same points (2 * i) s m ∙ e)

  pub points-end : (n i : ℕ) → Pointing g n points i → g.slices ≤ i → Points g points
  points-end n i p h = let e : i ≡ g.slices = omega (arith, p.upto) in record { size = p.size; holds = rw e at p.holds }

pub ruleset pointing = (points_none, points-more, points-end)
