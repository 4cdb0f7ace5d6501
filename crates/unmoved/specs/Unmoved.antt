-- Document 02, K3, reopening: whether a view has the same vertices on an old and on a new outline, bit for bit.
use Rattle.std.specs.Prelude.{ℕ, zero, suc, Bool, true, not, cond, ◌&&◌, ◌≡◌, List, T, eqb, Float, Option, Some, None}
use Rattle.std.specs.Float.{binary64}
use Rattle.std.specs.Float.Ieee.{is_nan, to_bits}
use Rattle.basis.specs.Number.{all_within}
use Rattle.outline.specs.declared.point.Vertex.{Vertex}
use Rattle.view.specs.declared.data.ViewData.{ViewData}
use Rattle.view.specs.View.{Fit, vertex_of, vertex_count, view_numbers}

-- the same bits: +0 is not −0
unfoldable pub same_bits : Float → Float → Bool
same_bits a b = eqb (to_bits binary64 a) (to_bits binary64 b)

unfoldable pub same_vertex : Vertex → Vertex → Bool
same_vertex a b = same_bits a.x b.x && (same_bits a.y b.y && same_bits a.bulge b.bulge)

-- vertex k of the view, on the one outline and on the other
unfoldable pub same_at : List Float → ℕ → List Float → ℕ → ViewData → ℕ → Bool
same_at o1 vc1 o2 vc2 v k = same_vertex (vertex_of o1 vc1 v k) (vertex_of o2 vc2 v k)

-- of the n numbers from k on the lowest for which a test fails, and k + n where it passes for each
unfoldable pub lowest_from : (ℕ → Bool) → ℕ → ℕ → ℕ
lowest_from q k zero = k
lowest_from q k (suc n) = cond (q k) (lowest_from q (suc k) n) k

-- the lowest number of a vertex that differs, and the view's vertex count where none does
unfoldable pub first_moved : List Float → ℕ → List Float → ℕ → ViewData → ℕ
first_moved o1 vc1 o2 vc2 v = lowest_from (same_at o1 vc1 o2 vc2 v) 0 (vertex_count v)

-- the same as the code tells it: none where no vertex differs
unfoldable pub moved : List Float → ℕ → List Float → ℕ → ViewData → Option ℕ
moved o1 vc1 o2 vc2 v =
    cond (eqb (first_moved o1 vc1 o2 vc2 v) (vertex_count v)) None (Some (first_moved o1 vc1 o2 vc2 v))

-- ---- what a caller has shown

-- numbers whose bits may be read
pub record Numbers (a b : Float) : Type 0 where
  pub first : T (not (is_nan a))
  pub second : T (not (is_nan b))

pub record Vertices (a b : Vertex) : Type 0 where
  pub xs : Numbers a.x b.x
  pub ys : Numbers a.y b.y
  pub bulges : Numbers a.bulge b.bulge

-- a view that fits both outlines, all numbers in range
pub record BothFit (o1 : List Float) (vc1 : ℕ) (o2 : List Float) (vc2 : ℕ) (v : ViewData) : Type 0 where
  pub first : Fit o1 vc1 v
  pub second : Fit o2 vc2 v
  pub numbers1 : all_within o1 ≡ true
  pub numbers2 : all_within o2 ≡ true
  pub own : all_within (view_numbers v) ≡ true
