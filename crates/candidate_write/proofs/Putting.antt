-- Laws by which candidates are written one after the other.
use Rattle.std.specs.Prelude.{Option, Some, None}
use Prim.Native.Nat.{ℕ, ◌+◌, ◌*◌}
use mathlib.Core.Path.{◌≡◌, refl, ap, ◌∙◌}
use mathlib.Core.List.{List, [], ◌∷◌, ◌++◌}
use native.Mathlib.Omega.{arith}
use lib.ListN.{length}
use lib.Seq.{sets, length-sets}
use lib.Ieee.{Float}
use Rattle.basis.specs.Room.{RoomFor}
use Rattle.basis.specs.StoreLaws.{sets_then}
use Rattle.outline.specs.declared.point.Vertex.{Vertex}
use Rattle.outline.specs.Points.{vertex_numbers}
use Rattle.view.specs.View.{view_numbers}
use Rattle.candidate.specs.declared.at_cut.Candidate.{Candidate}
use Rattle.candidate.specs.Ready.{Rooms}
use Rattle.candidate.specs.Steps.{Put}

-- two vertices, one behind the other
module _ (l l₁ : List Float) (at : ℕ) (a : Vertex) (first : l₁ ≡ sets l at (vertex_numbers a)) where
  pub room-behind : RoomFor l at 6 → RoomFor l₁ (at + 3) 3
  room-behind r = record { fits = omega (arith, ap length first ∙ length-sets l at (vertex_numbers a), r.fits) }

  pub two-vertices : (l₂ : List Float) (b : Vertex) → l₂ ≡ sets l₁ (at + 3) (vertex_numbers b) → l₂ ≡ sets l at (vertex_numbers a ++ vertex_numbers b)
  two-vertices l₂ b e = e ∙ ap (λ (m : List Float). sets m (at + 3) (vertex_numbers b)) first ∙ sets_then l at 3 (vertex_numbers a) (vertex_numbers b) refl

pub put-none : (c : Option Candidate) (m : ℕ) (l : Rooms) → c ≡ None → Put c m l m l
put-none c m l e = rw e (record { counted = omega arith; at = refl; cand = refl; probe = refl })

pub put_some : (c : Option Candidate) (m : ℕ) (l l' : Rooms) (d : Candidate) → c ≡ Some d
    → l'.at ≡ sets l.at (2 * m) (d.view.start_index ∷ d.view.end_index_offset ∷ [])
    → l'.cand ≡ sets l.cand (6 * m) (view_numbers d.view)
    → l'.probe ≡ sets l.probe (6 * m) (vertex_numbers d.from ++ vertex_numbers d.to)
    → Put c m l (m + 1) l'
put_some c m l l' d e x y z = rw e (record { counted = refl; at = x; cand = y; probe = z })

pub ruleset putting = (room-behind, two-vertices, put-none, put_some)
