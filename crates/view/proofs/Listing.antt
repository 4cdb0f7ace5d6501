-- The loop that writes a view's vertices: k of them stand at the front of the room.
use Prim.Native.Nat.{ℕ, ◌+◌, ◌*◌, ◌≤◌, ◌<◌}
use mathlib.Core.Path.{◌≡◌, refl, ◌∙◌}
use mathlib.Core.List.{List}
use native.Mathlib.Omega.{arith}
use lib.ListN.{length}
use lib.Seq.{sets}
use lib.Ieee.{Float}
use Rattle.basis.specs.Number.{+0}
use Rattle.basis.specs.Room.{room_of, RoomFor}
use Rattle.basis.specs.ItemLaws.{Filling, fill_none, fill_more, fill_end}
use Rattle.outline.specs.declared.point.Vertex.{Vertex}
use Rattle.outline.specs.Points.{vertex_numbers}
use Rattle.view.specs.declared.data.ViewData.{ViewData}
use Rattle.view.specs.View.{vertex_of, vertex_count, vertex_item, view_vertices, ListFit}

pub record Listing (o : List Float) (vc : ℕ) (v : ViewData) (entry room : List Float) (k : ℕ) : Type 0 where
  pub ahead : k ≤ vertex_count v
  pub roomy : 3 * vertex_count v ≤ length entry
  pub filled : Filling (vertex_item o vc v) 3 entry room k

module _ (o : List Float) (vc : ℕ) (v : ViewData) (entry : List Float) where
  pub list-none : ListFit o vc v entry → Listing o vc v entry entry 0
  list-none f = record { ahead = omega arith; roomy = f.fits; filled = fill_none (vertex_item o vc v) 3 (λ n. refl) entry }

  pub list-room : (room : List Float) (k : ℕ) → Listing o vc v entry room k → k < vertex_count v → RoomFor room (3 * k) 3
  list-room room k s h = let e = s.filled.long in record { fits = omega (arith, e) }

  pub list-more : (room room' : List Float) (k : ℕ) (u : Vertex) → Listing o vc v entry room k → k < vertex_count v → u ≡ vertex_of o vc v k → room' ≡ sets room (3 * k) (vertex_numbers u)
      → Listing o vc v entry room' (k + 1)
  list-more room room' k u s h e q =
      record {
        ahead = omega arith;
        roomy = s.roomy;
        filled = fill_more (vertex_item o vc v) 3 (λ n. refl) entry room room' k s.filled (omega arith) (q ∙ rw e);
      }

  pub list-end : (room : List Float) (k : ℕ) → Listing o vc v entry room k → vertex_count v ≤ k → room ≡ room_of +0 3 (vertex_count v) (view_vertices o vc v) entry
  list-end room k s h = fill_end (vertex_item o vc v) 3 (λ n. refl) entry +0 room k (vertex_count v) s.filled (omega arith)

pub ruleset listing = (list-none, list-room, list-more, list-end)
