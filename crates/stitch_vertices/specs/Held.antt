-- A chain in lent room: its n vertices are the room's first n. What a caller has shown, and what the functions leave.
use Rattle.std.specs.Prelude.{ℕ, zero, suc, ◌+◌, ◌*◌, ◌≤◌, ◌<◌, Bool, false, ◌≡◌, List, [], ◌∷◌, length, drop, Float}
use Rattle.basis.specs.declared.number.Tolerance.{Tolerance}
use Rattle.outline.specs.declared.point.Vertex.{Vertex}
use Rattle.outline.specs.Points.{pos_of, points_agree}
use Rattle.outline.specs.Outline.{vertex_at}
use Rattle.view.specs.declared.data.ViewData.{ViewData}
use Rattle.view.specs.View.{Fit, vertex_count}
use Rattle.stitch_vertices.specs.Vertices.{add_vertex, add_view}

-- the room's first n vertices, newest first
unfoldable pub chain_of : List Float → ℕ → List Vertex
chain_of room zero = []
chain_of room (suc n) = vertex_at room n ∷ chain_of room n

-- the vertex agrees in position with the chain's last, if it has one
unfoldable pub repeats : Tolerance → List Vertex → Vertex → Bool
repeats t [] v = false
repeats t (last ∷ vs) v = points_agree t (pos_of last) (pos_of v)

-- the room holds n vertices
pub record Held (room : List Float) (n : ℕ) : Type 0 where
  pub fits : 3 * n ≤ length room

-- and has room for one more
pub record OneMore (room : List Float) (n : ℕ) : Type 0 where
  pub fits : 3 * n + 3 ≤ length room

-- and for all vertices of a view, which fits its outline
pub record ViewMore (room : List Float) (n : ℕ) (o : List Float) (vc : ℕ) (v : ViewData) : Type 0 where
  pub view : Fit o vc v
  pub fits : 3 * (n + vertex_count v) ≤ length room

-- how a chain of n vertices in `room` becomes one of r in room', at most m more, and the chain that it becomes. Nothing beyond those is written
pub record Grown (vs : List Vertex) (m n : ℕ) (room : List Float) (r : ℕ) (room' : List Float) : Type 0 where
  pub chain : chain_of room' r ≡ vs
  pub beyond : (w : ℕ) → 3 * (n + m) ≤ w → drop w room' ≡ drop w room
  pub size : length room' ≡ length room
  pub low : n ≤ r
  pub high : r ≤ n + m

-- one vertex was added
pub record Added (t : Tolerance) (v : Vertex) (n : ℕ) (room : List Float) (r : ℕ) (room' : List Float) : Type 0 where
  pub grown : Grown (add_vertex t (chain_of room n) v) 1 n room r room'
  pub some : 0 < r

-- all vertices of a view were
pub record Extended (t : Tolerance) (o : List Float) (vc : ℕ) (v : ViewData) (n : ℕ) (room : List Float) (r : ℕ) (room' : List Float) : Type 0 where
  pub grown : Grown (add_view t o vc v (chain_of room n)) (vertex_count v) n room r room'
  pub some : 0 < r
