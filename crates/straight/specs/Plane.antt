-- Document 02, K8: the winding number and the doubled signed area of an outline in whole microdegrees. Every number here is whole, without bound, so nothing is rounded.
use Rattle.std.specs.Prelude.{Bool, ◌&&◌, List, [], ◌∷◌, ℤ, pos, ◌+ℤ◌, ◌-ℤ◌, ◌*ℤ◌}
use Rattle.std.specs.Int.Signed.{lt_z, le_z}
use Rattle.basis.specs.Choice.{code_of}

pub record Spot : Type 0 where
  pub x : ℤ
  pub y : ℤ

-- an outline as it is handed in, x and y in turn
unfoldable pub spots : List ℤ → List Spot
spots [] = []
spots (a ∷ []) = []
spots (a ∷ b ∷ r) = record { x = a; y = b } ∷ spots r

-- "the sum over edges": f of each vertex and the one after it. The last vertex goes on to q
abbrev pub first : List Spot → Spot → Spot
first [] q = q
first (s ∷ r) q = s

unfoldable pub sums : (Spot → Spot → ℤ) → Spot → List Spot → ℤ
sums f q [] = pos 0
sums f q (p ∷ r) = f p (first r q) +ℤ sums f q r

-- and round the outline to its first vertex
unfoldable pub around : (Spot → Spot → ℤ) → List Spot → ℤ
around f [] = pos 0
around f (p ∷ r) = sums f p (p ∷ r)

-- "left and right as seen along the edge": above 0 where p is strictly left of the line from a through b, below 0 where it is strictly right, and 0 on it
unfoldable pub side : Spot → Spot → Spot → ℤ
side a b p = (b.x -ℤ a.x) *ℤ (p.y -ℤ a.y) -ℤ (p.x -ℤ a.x) *ℤ (b.y -ℤ a.y)

unfoldable pub left : Spot → Spot → Spot → Bool
left a b p = lt_z (pos 0) (side a b p)

unfoldable pub right : Spot → Spot → Spot → Bool
right a b p = lt_z (side a b p) (pos 0)

-- "y1 ≤ y < y2"
unfoldable pub spans : Spot → Spot → Spot → Bool
spans a b p = le_z a.y p.y && lt_z p.y b.y

-- "plus 1 if y1 ≤ y < y2 and the point is strictly left, minus 1 if y2 ≤ y < y1 and strictly right"
unfoldable pub crossing : Spot → Spot → Spot → ℤ
crossing p a b = pos (code_of (spans a b p && left a b p)) -ℤ pos (code_of (spans b a p && right a b p))

-- "Probes .. come in doubled coordinates", so the vertices are doubled too
unfoldable pub twice : Spot → Spot
twice s = record { x = pos 2 *ℤ s.x; y = pos 2 *ℤ s.y }

-- "the winding number (inside is any but 0)"
unfoldable pub winding : List Spot → Spot → ℤ
winding o p = around (λ a b. crossing p (twice a) (twice b)) o

-- "the doubled signed area (anticlockwise positive)": x1 y2 - x2 y1, summed
unfoldable pub cross : Spot → Spot → ℤ
cross a b = a.x *ℤ b.y -ℤ b.x *ℤ a.y

unfoldable pub area : List Spot → ℤ
area o = around cross o
