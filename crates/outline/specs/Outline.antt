-- An outline: the numbers of its vertices in one list, and its vertex count vc. Document 01: "A vertex is a record of x, y and bulge, all f64."
use Rattle.std.specs.Prelude.{ℕ, ◌+◌, ◌*◌, ◌%◌, ◌≤◌, ◌<◌, ◌≡◌, List, length, get_or, Float}
use Rattle.std.specs.Float.{nan}
use Rattle.outline.specs.declared.point.Point.{Point}
use Rattle.outline.specs.declared.point.Vertex.{Vertex}

-- the vertex whose three numbers stand at place i
unfoldable pub vertex_at : List Float → ℕ → Vertex
vertex_at o i = record { x = get_or o (3 * i) nan; y = get_or o (3 * i + 1) nan; bulge = get_or o (3 * i + 2) nan }

-- the point whose two numbers stand from place i on
unfoldable pub point_at : List Float → ℕ → Point
point_at s i = record { x = get_or s i nan; y = get_or s (i + 1) nan }

-- "Indexes wrap by the vertex count vc."
unfoldable pub wrap : ℕ → ℕ → ℕ
wrap vc i = i % vc

-- the outline's vertex at an index that wraps
unfoldable pub outline_at : List Float → ℕ → ℕ → Vertex
outline_at o vc i = vertex_at o (wrap vc i)

-- ---- what a caller has shown

-- an outline whose length and size are as document 01 has them
pub record Whole (o : List Float) (vc : ℕ) : Type 0 where
  pub triples : length o ≡ 3 * vc
  pub least : 2 ≤ vc
  pub most : vc ≤ 1024

-- an index of the list's triples
pub record Triple (o : List Float) (i : ℕ) : Type 0 where
  pub inside : 3 * i + 2 < length o

-- two numbers from a place on
pub record Two (s : List Float) (i : ℕ) : Type 0 where
  pub inside : i + 1 < length s

-- an index that one wrap brings below the vertex count: it is below twice that count
pub record Turn (vc i : ℕ) : Type 0 where
  pub twice : i < 2 * vc

-- such an index into an outline
pub record Near (o : List Float) (vc i : ℕ) : Type 0 where
  pub whole : Whole o vc
  pub turn : Turn vc i

-- a segment's number
pub record Segment (o : List Float) (vc i : ℕ) : Type 0 where
  pub whole : Whole o vc
  pub inside : i < vc
