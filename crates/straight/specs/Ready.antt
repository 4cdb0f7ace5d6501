-- What the code asks of its numbers, as its callers have shown it, and what it works out of one edge.
use Rattle.std.specs.Prelude.{ℕ, ◌+◌, ◌*◌, ◌≤◌, ◌<◌, Bool, ◌&&◌, ◌≡◌, List, length, get_or, ℤ, pos, negsuc}
use Rattle.outline.specs.Outline.{wrap}
use Rattle.whole.specs.Fit.{Near}
use Rattle.straight.specs.Plane.{Spot, left, spans, cross}

-- two products of numbers up to 1,600,000,000 and their difference fit 64 bits: 2 · 1.6e9² = 5.12e18 < 2^63
pub record Four (a b c d : ℤ) : Type 0 where
  pub a-ok : Near 1600000000 a
  pub b-ok : Near 1600000000 b
  pub c-ok : Near 1600000000 c
  pub d-ok : Near 1600000000 d

-- doubled coordinates: their differences are up to 1,600,000,000
pub record Six (ax ay bx by x y : ℤ) : Type 0 where
  pub ax-ok : Near 800000000 ax
  pub ay-ok : Near 800000000 ay
  pub bx-ok : Near 800000000 bx
  pub by-ok : Near 800000000 by
  pub x-ok : Near 800000000 x
  pub y-ok : Near 800000000 y

-- a number of an outline
pub record Held (l : List ℤ) (k : ℕ) : Type 0 where
  pub inside : k < length l
  pub close : Near 400000000 (get_or l k (pos 0))

-- an edge from vertex i to vertex j of the list, every number within 400,000,000
pub record Edge (l : List ℤ) (i j : ℕ) : Type 0 where
  pub from : 2 * i + 1 < length l
  pub to : 2 * j + 1 < length l
  pub close : (k : ℕ) → Near 400000000 (get_or l k (pos 0))

-- and a probe, in doubled coordinates
pub record Seen (l : List ℤ) (i j : ℕ) (x y : ℤ) : Type 0 where
  pub edge : Edge l i j
  pub x-ok : Near 800000000 x
  pub y-ok : Near 800000000 y

-- an outline of n vertices that is accepted
pub record Outline (l : List ℤ) (n : ℕ) : Type 0 where
  pub long : length l ≡ 2 * n
  pub least : 2 ≤ n
  pub most : n ≤ 1024
  pub close : (k : ℕ) → Near 400000000 (get_or l k (pos 0))

-- and a probe in range beside it
pub record Probed (l : List ℤ) (n : ℕ) (x y : ℤ) : Type 0 where
  pub outline : Outline l n
  pub x-ok : Near 800000000 x
  pub y-ok : Near 800000000 y

-- how often an outline of at most 1,024 vertices can be passed upwards, and downwards
pub record Few (up down : ℕ) : Type 0 where
  pub up-most : up ≤ 1024
  pub down-most : down ≤ 1024

-- vertex i of the list
abbrev pub spot_at : List ℤ → ℕ → Spot
spot_at l i = record { x = get_or l (2 * i) (pos 0); y = get_or l (2 * i + 1) (pos 0) }

-- the vertex after i, of n
unfoldable pub next : ℕ → ℕ → ℕ
next i n = wrap n (i + 1)

-- "y1 ≤ y < y2 and the point is strictly left". "y2 ≤ y < y1 and strictly right" is the same of the edge the other way
abbrev pub rises : Spot → Spot → Spot → Bool
rises p a b = spans a b p && left a b p

-- what an edge adds to the area, where that is above 0. Where it is below 0, the edge the other way adds as much
abbrev pub above : ℤ → ℕ
above (pos n) = n
above (negsuc n) = 0

abbrev pub gain : Spot → Spot → ℕ
gain a b = above (cross a b)
