-- Request K13, "How far can a join be off?": the words in which the theorems are said.
use Rattle.std.specs.Prelude.{ℕ, ◌+◌, ◌-◌, ◌*◌, ◌/◌, ◌^◌, ◌≤◌, true, false, ◌≡◌, ℤ, pos, neg_ℤ, nat_abs, ◌-ℤ◌, Float}
use mathlib.Core.List.{List, [], ◌∷◌, Memᴰ}
use Rattle.std.specs.Float.{nan, inf, fin}
use Rattle.std.specs.Float.Ieee.{up, down}
use Rattle.basis.specs.All.{All}
use Rattle.basis.specs.declared.number.Tolerance.{Tolerance}
use Rattle.outline.specs.declared.point.Point.{Point}
use Rattle.outline.specs.declared.point.Vertex.{Vertex}
use Rattle.outline.specs.Points.{pos_of}
use Rattle.stitch_run.specs.Run.{Round, Chain}
use Rattle.stitch_run.specs.Stitch.{Given, start_point_of, run_of, loop_of}
use Rattle.stitch_run.specs.Demand3.{first_slice}

-- ---- "State it in exact whole numbers by scaling every f64 by a common power of two."

-- x times 2 ^ n. With n = 1074 the division has no remainder, for every finite f64 (`whole-exact`). A NaN and the infinities count as 0; no accepted call holds one.
unfoldable pub scaled : ℕ → Float → ℤ
scaled n nan = pos 0
scaled n (inf s) = pos 0
scaled n (fin false m e) = pos (m * up e * 2 ^ n / down e)
scaled n (fin true m e) = neg_ℤ (pos (m * up e * 2 ^ n / down e))

-- an f64 as a whole number
abbrev pub whole : Float → ℤ
whole x = scaled 1074 x

-- 2 ^ -k as a whole number
abbrev pub two_to_minus : ℕ → ℕ
two_to_minus k = 2 ^ (1074 - k)

-- x is at most 2 ^ n in magnitude
abbrev pub Small : ℕ → Float → Type 0
Small n x = nat_abs (whole x) ≤ 2 ^ (n + 1074)

-- ---- "differs .. by at most the axis tolerance plus" an excess, "on each axis"

-- on one axis, t being its tolerance, which is above 0
abbrev pub Within : Float → ℕ → Float → Float → Type 0
Within t excess a b = nat_abs (whole a -ℤ whole b) ≤ nat_abs (whole t) + excess

-- x by the first tolerance and y by the second (K6)
pub record Near (t : Tolerance) (excess : ℕ) (a b : Point) : Type 0 where
  pub x : Within t.x excess a.x b.x
  pub y : Within t.y excess a.y b.y

-- ---- "For every loop returned, at every join and at the closing"

-- Each round of a closed chain, with the slice that it chose: that of the next round and, in the last, the chain's first.
abbrev pub AtJoins : {C : Type 0} → (C → ℕ → Type 0) → ℕ → List (Round C) → Type 0
AtJoins P first [] = Unit {0}
AtJoins P first (r ∷ []) = P r.built first
AtJoins P first (r ∷ s ∷ l) = P r.built s.slice × AtJoins P first (s ∷ l)

module _ (g : Given) (excess : ℕ) where
  -- "the chosen slice's start differs from the vertex before it (the chain's last, before it is dropped)". A chain's vertices are listed newest first.
  abbrev pub Joined : List Vertex → ℕ → Type 0
  Joined [] j = ⊥
  Joined (last ∷ vs) j = Near g.tolerance excess (start_point_of g j) (pos_of last)

  -- what is behind a loop: a chain of the run, which is closed and gives this loop
  pub record Behind (loop : List Vertex) : Type 0 where
    pub chain : Chain (List Vertex)
    pub ran : Memᴰ chain (run_of g)
    pub gives : loop_of chain.ending chain.built ≡ loop ∷ []
    pub joined : AtJoins Joined (first_slice chain) chain.rounds

-- ---- a stitch whose numbers are all small: degrees are at most 2 ^ 9

pub record AllSmall (n : ℕ) (g : Given) : Type 0 where
  pub first : All (Small n) g.outline1
  pub second : All (Small n) g.outline2
  pub numbers : All (Small n) g.slice
