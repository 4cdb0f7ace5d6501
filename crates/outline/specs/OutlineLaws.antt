-- Laws of wrapping and reading.
use Rattle.std.specs.Prelude.{ℕ, ◌-◌, ◌*◌, ◌≤◌, ◌<◌, ◌≡◌, List, Float}
use Rattle.std.proofs.Common.{ap, ◌∙◌, mod-lt, mod-eq_of_lt, arith}
use Rattle.std.proofs.Math.Nat.{mod-eq-sub-mod}
use Rattle.outline.specs.declared.point.Vertex.{Vertex}
use Rattle.outline.specs.Outline.{Triple, Near, vertex_at, wrap, outline_at}

pub wrap-lt : (vc i : ℕ) → 0 < vc → wrap vc i < vc
unfolding wrap
wrap-lt vc i h = mod-lt i h

-- below the count nothing is wrapped
pub wrap-same : (vc i : ℕ) → i < vc → wrap vc i ≡ i
unfolding wrap
wrap-same vc i h = mod-eq_of_lt h

-- from the count on it is taken off once
pub wrap-less : (vc i : ℕ) → vc ≤ i → i < 2 * vc → wrap vc i ≡ i - vc
unfolding wrap
wrap-less vc i h l = mod-eq-sub-mod h ∙ mod-eq_of_lt (omega arith)

-- a wrapped index is that of a whole triple
pub wrapped-triple : (o : List Float) (vc i r : ℕ) → Near o vc i → r ≡ wrap vc i → Triple o r
wrapped-triple o vc i r n e = record { inside = omega (arith, wrap-lt vc i (omega arith)) }

pub read-wrapped : (o : List Float) (vc i r : ℕ) (v : Vertex) → r ≡ wrap vc i → v ≡ vertex_at o r → v ≡ outline_at o vc i
unfolding outline_at
read-wrapped o vc i r v e q = q ∙ ap (vertex_at o) e

pub ruleset reading = (wrapped-triple, read-wrapped)
