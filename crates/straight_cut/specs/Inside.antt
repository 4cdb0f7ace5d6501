-- Document 02, K11: "asking inside", by K8's winding numbers ("inside is any but 0") of the other outline. The host's test is at the midpoint of a candidate's two vertices, and
-- K8's probes "come in doubled coordinates": the doubled midpoint is the sum of the two.
use Rattle.std.specs.Prelude.{◌≡◌, ℕ, ◌+◌, ◌*◌, true, ◌||◌, List, [], ◌∷◌, ℤ, pos, ◌+ℤ◌, int_lt, Float, Option, Some, None}
use Rattle.basis.specs.Choice.{code_of}
use Rattle.basis.specs.Items.{first_items}
use Rattle.outline.specs.declared.point.Vertex.{Vertex}
use Rattle.outline.specs.Outline.{vertex_at}
use Rattle.straight.specs.Plane.{Spot, spots, winding}
use Rattle.straight.specs.Ready.{Outline}
use Rattle.candidate.specs.declared.at_cut.Candidate.{Candidate}
use Rattle.straight_cut.specs.Microdegrees.{value_of, readable}

-- yes is 1: the winding number is above 0 or below it
unfoldable pub inside_code : ℤ → ℕ
inside_code w = code_of (int_lt (pos 0) w || int_lt w (pos 0))

-- the doubled midpoint of candidate number k, whose two vertices stand one behind the other
abbrev pub mid_at : List Float → ℕ → Spot
mid_at probe k =
    record {
      x = value_of (vertex_at probe (2 * k)).x +ℤ value_of (vertex_at probe (2 * k + 1)).x;
      y = value_of (vertex_at probe (2 * k)).y +ℤ value_of (vertex_at probe (2 * k + 1)).y;
    }

-- its answer, in an outline of whole microdegrees
unfoldable pub inside_at : List ℤ → List Float → ℕ → ℕ
inside_at other probe k = inside_code (winding (spots other) (mid_at probe k))

-- the same of the two vertices themselves
unfoldable pub inside_of : List ℤ → Vertex → Vertex → ℕ
inside_of other a b = inside_code (winding (spots other) (record { x = value_of a.x +ℤ value_of b.x; y = value_of a.y +ℤ value_of b.y }))

-- the answers of so many candidates
unfoldable pub insides_of : List ℤ → List Float → ℕ → List ℕ
insides_of other probe count = first_items (λ k. inside_at other probe k ∷ []) count

-- ---- what a caller has shown

-- two numbers of a straight mask
pub record KnownTwo (a b : Float) : Type 0 where
  pub a-ok : readable a ≡ true
  pub b-ok : readable b ≡ true

-- two vertices of it, beside an outline in whole microdegrees
pub record InsideFit (other : List ℤ) (vc : ℕ) (a b : Vertex) : Type 0 where
  pub outline : Outline other vc
  pub xs : KnownTwo a.x b.x
  pub ys : KnownTwo a.y b.y

-- the two vertices of a candidate are such
abbrev pub KnownProbe : Option Candidate → Type 0
KnownProbe None = Unit {0}
KnownProbe (Some c) = KnownTwo c.from.x c.to.x × KnownTwo c.from.y c.to.y
