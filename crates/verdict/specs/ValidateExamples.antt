-- Closed examples, computed: each verdict once, on a square (0,0) (2,0) (2,2) (0,2).
use Rattle.std.specs.Prelude.{ℕ, true, false, ◌≡◌, refl, List, [], ◌∷◌, Float}
use Rattle.std.specs.Float.Ieee.{of_bits, sub, lt}
use Rattle.basis.specs.Number.{+0, one, abs_f, agree}
use Rattle.outline.specs.declared.point.Point.{Point}
use Rattle.outline.specs.declared.point.Vertex.{Vertex}
use Rattle.outline.specs.Points.{with_bulge, points_agree}
use Rattle.outline.specs.Outline.{vertex_at, wrap, outline_at}
use Rattle.view.specs.declared.data.ViewData.{ViewData}
use Rattle.verdict.specs.declared.validate.ViewDataValidation.TheVariants as verdict
use Rattle.view.specs.Create.{view_of, near_vertex}
use Rattle.view.specs.ViewExamples.{half, two, at, straight}
use Rattle.verdict.specs.Validate.{near_segment, on_segment, bulge_verdict, final_verdict, end_verdict, end_index_of, start_verdict, verdict_of}

-- what an example opens, under one name: `unfolding judges` opens all that its own line does
judges : Unit {0}
unfolding of_bits outline_at wrap vertex_at near_vertex points_agree agree abs_f sub lt verdict_of start_verdict end_verdict final_verdict bulge_verdict end_index_of on_segment near_segment
judges = tt

abbrev square : List Float
square = +0 ∷ +0 ∷ +0 ∷ two ∷ +0 ∷ +0 ∷ two ∷ two ∷ +0 ∷ +0 ∷ two ∷ +0 ∷ []

-- from a place on segment 0 to a point, the end bulge +0
abbrev part : ℕ → Vertex → Point → ViewData
part offset first end = view_of 0 offset first +0 end

-- An outline of one vertex has no segments.
pub no-segments : verdict_of (+0 ∷ +0 ∷ +0 ∷ []) 1 (part 1 (straight one +0) (at two one)) true true ≡ verdict.SourceHasNoSegments
unfolding judges
no-segments = refl

-- The offset is above the vertex count.
pub offset-beyond : verdict_of square 4 (part 5 (straight one +0) (at two one)) true true ≡ verdict.OffsetOutOfRange 5 4
unfolding judges
offset-beyond = refl

-- The start (1,1) is near no vertex of segment 0, and the host says no.
pub start-off : verdict_of square 4 (part 1 (straight one one) (at two one)) false true ≡ verdict.UpdatedStartNotOnSegment (at one one)
unfolding judges
start-off = refl

-- The end (1,1) is near no vertex of segment 1, and the host says no.
pub end-off : verdict_of square 4 (part 1 (straight one +0) (at one one)) true false ≡ verdict.EndPointNotOnSegment (at one one)
unfolding judges
end-off = refl

-- The end (2,0) is the vertex that segment 1 starts with.
pub end-on-vertex : verdict_of square 4 (part 1 (straight one +0) (at two +0)) true true ≡ verdict.EndPointOnFinalOffsetVertex (at two +0) (straight two +0)
unfolding judges
end-on-vertex = refl

-- On one segment, the end bulge is +0 and the start's 1/2.
pub bulges-differ : verdict_of square 4 (part 0 (with_bulge (straight +0 +0) half) (at one +0)) true true ≡ verdict.UpdatedBulgeDoesNotMatch +0 half
unfolding judges
bulges-differ = refl

-- From (1,0) to (2,1) the host says yes twice.
pub valid : verdict_of square 4 (part 1 (straight one +0) (at two one)) true true ≡ verdict.IsValid
unfolding judges
valid = refl

-- From (0,0) to (2,2), both near vertices, the host is not needed.
pub valid-near : verdict_of square 4 (part 1 (straight +0 +0) (at two two)) false false ≡ verdict.IsValid
unfolding judges
valid-near = refl
