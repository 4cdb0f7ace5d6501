-- Document 01, "Vertices of a view": `validate_for_source`, "in the Rust's order: no segments, offset, start not on segment, end not on segment,
-- end on final vertex, bulge mismatch, valid". Each question is a definition that hands on to the next.
use Rattle.std.specs.Prelude.{ℕ, ◌+◌, ◌*◌, ◌≤◌, ◌<◌, Bool, cond, ◌||◌, ◌≡◌, List, length, ltb, eqb, Float}
use Rattle.std.specs.Float.{binary64}
use Rattle.std.specs.Float.Ieee.{of_bits}
use Rattle.basis.specs.Number.{agree, alike}
use Rattle.outline.specs.declared.point.Point.{Point}
use Rattle.outline.specs.Points.{pos_of}
use Rattle.outline.specs.Outline.{wrap, outline_at}
use Rattle.view.specs.declared.data.ViewData.{ViewData}
use Rattle.verdict.specs.declared.validate.ViewDataValidation.{ViewDataValidation}
use Rattle.verdict.specs.declared.validate.ViewDataValidation.TheVariants as verdict
use Rattle.view.specs.Create.{near_vertex}

-- "Tolerances: 1e-5, and 1e-3 for on-segment."
abbrev pub validation_eps : Float
validation_eps = of_bits binary64 0x3ee4_f8b5_88e3_68f1

abbrev pub on_segment_eps : Float
on_segment_eps = of_bits binary64 0x3f50_624d_d2f1_a9fc

-- near one of the segment's two vertices: segment i goes from vertex i to the next
unfoldable pub near_segment : List Float → ℕ → ℕ → Point → Bool
near_segment o vc i p = near_vertex o vc i p (alike on_segment_eps) || near_vertex o vc (i + 1) p (alike on_segment_eps)

-- "The near-vertex test is ours; beyond it the host's yes or no decides."
unfoldable pub on_segment : List Float → ℕ → ℕ → Point → Bool → Bool
on_segment o vc i p host = near_segment o vc i p || host

-- bulge mismatch, asked of a view on one segment alone; else valid
unfoldable pub bulge_verdict : ViewData → ViewDataValidation
bulge_verdict v =
    cond (eqb v.end_index_offset 0)
    (cond (agree validation_eps v.updated_end_bulge v.updated_start.bulge) verdict.IsValid
    (verdict.UpdatedBulgeDoesNotMatch v.updated_end_bulge v.updated_start.bulge))
    verdict.IsValid

-- end on final vertex: the one that the view's last segment starts with
unfoldable pub final_verdict : List Float → ℕ → ViewData → ℕ → ViewDataValidation
final_verdict o vc v end =
    cond (near_vertex o vc end v.end_point (alike validation_eps))
    (verdict.EndPointOnFinalOffsetVertex v.end_point (outline_at o vc end))
    (bulge_verdict v)

-- end not on segment
unfoldable pub end_verdict : List Float → ℕ → ViewData → ℕ → Bool → ViewDataValidation
end_verdict o vc v end end_on =
    cond (on_segment o vc end v.end_point end_on) (final_verdict o vc v end) (verdict.EndPointNotOnSegment v.end_point)

-- the segment on which a view ends
unfoldable pub end_index_of : ℕ → ViewData → ℕ
end_index_of vc v = wrap vc (v.start_index + v.end_index_offset)

-- start not on segment
unfoldable pub start_verdict : List Float → ℕ → ViewData → Bool → Bool → ViewDataValidation
start_verdict o vc v start_on end_on =
    cond (on_segment o vc v.start_index (pos_of v.updated_start) start_on)
    (end_verdict o vc v (end_index_of vc v) end_on)
    (verdict.UpdatedStartNotOnSegment (pos_of v.updated_start))

-- no segments, offset
unfoldable pub verdict_of : List Float → ℕ → ViewData → Bool → Bool → ViewDataValidation
verdict_of o vc v start_on end_on =
    cond (ltb vc 2) verdict.SourceHasNoSegments
    (cond (ltb vc v.end_index_offset) (verdict.OffsetOutOfRange v.end_index_offset vc) (start_verdict o vc v start_on end_on))

-- ---- what a caller has shown

-- view data that may be asked about: an outline that is too short has no start to ask about
pub record Asked (o : List Float) (vc : ℕ) (v : ViewData) : Type 0 where
  pub triples : length o ≡ 3 * vc
  pub most : vc ≤ 1024
  pub starts : 2 ≤ vc → v.start_index < vc
