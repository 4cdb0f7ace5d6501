-- The flat answers of `mask_validate_for_source` and `mask_reopen`: document 01's number and values for each case of the verdict.
use Rattle.std.specs.Prelude.{ℕ, Float}
use Rattle.basis.specs.Number.{+0}
use Rattle.outline.specs.declared.point.Point.{Point}
use Rattle.outline.specs.declared.point.Vertex.{Vertex}
use Rattle.verdict.specs.declared.validate.ViewDataValidation.{ViewDataValidation}
use Rattle.verdict.specs.declared.validate.ViewDataValidation.TheVariants as verdict
use Rattle.verdict_answer.specs.declared.answer.VerdictAnswer.{VerdictAnswer}
use Rattle.verdict_answer.specs.declared.answer.ReopenAnswer.{ReopenAnswer}
use Rattle.view_entries.specs.Answers.{no_point, no_vertex}

abbrev pub verdict_record : ℕ → ℕ → ℕ → Point → Vertex → Float → Float → VerdictAnswer
verdict_record n offset length p v updated expected =
    record {
      refusal = 0;
      verdict = n;
      offset = offset;
      source_length = length;
      point = p;
      vertex = v;
      updated_bulge = updated;
      expected = expected;
    }

unfoldable pub verdict_refused : ℕ → VerdictAnswer
verdict_refused n =
    record {
      refusal = n;
      verdict = 0;
      offset = 0;
      source_length = 0;
      point = no_point;
      vertex = no_vertex;
      updated_bulge = +0;
      expected = +0;
    }

unfoldable pub verdict_given : ViewDataValidation → VerdictAnswer
verdict_given verdict.SourceHasNoSegments = verdict_record 1 0 0 no_point no_vertex +0 +0
verdict_given (verdict.OffsetOutOfRange offset length) = verdict_record 2 offset length no_point no_vertex +0 +0
verdict_given (verdict.UpdatedStartNotOnSegment p) = verdict_record 3 0 0 p no_vertex +0 +0
verdict_given (verdict.EndPointNotOnSegment p) = verdict_record 4 0 0 p no_vertex +0 +0
verdict_given (verdict.EndPointOnFinalOffsetVertex p v) = verdict_record 5 0 0 p v +0 +0
verdict_given (verdict.UpdatedBulgeDoesNotMatch updated expected) = verdict_record 6 0 0 no_point no_vertex updated expected
verdict_given verdict.IsValid = verdict_record 7 0 0 no_point no_vertex +0 +0

-- a verdict's answer, field by field, and the edition that the slice has from now on
abbrev pub reopen_record : VerdictAnswer → ℕ → ReopenAnswer
reopen_record a edition =
    record {
      refusal = a.refusal;
      verdict = a.verdict;
      offset = a.offset;
      source_length = a.source_length;
      point = a.point;
      vertex = a.vertex;
      updated_bulge = a.updated_bulge;
      expected = a.expected;
      edition = edition;
    }
