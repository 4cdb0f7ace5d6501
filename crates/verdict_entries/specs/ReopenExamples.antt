-- Closed examples, computed: reopening the union's slice of A, document 01's sheet of two squares, after (0,0) has moved to (1,1). Editions are 0 and 2^32 − 1, the least and the most.
use Rattle.std.specs.Prelude.{ℕ, ◌≡◌, refl, List, [], ◌∷◌, Float}
use Rattle.std.specs.Float.{binary64}
use Rattle.std.specs.Float.Ieee.{of_bits, sub, lt, le}
use Rattle.basis.specs.All.{all_of}
use Rattle.basis.specs.Number.{+0, one, abs_f, agree, within}
use Rattle.basis.specs.Refuse.{first_of, answer, length_fault}
use Rattle.outline.specs.Points.{points_agree}
use Rattle.outline.specs.Outline.{vertex_at, wrap, outline_at}
use Rattle.view.specs.Create.{near_vertex}
use Rattle.view.specs.ViewExamples.{two, at, straight}
use Rattle.verdict.specs.Validate.{near_segment, on_segment, bulge_verdict, final_verdict, end_verdict, end_index_of, start_verdict, verdict_of}
use Rattle.view_entries.specs.declared.input.View.{View}
use Rattle.view_entries.specs.Answers.{no_point, no_vertex}
use Rattle.verdict_answer.specs.declared.answer.VerdictAnswer.{VerdictAnswer}
use Rattle.verdict_answer.specs.VerdictAnswers.{verdict_record, verdict_refused, verdict_given, reopen_record}
use Rattle.verdict_entries.specs.ValidateEntry.{start_fault, ask_refusal, validate_refusal, validate_answer}
use Rattle.verdict_entries.specs.ReopenEntry.{new_edition, reopen_answer}

-- what an example opens, under one name
opens : Unit {0}
unfolding of_bits sub lt le abs_f agree within all_of first_of answer length_fault vertex_at wrap outline_at near_vertex points_agree verdict_of start_verdict end_verdict final_verdict bulge_verdict end_index_of on_segment near_segment verdict_refused verdict_given start_fault ask_refusal validate_refusal new_edition
opens = tt

abbrev four : Float
four = of_bits binary64 0x4010_0000_0000_0000

-- A is (0,0) (4,0) (4,4) (0,4); the late packet moved its first vertex to (1,1)
abbrev late : List Float
late = one ∷ one ∷ +0 ∷ four ∷ +0 ∷ +0 ∷ four ∷ four ∷ +0 ∷ +0 ∷ four ∷ +0 ∷ []

-- the union's slice of A: from (2,4) through (0,4), (0,0) and (4,0) to (4,2)
abbrev slice : View
slice =
    record {
      start_index = 2;
      end_index_offset = 3;
      updated_start = straight two four;
      updated_end_bulge = +0;
      end_point = at four two;
      inverted_direction = 0;
    }

abbrev most : ℕ
most = 4294967295

abbrev valid : VerdictAnswer
valid = verdict_record 7 0 0 no_point no_vertex +0 +0

-- An inner vertex has moved, and the verdict is valid: the slice has the new edition.
pub inner-moved-valid : reopen_answer late 4 most slice 0 1 1 ≡ reopen_record valid most
unfolding opens
inner-moved-valid = refl

pub inner-moved-valid-down : reopen_answer late 4 0 slice most 1 1 ≡ reopen_record valid 0
unfolding opens
inner-moved-valid-down = refl

-- The host says that the start is not on its segment: the slice keeps its own edition.
pub not-valid-kept : reopen_answer late 4 most slice 0 0 1 ≡ reopen_record (verdict_record 3 0 0 (at two four) no_vertex +0 +0) 0
unfolding opens
not-valid-kept = refl

pub not-valid-kept-down : reopen_answer late 4 0 slice most 0 1 ≡ reopen_record (verdict_record 3 0 0 (at two four) no_vertex +0 +0) most
unfolding opens
not-valid-kept-down = refl

-- Without reopening it is refused, either way round; with equal editions it is not.
pub edition-differs : validate_answer late 4 most slice 0 1 1 ≡ verdict_refused 14
unfolding opens
edition-differs = refl

pub edition-differs-down : validate_answer late 4 0 slice most 1 1 ≡ verdict_refused 14
unfolding opens
edition-differs-down = refl

pub editions-equal : validate_answer late 4 most slice most 1 1 ≡ valid
unfolding opens
editions-equal = refl

-- An outline that is too short: 14 before the verdict.
pub short-edition-differs : validate_answer (+0 ∷ +0 ∷ +0 ∷ []) 1 0 slice most 1 1 ≡ verdict_refused 14
unfolding opens
short-edition-differs = refl
