-- Closed examples, computed: the union's slice of A, document 01's sheet of two squares, on A and on an A that a late packet changed.
use Rattle.std.specs.Prelude.{ℕ, ◌≡◌, refl, List, [], ◌∷◌, Float}
use Rattle.std.specs.Float.{binary64}
use Rattle.std.specs.Float.Ieee.{of_bits, to_bits, neg, lt, le}
use Rattle.basis.specs.All.{all_of}
use Rattle.basis.specs.Number.{+0, one, abs_f, within}
use Rattle.basis.specs.Refuse.{first_of, answer, length_fault, size_fault}
use Rattle.outline.specs.Outline.{vertex_at, wrap, outline_at}
use Rattle.view.specs.View.{forward_at, turned_at, inverted_at, vertex_of}
use Rattle.view.specs.ViewExamples.{two, at, straight}
use Rattle.unmoved.specs.Unmoved.{same_bits, same_vertex, same_at, lowest_from, first_moved}
use Rattle.view_entries.specs.declared.input.View.{View}
use Rattle.unmoved_entries.specs.declared.answer.UnmovedAnswer.{UnmovedAnswer}
use Rattle.unmoved_entries.specs.UnmovedEntry.{unmoved_refusal, unmoved_refused, unmoved_given, unmoved_answer}

-- what an example opens, under one name
opens : Unit {0}
unfolding of_bits to_bits neg lt le abs_f within all_of first_of answer length_fault size_fault vertex_at wrap outline_at forward_at turned_at inverted_at vertex_of same_bits same_vertex same_at lowest_from first_moved unmoved_refusal unmoved_given
opens = tt

abbrev four : Float
four = of_bits binary64 0x4010_0000_0000_0000

abbrev three : Float
three = of_bits binary64 0x4008_0000_0000_0000

abbrev ten : Float
ten = of_bits binary64 0x4024_0000_0000_0000

-- A, with its first vertex at (x, y)
abbrev square_from : Float → Float → List Float
square_from x y = x ∷ y ∷ +0 ∷ four ∷ +0 ∷ +0 ∷ four ∷ four ∷ +0 ∷ +0 ∷ four ∷ +0 ∷ []

-- the union's slice of A, in either direction: from (2,4) through (0,4), (0,0) and (4,0) to (4,2)
abbrev slice : ℕ → View
slice inverted =
    record {
      start_index = 2;
      end_index_offset = 3;
      updated_start = straight two four;
      updated_end_bulge = +0;
      end_point = at four two;
      inverted_direction = inverted;
    }

abbrev answers : ℕ → ℕ → UnmovedAnswer
answers unmoved first = record { refusal = 0; unmoved = unmoved; first = first }

-- (0,0) has moved to (1,1): vertex 2 differs, forward and inverted.
pub inner-moved : unmoved_answer (square_from +0 +0) 4 (square_from one one) 4 (slice 0) ≡ answers 0 2
unfolding opens
inner-moved = refl

pub inner-moved-inverted : unmoved_answer (square_from +0 +0) 4 (square_from one one) 4 (slice 1) ≡ answers 0 2
unfolding opens
inner-moved-inverted = refl

-- +0 has become −0: equal numbers, other bits.
pub sign-moved : unmoved_answer (square_from +0 +0) 4 (square_from (neg +0) +0) 4 (slice 0) ≡ answers 0 2
unfolding opens
sign-moved = refl

-- Document 01's A with two more corners, (0,0) (4,0) (4,3) (4,4) (3,4) (0,4), and (4,4) moved to (10,10): the union's slice of A does not go through that corner, and nothing of it has moved.
abbrev corner_at : Float → List Float
corner_at c = +0 ∷ +0 ∷ +0 ∷ four ∷ +0 ∷ +0 ∷ four ∷ three ∷ +0 ∷ c ∷ c ∷ +0 ∷ three ∷ four ∷ +0 ∷ +0 ∷ four ∷ +0 ∷ []

abbrev rest : View
rest =
    record {
      start_index = 4;
      end_index_offset = 3;
      updated_start = straight two four;
      updated_end_bulge = +0;
      end_point = at four two;
      inverted_direction = 0;
    }

pub dropped-part-moved : unmoved_answer (corner_at four) 6 (corner_at ten) 6 rest ≡ answers 1 0
unfolding opens
dropped-part-moved = refl

-- Two vertices fewer: the view's start, 4, is not below the new vertex count, 4.
pub vertex-removed : unmoved_answer (corner_at four) 6 (square_from +0 +0) 4 rest ≡ unmoved_refused 6
unfolding opens
vertex-removed = refl
