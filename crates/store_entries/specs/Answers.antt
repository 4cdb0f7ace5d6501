-- The flat answers of the store's entries. Fields that an answer does not name are 0.
use Rattle.std.specs.Prelude.{ℕ, Bool, true, false, Option, Some, None, length}
use Rattle.basis.specs.declared.answer.CountAnswer.{CountAnswer}
use Rattle.basis.specs.Answers.{count_refused, counted}
use Rattle.store.specs.Slice.{Slice}
use Rattle.store.specs.Plain.{Answer, refused, given, done, listed}
use Rattle.store_entries.specs.declared.answer.HandleAnswer.{HandleAnswer}
use Rattle.store_entries.specs.declared.answer.DoneAnswer.{DoneAnswer}

-- "A refusal returns its number and zero counts"
abbrev pub handle_refused : ℕ → HandleAnswer
handle_refused n = record { refusal = n; handle = 0 }

abbrev pub handle_given : ℕ → HandleAnswer
handle_given h = record { refusal = 0; handle = h }

abbrev pub done_refused : ℕ → DoneAnswer
done_refused n = record { refusal = n }

-- "20 store full"
abbrev pub handle_from : Option ℕ → HandleAnswer
handle_from (Some h) = handle_given h
handle_from None = handle_refused 20

-- "21 no such handle"
abbrev pub done_from : Bool → DoneAnswer
done_from true = done_refused 0
done_from false = done_refused 21

-- each entry's form of what the store answers
abbrev pub handle_answer : Answer Slice → HandleAnswer
handle_answer (refused n) = handle_refused n
handle_answer (given h) = handle_given h
handle_answer done = handle_given 0
handle_answer (listed l) = handle_given 0

abbrev pub done_answer : Answer Slice → DoneAnswer
done_answer (refused n) = done_refused n
done_answer (given h) = done_refused 0
done_answer done = done_refused 0
done_answer (listed l) = done_refused 0

abbrev pub count_answer : Answer Slice → CountAnswer
count_answer (refused n) = count_refused n
count_answer (given h) = counted 0
count_answer done = counted 0
count_answer (listed l) = counted (length l)
