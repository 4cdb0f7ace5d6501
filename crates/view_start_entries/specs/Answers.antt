-- The flat answer of the span's entry. "A refusal returns its number and zero counts": all other fields are 0.
use Rattle.std.specs.Prelude.{ℕ}
use Rattle.basis.specs.Choice.{code_of}
use Rattle.view_span.specs.declared.span.Span.{Span}
use Rattle.view_start_entries.specs.declared.answer.SpanAnswer.{SpanAnswer}

abbrev pub span_refused : ℕ → SpanAnswer
span_refused n = record { refusal = n; moved = 0; start_index = 0; traverse_count = 0 }

unfoldable pub span_told : Span → SpanAnswer
span_told s = record { refusal = 0; moved = code_of s.moved; start_index = s.start_index; traverse_count = s.traverse_count }
