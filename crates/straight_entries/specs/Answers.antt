-- What the entries answer, refused and accepted.
use Rattle.std.specs.Prelude.{ℕ, ℤ, pos}
use Rattle.basis.specs.Choice.{code_of}
use Rattle.straight.specs.declared.sum.Area.{Area}
use Rattle.straight_report.specs.declared.Report.{Report}
use Rattle.straight_entries.specs.declared.answer.WindingAnswer.{WindingAnswer}
use Rattle.straight_entries.specs.declared.answer.AreaAnswer.{AreaAnswer}
use Rattle.straight_entries.specs.declared.answer.ReportAnswer.{ReportAnswer}

abbrev pub winding_refused : ℕ → WindingAnswer
winding_refused n = record { refusal = n; winding = pos 0 }

abbrev pub winding_found : ℤ → WindingAnswer
winding_found w = record { refusal = 0; winding = w }

abbrev pub area_refused : ℕ → AreaAnswer
area_refused n = record { refusal = n; negative = 0; high = 0; low = 0 }

abbrev pub area_numbers : ℕ → ℕ → ℕ → AreaAnswer
area_numbers negative high low = record { refusal = 0; negative = negative; high = high; low = low }

abbrev pub area_found : Area → AreaAnswer
area_found a = record { refusal = 0; negative = code_of a.negative; high = a.size.high; low = a.size.low }

abbrev pub report_refused : ℕ → ReportAnswer
report_refused n = record { refusal = n; count = 0; zero = 0; high = 0; low = 0 }

abbrev pub report_found : ℕ → Report → ReportAnswer
report_found n t = record { refusal = 0; count = n; zero = t.zero; high = t.total.high; low = t.total.low }
