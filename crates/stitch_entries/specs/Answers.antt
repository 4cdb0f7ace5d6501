-- The flat answer of the stitch. "A refusal returns its number and zero counts."
use Rattle.std.specs.Prelude.{ℕ}
use Rattle.stitch_entries.specs.declared.answer.StitchAnswer.{StitchAnswer}

abbrev pub stitch_refused : ℕ → StitchAnswer
stitch_refused n = record { refusal = n; rounds = 0; loops = 0; chains = 0 }

abbrev pub stitch_given : ℕ → ℕ → ℕ → StitchAnswer
stitch_given rounds loops chains = record { refusal = 0; rounds = rounds; loops = loops; chains = chains }
