-- The flat answer of the entry.
use Rattle.std.specs.Prelude.{ℕ}
use Rattle.prune.specs.declared.counts.Pruned.{Pruned}
use Rattle.prune_entries.specs.declared.answer.PruneAnswer.{PruneAnswer}

-- "A refusal returns its number and zero counts"
abbrev pub prune_refused : ℕ → PruneAnswer
prune_refused n = record { refusal = n; slices = 0; starts = record { pline2 = 0; pline1_overlapping = 0; pline2_overlapping = 0 } }

abbrev pub prune_given : Pruned → PruneAnswer
prune_given p = record { refusal = 0; slices = p.slices; starts = p.starts }
