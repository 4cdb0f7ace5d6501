use Rattle.candidate.specs.Told.{told}
use Rattle.candidate_write.specs.Lent.{lent, Same}
use Rattle.candidate_write.proofs.Writing.{Upto}
use Rattle.candidate_write.proofs.write.write_items.Given as goal

abbrev pub invariant-loop-p : goal.invariant-loop-p
invariant-loop-p l = Same l.initial.lists l.lists × Upto (told l.along) (lent l.initial.lists) l.m (lent l.lists) l.p
