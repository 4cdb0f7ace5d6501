use Rattle.whole.specs.Two.{value}
use Rattle.text.proofs.DecimalLaws.{Spelling}
use Rattle.text.proofs.decimal.spell.Given as goal

abbrev pub invariant-loop-i : goal.invariant-loop-i
invariant-loop-i l = Spelling (value l.initial.rest) l.initial.out l.out l.i (value l.rest)
