use Rattle.record_read.proofs.Gathering.{Gathering}
use Rattle.record_read.proofs.body.gather.Given as goal

abbrev pub invariant-loop-i : goal.invariant-loop-i
invariant-loop-i g l = Gathering (goal.F-post g l.change) l.rows l.offset l.per l.initial.out l.out l.i 0

abbrev pub invariant-loop-j : goal.invariant-loop-j
invariant-loop-j g l = Gathering (goal.F-post g l.change) l.rows l.offset l.per l.fn.out l.out l.i l.j
