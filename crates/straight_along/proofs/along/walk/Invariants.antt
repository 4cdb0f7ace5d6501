use Rattle.slice.specs.Ready.{rooms_in, Same}
use Rattle.straight_cut.specs.Splits.{ordered}
use Rattle.straight_along.proofs.Walking.{Walking}
use Rattle.straight_along.proofs.along.walk.Given as goal

abbrev pub invariant-loop-p : goal.invariant-loop-p
invariant-loop-p l =
    record {
      same : Same l.initial.lent l.lent;
      walked : Walking (ordered l.cuts) l.sieve.other.now l.sieve.other_vc l.sieve.edition l.sieve.part (rooms_in l.initial.lent) l.m (rooms_in l.lent) l.n l.p;
    }
