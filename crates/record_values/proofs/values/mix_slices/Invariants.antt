use Rattle.record_values.proofs.Mixing.{Placed}
use Rattle.record_values.proofs.values.mix_slices.Given as goal

abbrev pub invariant-loop-k : goal.invariant-loop-k
invariant-loop-k l = Placed l.s.slice_at.now l.s.slice.now l.slice_edition l.s.plan.slices l.initial.values l.to l.values l.k
