use Rattle.store.specs.Ready.{Looked}
use Rattle.store.proofs.marks.Live.find.Given as goal

abbrev pub invariant-loop-p : goal.invariant-loop-p
invariant-loop-p l = Looked l.held l.p l.n l.self.order l.self.handles l.self.places
