use Rattle.candidate.proofs.Seeking.{seeking}
use borrow.Author.Rules.{rules}
use Rattle.candidate.proofs.next.traverse_count.Goals as goal

pub overflow_add-s : goal.overflow_add-s
overflow_add-s c = search (rules, seeking)

pub wrapped-i-requires : goal.wrapped-i-requires
wrapped-i-requires c = search (rules, seeking)

pub loop-i-init : goal.loop-i-init
loop-i-init c = search (rules, seeking)

pub overflow_add-k : goal.overflow_add-k
overflow_add-k c = search (rules, seeking)

pub overflow_add-i : goal.overflow_add-i
overflow_add-i c = search (rules, seeking)

pub wrapped-i-requires-in-loop-i : goal.wrapped-i-requires-in-loop-i
wrapped-i-requires-in-loop-i c = search (rules, seeking)

pub loop-i-smaller : goal.loop-i-smaller
loop-i-smaller c = search (rules, seeking)

pub loop-i-preserved : goal.loop-i-preserved
loop-i-preserved c = search (rules, seeking)

pub returns : goal.returns
returns c = search (rules, seeking)
