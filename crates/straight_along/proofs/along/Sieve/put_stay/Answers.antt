use Rattle.straight_along.specs.Stays.{stays_of}
use Rattle.straight_along.proofs.Walking.{stays, stay-nothing, stay-not}
use borrow.Author.Rules.{rules}
use Rattle.straight_along.proofs.along.Sieve.put_stay.Goals as goal

pub returns-in_default-clause-placed : goal.returns-in_default-clause-placed
returns-in_default-clause-placed c = stay-nothing _ _ _ _ _ _ (search rules)

pub returns-then-inside_of-part-clause-placed : goal.returns-then-inside_of-part-clause-placed
returns-then-inside_of-part-clause-placed c = stay-not _ _ _ _ _ _ _ c.in-Some.is _ c.inside_of.ensures (search rules)

pub returns-clause-placed : goal.returns-clause-placed
unfolding stays_of
returns-clause-placed c = search (rules, stays)
