use Rattle.std.proofs.Common.{arith, rules}
use Rattle.record_replay.proofs.ReplayLaws.{fronts-of}
use Rattle.record_replay.proofs.replay.stitch_held.Goals as goal

pub overflow_mul-n3 : goal.overflow_mul-n3
overflow_mul-n3 c = omega (arith, c.requires.codes, c.well_formed)

pub overflow_mul-n4 : goal.overflow_mul-n4
overflow_mul-n4 c = omega (arith, c.requires.shapes, c.well_formed)

pub returns-clause-left : goal.returns-clause-left
returns-clause-left c = search (rules, fronts-of)
