use Rattle.stitch_slices.proofs.Slicing.{slicing}
use borrow.Author.Rules.{rules}
use Rattle.stitch_slices.proofs.slices.add_slice.Goals as goal

pub extend_remove_repeat-requires : goal.extend_remove_repeat-requires
extend_remove_repeat-requires c = search (rules, slicing)

pub returns-then-codes_at-eq1 : goal.returns-then-codes_at-eq1
returns-then-codes_at-eq1 c = search (rules, slicing)

pub extend_remove_repeat-requires-2 : goal.extend_remove_repeat-requires-2
extend_remove_repeat-requires-2 c = search (rules, slicing)

pub returns : goal.returns
returns c = search (rules, slicing)
