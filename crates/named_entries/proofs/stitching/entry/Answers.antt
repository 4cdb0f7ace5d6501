use Rattle.named_entries.proofs.StitchWays.{stitch-unknown, ways}
use borrow.Author.Rules.{rules}
use Rattle.named_entries.proofs.stitching.entry.Goals as goal

pub returns-then-bad_lengths : goal.returns-then-bad_lengths
returns-then-bad_lengths c = search (rules, ways)

pub returns-then-is_unknown : goal.returns-then-is_unknown
returns-then-is_unknown c =
    stitch-unknown _ _ _ _ _ _ _ _ _ _ _ _ _ _ _ _ _ _ _ c.bad_lengths.ensures c.if-bad_lengths.false c.ask-s.ensures c.entry-given.ensures c.is_unknown.ensures _ c.if-is_unknown.true c.number-then-is_unknown.ensures c.stitch_refused-then-is_unknown.ensures

pub returns : goal.returns
returns c = search (rules, ways)
