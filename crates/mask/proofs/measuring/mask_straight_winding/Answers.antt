use mathlib.Core.Path.{◌∙◌}
use mir.Facts.{to_z-of_z}
use Rattle.straight_entries.specs.WindingEntry.{winding_answer}
use Rattle.mask.proofs.measuring.mask_straight_winding.Goals as goal

-- the probe that is handed on is the one that was handed in
pub returns : goal.returns
returns c = c.entry.ensures ∙ (λ i. winding_answer c.args.outline.now c.args.vc (to_z-of_z c.ranges.x i) (to_z-of_z c.ranges.y i))
