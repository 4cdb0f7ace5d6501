use mathlib.Core.Path.{refl, ◌∙◌}
use lib.ListN.{length-replicate}
use Rattle.basis.specs.Number.{+0}
use Rattle.stitch_lists.proofs.Writing.{marks-length, tabled-of}
use Rattle.stitch_lists.proofs.write.write_in.Goals as goal

pub slice_bounds-write_with-end-2 : goal.slice_bounds-write_with-end-2
slice_bounds-write_with-end-2 g c =
    marks-length g.row.MOST _ c.requires.few.few

pub write_with-requires : goal.write_with-requires
write_with-requires g c =
    let s = c.requires.sized in
    tabled-of g.row.MOST g.row.LINKS g.row.LISTS _ _ c.requires.few _ _ _ (length-replicate g.row.NUMBERS +0 ∙ s.points) refl refl s.long s.small
