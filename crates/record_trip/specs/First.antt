-- The number that the writer gives applies, and none before it in the order of refusals does: in every version.
use Rattle.std.specs.Prelude.{ℕ}
use Rattle.basis.specs.RefusalOrder.{refusal_order, before, First}
use Rattle.basis.specs.RefusalOrderLaws.{first-of}
use Rattle.slice.specs.Editions.{Editions}
use Rattle.stitch_run.specs.Stitch.{Given}
use Rattle.record_form.specs.declared.form.Version.{Version}
use Rattle.record_write.specs.Writer.{held_rows, write_rows, write_refusal}

pub write-first : (n : ℕ) (v : Version) (g : Given) (e : Editions) (room : ℕ) → First (write_rows n v g e room) (write_refusal n v g e room)
unfolding write_refusal held_rows before refusal_order
write-first n v g e room = first-of (write_rows n v g e room) tt
