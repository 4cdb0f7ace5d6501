-- A record's bytes, part after part.
use Prim.Native.Nat.{ℕ, ◌+◌, ◌*◌, ◌≤◌}
use mathlib.Core.Path.{◌≡◌, sym, ap, ◌∙◌}
use mathlib.Core.List.{List, ◌++◌, append_assoc}
use native.Mathlib.Omega.{arith}
use native.Mathlib.Nat.{le_of_eq}
use lib.ListN.{length, drop, length-append}
use lib.Seq.{sets, length-sets}
use Rattle.fields.specs.Fields.{pack, rows}
use Rattle.fields.specs.FieldLaws.{length-pack, pack-append, size-rows, length-rows}
use Rattle.fields.specs.Ready.{RowsFrom}
use Rattle.basis.specs.StoreLaws.{sets-after}
use Rattle.record_form.specs.Form.{vertex_shape}
use Rattle.record.specs.RecordLaws.{vertex-size}
use Rattle.record_write.specs.Ready.{PackFit}

pub packing-vertices : {start stride : ℕ} {hs es : List ℕ} {head values k n : ℕ} (l : List ℕ) {l' : List ℕ} (xs : List ℕ) → PackFit start stride hs head es values k n (length l)
    → l' ≡ sets l 0 xs → RowsFrom values 0 vertex_shape 24 k (length l') start
packing-vertices l xs w e = record { bytes = sym vertex-size; source = omega (arith, w.all); inside = omega (arith, w.room, ap length e ∙ length-sets l 0 xs) }

pub record-packed : {start stride : ℕ} {hs es : List ℕ} {k n m : ℕ} (head values l : List ℕ) {l' l'' l''' : List ℕ} → PackFit start stride hs (length head) es (length values) k n m
    → l' ≡ sets l 0 (pack hs head) → l'' ≡ sets l' start (pack (rows k vertex_shape) values)
    → l''' ≡ sets l'' (start + k * 24) (pack (rows n es) (drop (k * 3) values)) → l''' ≡ sets l 0 (pack hs head ++ pack (rows k vertex_shape ++ rows n es) values)
record-packed {start} {stride} {hs} {es} {k} {n} {m} head values l {l'} {l''} {l'''} w e f g =
    let a = pack hs head in
    let b = pack (rows k vertex_shape) values in
    let c = pack (rows n es) (drop (k * 3) values) in
    let r : length (rows k vertex_shape) ≡ k * 3 = length-rows k vertex_shape in
    let t : length (rows k vertex_shape) ≤ length values = omega (arith, r, w.all) in
    let la : length a ≡ start = length-pack hs head (le_of_eq (sym w.heads)) ∙ sym w.bytes in
    let lb : length b ≡ k * 24 = length-pack (rows k vertex_shape) values t ∙ size-rows k vertex_shape ∙ ap (λ (u : ℕ). k * u) vertex-size in
    let lab : length (a ++ b) ≡ start + k * 24 = length-append a b ∙ omega (arith, la, lb) in
    let f' : l'' ≡ sets l 0 (a ++ b) = f ∙ ap (λ (u : List ℕ). sets u start b) e ∙ sets-after l start a b la in
    let d : pack (rows k vertex_shape ++ rows n es) values ≡ b ++ c =
    pack-append (rows k vertex_shape) (rows n es) values t ∙ ap (λ (u : ℕ). b ++ pack (rows n es) (drop u values)) r in
    g ∙ ap (λ (u : List ℕ). sets u (start + k * 24) c) f' ∙ sets-after l (start + k * 24) (a ++ b) c lab ∙ ap (sets l 0) (append_assoc a b c ∙ ap (λ (u : List ℕ). a ++ u) (sym d))
