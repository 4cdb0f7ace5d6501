-- The two versions: what the laws of all versions say of each, and of a version 1 record that is written again as version 2.
use Rattle.std.specs.Prelude.{ℕ, zero, suc, ◌^◌, ◌≤◌, ◌<◌, ◌≡◌, refl, List, length, replicate}
use Rattle.std.proofs.Common.{sym, ap, ◌∙◌, inl, arith}
use Rattle.basis.specs.All.{All}
use Rattle.slice.specs.Editions.{Editions}
use Rattle.stitch_run.specs.Doubles.{Doubles}
use Rattle.stitch_run.specs.Stitch.{Given}
use Rattle.stitch_faults.specs.Matching.{one_edition}
use Rattle.fields.specs.FieldLaws.{Octets}
use Rattle.record.specs.declared.head.Lengths.{Lengths}
use Rattle.record_form.specs.Form.{form1, form2, form_for}
use Rattle.record.specs.Record.{stitch_in, editions_in, form_in, read_refusal, record_of}
use Rattle.record_read.specs.ReadTheorems.{no-editions}
use Rattle.record_write.specs.Writer.{length_given, write_refusal}
use Rattle.record_trip.specs.Kept.{trip1, trip2, trip-ok, EditionsFit, kept_same, kept-none}
use Rattle.record_trip.specs.WriteRead.{RoomFor, write-then-read, written-number}
use Rattle.record_trip.specs.ReadWrite.{stitch_fault, read-then-rewrite}

-- ---- as the writer is asked, by a number: the reader takes the table that the record was written by
pub table-found : (n : ℕ) (g : Given) (e : Editions) (room : ℕ) → write_refusal n (form_for n) g e room ≡ 0 → Doubles g → form_in (record_of (form_for n) g e) ≡ form_for n
table-found n g e room z held =
    let back = write-then-read n (form_for n) (trip-ok n) g e room z held in
    ap form_for (back.version ∙ sym (written-number n (form_for n) g e room z))

-- ---- version 2 keeps 32-bit editions as they are
abbrev pub Word : ℕ → Type 0
Word x = x < 4294967296

pub written2 : (g : Given) (e : Editions) (room : ℕ) → write_refusal 2 form2 g e room ≡ 0 → Doubles g → Word e.first → Word e.second → All Word e.slices
    → (stitch_in form2 (record_of form2 g e) ≡ g) × (editions_in form2 (record_of form2 g e) ≡ e)
written2 g e room z held a b c =
    let back = write-then-read 2 form2 trip2 g e room z held in
    (back.same, back.editions ∙ kept_same form2 e (record { first = a; second = b; slices = c }))

-- ---- version 1 keeps none: the same stitch, in edition 0 throughout
pub written1 : (g : Given) (e : Editions) (room : ℕ) → write_refusal 1 form1 g e room ≡ 0 → Doubles g
    → (stitch_in form1 (record_of form1 g e) ≡ g) × (editions_in form1 (record_of form1 g e) ≡ one_edition 0 (length e.slices))
written1 g e room z held =
    let back = write-then-read 1 form1 trip1 g e room z held in
    (back.same, back.editions ∙ kept-none form1 refl e)

-- ---- "a version 1 record reads as .. edition 0"
pub old-editions : (b : List ℕ) → editions_in form1 b ≡ one_edition 0 (stitch_in form1 b).slices
old-editions b = let none = no-editions form1 refl refl b in rw (none.first, none.second, none.slices)

-- ---- a version 1 record, written again as version 2
second-table : form_for 2 ≡ form2
unfolding form_for
second-table = refl

zeros-fit : (n : ℕ) → All (λ (x : ℕ). x < 256 ^ form2.edition) (replicate n 0)
zeros-fit zero = tt
zeros-fit (suc n) = (omega arith, zeros-fit n)

pub record Upgraded (b : List ℕ) : Type 0 where
  pub table : form_in (record_of form2 (stitch_in form1 b) (editions_in form1 b)) ≡ form2
  pub accepted : (room : ℕ) → length_given form2 (stitch_in form1 b) ≤ room → write_refusal 2 form2 (stitch_in form1 b) (editions_in form1 b) room ≡ 0
  pub read : (l : Lengths) → RoomFor (stitch_in form1 b) l → read_refusal form2 (record_of form2 (stitch_in form1 b) (editions_in form1 b)) l ≡ 0
  pub stitch : stitch_in form2 (record_of form2 (stitch_in form1 b) (editions_in form1 b)) ≡ stitch_in form1 b
  pub editions : editions_in form2 (record_of form2 (stitch_in form1 b) (editions_in form1 b)) ≡ editions_in form1 b

pub upgraded : (b : List ℕ) → Octets b → (l : Lengths) → read_refusal form1 b l ≡ 0 → stitch_fault (stitch_in form1 b) (editions_in form1 b) ≡ 0 → Upgraded b
upgraded b octets l z y =
    let again = read-then-rewrite form1 form2 trip1 trip2 (inl refl) b octets l z y in
    let zero-fits : EditionsFit form2 (editions_in form1 b) = rw (old-editions b) (record { first = omega arith; second = omega arith; slices = zeros-fit (stitch_in form1 b).slices }) in
    record {
      table = ap form_for again.reads.version ∙ second-table;
      accepted = again.accepted;
      read = again.reads.accepted;
      stitch = again.reads.same;
      editions = again.reads.editions ∙ kept_same form2 (editions_in form1 b) zero-fits;
    }
