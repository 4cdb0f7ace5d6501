-- Document 02, K1, K3, K6 and K14: what the writer refuses, and what it writes.
use Rattle.std.specs.Prelude.{ℕ, Bool, not, ◌&&◌, ◌≡◌, List, [], ◌∷◌, ◌++◌, ltb, eqb, length}
use Rattle.basis.specs.declared.answer.CountAnswer.{CountAnswer}
use Rattle.basis.specs.declared.number.Tolerance.{Tolerance}
use Rattle.basis.specs.Answers.{count_refused, counted}
use Rattle.basis.specs.Number.{tolerable}
use Rattle.basis.specs.Refuse.{Row, row, first_of, answer}
use Rattle.basis.specs.Room.{room_of}
use Rattle.fields.specs.Fields.{bits_of}
use Rattle.slice.specs.Editions.{Editions, editions, edition_list_rows, edition_rows}
use Rattle.stitch_run.specs.Stitch.{Given}
use Rattle.stitch_faults.specs.StitchTable.{list_part, code_part, number_part, index_part}
use Rattle.record_form.specs.declared.form.Version.{Version}
use Rattle.record_form.specs.Form.{form_for}
use Rattle.record_write.specs.declared.kept.Kept.{Kept}
use Rattle.record.specs.Record.{plan_in, version_fault, length_of, taken_rows, record_of}

-- the editions of what is handed in
abbrev pub editions_of : Kept → Editions
editions_of k = editions k.edition1 k.edition2 k.slice_edition.now

-- 12: "unknown version", before all others
abbrev pub version_rows : ℕ → Version → List Row
version_rows n v = row (version_fault n v) 12 ∷ []

-- K6: "A version 1 record holds one tolerance, so its writer refuses two that differ, with number 4". Of two in range the bit patterns are compared.
-- A version that has a field for each takes any two
unfoldable pub axes_fault : Version → Tolerance → Bool
axes_fault v t = eqb v.second 0 && not (tolerable t && eqb (bits_of t.x) (bits_of t.y))

abbrev pub axes_rows : Version → Tolerance → List Row
axes_rows v t = row (axes_fault v t) 4 ∷ []

-- 1 to 8: the refusals of the stitch, and among them, each in its number's place, those of what the program takes.
-- So every record that is written can be replayed
abbrev pub keep_rows : Version → Given → List Row
keep_rows v g = list_part g ++ (taken_rows (plan_in g) ++ (code_part g ++ (axes_rows v g.tolerance ++ (number_part g ++ index_part g))))

-- the bytes that a stitch takes
abbrev pub length_given : Version → Given → ℕ
length_given v g = length_of v (plan_in g)

-- 12, and 1 to 8 of what is handed in, with its list of editions
abbrev pub handed_rows : ℕ → Version → Given → Editions → List Row
handed_rows n v g e = version_rows n v ++ (edition_list_rows (length e.slices) g.slices ++ keep_rows v g)

-- and 14, in every version: where one leaves the editions out, a slice of another edition would be read as a good one
unfoldable pub held_rows : ℕ → Version → Given → Editions → List Row
held_rows n v g e = handed_rows n v g e ++ edition_rows e g.slice_at

-- 9: fewer bytes are lent
abbrev pub write_rows : ℕ → Version → Given → Editions → ℕ → List Row
write_rows n v g e room = held_rows n v g e ++ (row (ltb room (length_given v g)) 9 ∷ [])

-- the number for a stitch that is to be a record of the version n, whose table is v
unfoldable pub write_refusal : ℕ → Version → Given → Editions → ℕ → ℕ
write_refusal n v g e room = first_of (write_rows n v g e room)

-- the answer, and the lent bytes at exit: the record, and beyond it what was there
pub record WriteForm (n : ℕ) (v : Version) (g : Given) (e : Editions) (bytes : List ℕ) (r : CountAnswer) (left : List ℕ) : Type 0 where
  pub answers : r ≡ answer count_refused (write_refusal n v g e (length bytes)) (counted (length_given v g))
  pub written : left ≡ answer (λ _. bytes) (write_refusal n v g e (length bytes)) (room_of 0 1 (length_given v g) (record_of v g e) bytes)

-- the writer: of the version that is asked for
abbrev pub WriteLeft : ℕ → Given → Editions → List ℕ → CountAnswer → List ℕ → Type 0
WriteLeft n g e bytes r left = WriteForm n (form_for n) g e bytes r left
