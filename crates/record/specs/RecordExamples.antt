-- Document 02's numbers, computed.
use Rattle.std.specs.Prelude.{ℕ, ◌≡◌, refl, List, [], ◌∷◌, replicate}
use Rattle.basis.specs.Number.{+0, alike}
use Rattle.basis.specs.Refuse.{first_of}
use Rattle.fields.specs.Fields.{size, value_of}
use Rattle.stitch_run.specs.declared.plan.Plan.{Plan}
use Rattle.stitch_run.specs.Stitch.{plan_of}
use Rattle.record_form.specs.declared.form.Version.{Version}
use Rattle.record_form.specs.Form.{form1, form2, form_for, head_shape, taken_vertices, taken_slices}
use Rattle.record.specs.Record.{length_of, mark_ok, form_in, taken_lengths, read_rows, read_refusal}

-- a head with these counts
abbrev pub counts : ℕ → ℕ → ℕ → Plan
counts a b n = plan_of a b n (record { pline2 = 0; pline1_overlapping = 0; pline2_overlapping = 0 }) 0 (alike +0)

-- the head; the union of 01; the longest record that the program takes
pub record Sizes (v : Version) (head union : ℕ) : Type 0 where
  pub least : size (head_shape v) ≡ head
  pub squares : length_of v (counts 4 4 2) ≡ union
  pub longest : length_of v (counts taken_vertices taken_vertices taken_slices) ≡ v.most

-- K1: "The union of 01 is 326 bytes"
pub sizes1 : Sizes form1 26 326
unfolding size length_of
sizes1 = record { least = refl; squares = refl; longest = refl }

-- K14: "the union of 01 is then 350 bytes, the most is 4,738, and 5 to 41 bytes are 13"
pub sizes2 : Sizes form2 42 350
unfolding size length_of
sizes2 = record { least = refl; squares = refl; longest = refl }

-- the program's own lists
abbrev pub first : List ℕ → ℕ
first b = read_refusal (form_in b) b taken_lengths

-- four bytes are 11; five with mark and version right are 13, and so are 25 of version 1 and 41 of version 2; another version is 12, and a wrong mark comes before it
abbrev pub marked : ℕ → ℕ → List ℕ
marked version more = 80 ∷ 66 ∷ 82 ∷ version ∷ 0 ∷ replicate more 0

pub four : first (80 ∷ 66 ∷ 82 ∷ 1 ∷ []) ≡ 11
unfolding read_rows first_of mark_ok
four = refl

pub five : (first (marked 1 0) ≡ 13) × (first (marked 2 0) ≡ 13)
unfolding read_rows first_of mark_ok value_of size form_for
five = (refl, refl)

pub no-head : (first (marked 1 20) ≡ 13) × (first (marked 2 36) ≡ 13)
unfolding read_rows first_of mark_ok value_of size form_for
no-head = (refl, refl)

pub unknown : (first (marked 0 40) ≡ 12) × (first (marked 3 40) ≡ 12)
unfolding read_rows first_of mark_ok value_of form_for
unknown = (refl, refl)

-- a reader of version 1 alone does not know version 2
pub older : read_refusal form1 (marked 2 40) taken_lengths ≡ 12
unfolding read_rows first_of mark_ok value_of
older = refl

pub mark-before-version : first (80 ∷ 66 ∷ 83 ∷ 3 ∷ 0 ∷ []) ≡ 11
unfolding read_rows first_of mark_ok
mark-before-version = refl
