-- Document 02, K1 and K14: the layout of the record `PBR`.
-- Every version has the same fields in the same order, and a version is a table of widths. A field that it leaves out is 0 bytes wide: it takes no byte and reads as 0.
use Rattle.std.specs.Prelude.{ℕ, zero, suc, ◌+◌, cond, List, [], ◌∷◌, ◌++◌, eqb, take, drop}
use Rattle.fields.specs.Fields.{rows}
use Rattle.slice.specs.Slice.{code_width, shape_width}
use Rattle.record_form.specs.declared.form.Version.{Version}

-- K1: "16-bit version 1, .. tolerance, three 16-bit starts": one tolerance for both axes, and no editions; "at most .. 4,610 bytes"
abbrev pub form1 : Version
form1 = record { number = 1; second = 0; edition = 0; most = 4610 }

-- K14: "both tolerances of K6 (x then y, where the one stood), then the two outlines' 32-bit editions of K3, and each slice's edition at the end of its entry";
-- "the most is 4,738"
abbrev pub form2 : Version
form2 = record { number = 2; second = 8; edition = 4; most = 4738 }

-- the table of a version's number. That of a number that is unknown is version 1's, whose number is another
unfoldable pub form_for : ℕ → Version
form_for n = cond (eqb n 2) form2 form1

-- "the mark `PBR`, 16-bit version .., two 16-bit vertex counts, selector byte .., tolerance[s], [editions], three 16-bit starts, 16-bit slice count".
-- By number: the mark's three bytes 0 1 2, the version 3, the vertex counts 4 5, the selector 6, the tolerances 7 8, the editions 9 10, the starts 11 12 13, the slice count 14
abbrev pub head_shape : Version → List ℕ
head_shape v = 1 ∷ 1 ∷ 1 ∷ 2 ∷ 2 ∷ 2 ∷ 1 ∷ 8 ∷ v.second ∷ v.edition ∷ v.edition ∷ 2 ∷ 2 ∷ 2 ∷ 2 ∷ []

-- "per slice a source byte (1 or 2), an inverted byte (0 or 1), 16-bit start and offset, and start x, y, bulge, end bulge, end x, y", [edition]
abbrev pub slice_shape : Version → List ℕ
slice_shape v = 1 ∷ 1 ∷ 2 ∷ 2 ∷ 8 ∷ 8 ∷ 8 ∷ 8 ∷ 8 ∷ 8 ∷ v.edition ∷ []

-- x, y, bulge
abbrev pub vertex_shape : List ℕ
vertex_shape = 8 ∷ 8 ∷ 8 ∷ []

-- "The program takes at most 64 vertices an outline .., 28 slices"
abbrev pub taken_vertices : ℕ
taken_vertices = 64

abbrev pub taken_slices : ℕ
taken_slices = 28

-- the fields of a slice: codes and shape; with them the edition
abbrev pub common_width : ℕ
common_width = code_width + shape_width

abbrev pub entry_width : ℕ
entry_width = common_width + 1

-- what follows the head: "then the vertices of both outlines (x, y, bulge); then per slice .."
unfoldable pub body_of : Version → ℕ → ℕ → List ℕ
body_of v vertices slices = rows vertices vertex_shape ++ rows slices (slice_shape v)

-- ---- the values of rows, one row after the other

-- of n rows of `stride` values, the `per` values from `offset` on
unfoldable pub column : {A : Type 0} → ℕ → ℕ → ℕ → ℕ → List A → List A
column stride offset per zero vs = []
column stride offset per (suc n) vs = take per (drop offset vs) ++ column stride offset per n (drop stride vs)

-- n rows of c codes, m numbers and an edition, from three lists
unfoldable pub mix : {A : Type 0} → ℕ → ℕ → ℕ → List A → List A → List A → List A
mix c m zero codes numbers dates = []
mix c m (suc n) codes numbers dates = take c codes ++ (take m numbers ++ (take 1 dates ++ mix c m n (drop c codes) (drop m numbers) (drop 1 dates)))
