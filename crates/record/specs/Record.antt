-- Document 02, K1 and K14: the stitch that a record's bytes hold, what is refused, and the record of a stitch.
use Rattle.std.specs.Prelude.{ℕ, Result, Ok, ◌+◌, ◌*◌, Bool, not, ◌&&◌, cond, List, [], ◌∷◌, ◌++◌, map, ◌≡◌, ltb, leb, eqb, length, get_or, take, drop, Float}
use Rattle.basis.specs.Number.{+0, tolerance_of}
use Rattle.basis.specs.declared.refuse.Refusal.{Refusal}
use Rattle.basis.specs.Refuse.{Row, row, first_of, answer}
use Rattle.basis.specs.Refusals.{found}
use Rattle.basis.specs.Room.{room_of}
use Rattle.fields.specs.Fields.{size, value_of, pack, unpack, num_of, bits_of}
use Rattle.slice.specs.Slice.{code_width, shape_width}
use Rattle.slice.specs.Faults as slices
use Rattle.slice.specs.Editions.{Editions, editions, edition_room_rows}
use Rattle.stitch_run.specs.declared.plan.Plan.{Plan}
use Rattle.stitch_run.specs.Stitch.{Given, given, plan_of}
use Rattle.record_form.specs.declared.form.Version.{Version}
use Rattle.record.specs.declared.head.Head.{Head}
use Rattle.record.specs.declared.head.Seen.{Seen}
use Rattle.record.specs.declared.head.Lengths.{Lengths}
use Rattle.record.specs.declared.head.Room.{Room}
use Rattle.record_form.specs.Form.{form_for, head_shape, slice_shape, taken_vertices, taken_slices, common_width, entry_width, body_of, column, mix}

-- the lists of a stitch: both outlines, and of its slices the codes, the shapes and the editions
pub record Lists : Type 0 where
  pub outline1 : List Float
  pub outline2 : List Float
  pub slice_at : List ℕ
  pub slice : List Float
  pub slice_edition : List ℕ

abbrev pub lists : List Float → List Float → List ℕ → List Float → List ℕ → Lists
lists o1 o2 at s dates = record { outline1 = o1; outline2 = o2; slice_at = at; slice = s; slice_edition = dates }

-- those that a record is read to, as the code has them
abbrev pub lent : Room → Lists
lent r = lists r.outline1.now r.outline2.now r.slice_at.now r.slice.now r.slice_edition.now

-- its references are still those that were handed in
pub record SameRoom (r r' : Room) : Type 0 where
  pub outline1 : r'.outline1.ghost_name ≡ r.outline1.ghost_name
  pub outline2 : r'.outline2.ghost_name ≡ r.outline2.ghost_name
  pub slice_at : r'.slice_at.ghost_name ≡ r.slice_at.ghost_name
  pub slice : r'.slice.ghost_name ≡ r.slice.ghost_name
  pub slice_edition : r'.slice_edition.ghost_name ≡ r.slice_edition.ghost_name

-- what a head says: a plan, and the outlines' editions
abbrev pub head_of : Plan → ℕ → ℕ → Head
head_of p first second = record { plan = p; edition1 = first; edition2 = second }

-- a stitch and its editions by the lists and the head, and the other way
abbrev pub stitch_by : Lists → Plan → Given
stitch_by l p = given l.outline1 l.outline2 l.slice_at l.slice p

abbrev pub editions_by : Lists → Head → Editions
editions_by l h = editions h.edition1 h.edition2 l.slice_edition

abbrev pub lists_in : Given → Editions → Lists
lists_in g e = lists g.outline1 g.outline2 g.slice_at g.slice e.slices

abbrev pub plan_in : Given → Plan
plan_in g = plan_of g.vc1 g.vc2 g.slices g.starts g.selector g.tolerance

-- ---- what bytes hold

-- the pattern of y's tolerance among the values of a head's fields: a version that has no second tolerance has one for both axes
unfoldable pub second_in : ℕ → ℕ → ℕ → ℕ
second_in width x y = cond (eqb width 0) x y

-- what a head's fields with these values say
abbrev pub head_at : Version → List ℕ → Head
head_at v vs =
    head_of
    (plan_of (get_or vs 4 0) (get_or vs 5 0) (get_or vs 14 0)
    (record { pline2 = get_or vs 11 0; pline1_overlapping = get_or vs 12 0; pline2_overlapping = get_or vs 13 0 })
    (get_or vs 6 0) (tolerance_of (num_of (get_or vs 7 0)) (num_of (second_in v.second (get_or vs 7 0) (get_or vs 8 0)))))
    (get_or vs 9 0) (get_or vs 10 0)

unfoldable pub head_in : Version → List ℕ → Head
head_in v b = head_at v (unpack (head_shape v) b)

abbrev pub plan_held : Version → List ℕ → Plan
plan_held v b = (head_in v b).plan

-- the values of the fields that follow the head
unfoldable pub body_in : Version → Plan → List ℕ → List ℕ
body_in v p b = unpack (body_of v (p.vc1 + p.vc2) p.slices) (drop (size (head_shape v)) b)

-- the lists that these values are
unfoldable pub outline1_from : Plan → List ℕ → List Float
outline1_from p vs = map num_of (take (3 * p.vc1) vs)

unfoldable pub outline2_from : Plan → List ℕ → List Float
outline2_from p vs = map num_of (take (3 * p.vc2) (drop (3 * p.vc1) vs))

abbrev pub slices_from : Plan → ℕ
slices_from p = 3 * p.vc1 + 3 * p.vc2

unfoldable pub codes_from : Plan → List ℕ → List ℕ
codes_from p vs = column entry_width 0 code_width p.slices (drop (slices_from p) vs)

unfoldable pub shapes_from : Plan → List ℕ → List Float
shapes_from p vs = map num_of (column entry_width code_width shape_width p.slices (drop (slices_from p) vs))

unfoldable pub dates_from : Plan → List ℕ → List ℕ
dates_from p vs = column entry_width common_width 1 p.slices (drop (slices_from p) vs)

abbrev pub lists_from : Plan → List ℕ → Lists
lists_from p vs = lists (outline1_from p vs) (outline2_from p vs) (codes_from p vs) (shapes_from p vs) (dates_from p vs)

unfoldable pub lists_held : Version → List ℕ → Lists
lists_held v b = lists_from (plan_held v b) (body_in v (plan_held v b) b)

-- the stitch, and its editions. K14: "a version 1 record reads as equal tolerances and edition 0"
abbrev pub stitch_in : Version → List ℕ → Given
stitch_in v b = stitch_by (lists_held v b) (plan_held v b)

abbrev pub editions_in : Version → List ℕ → Editions
editions_in v b = editions_by (lists_held v b) (head_in v b)

-- ---- refusals, in the order looked at

-- at least five bytes, the first three of them `PBR`: "A file under 5 bytes is 11"
unfoldable pub mark_ok : List ℕ → Bool
mark_ok b = leb 5 (length b) && (eqb (get_or b 0 0) 80 && (eqb (get_or b 1 0) 66 && eqb (get_or b 2 0) 82))

-- the number in the field of the version, and its table. K14: "The new reader takes both versions"
abbrev pub number_in : List ℕ → ℕ
number_in b = value_of 2 (drop 3 b)

abbrev pub form_in : List ℕ → Version
form_in b = form_for (number_in b)

-- 12: "unknown version": a number that is not its table's
abbrev pub version_fault : ℕ → Version → Bool
version_fault n v = not (eqb n v.number)

-- "11 wrong mark, 12 unknown version, 13 length not as the counts say, looked at in that order, before all others". Without a whole head there are no counts
abbrev pub frame_rows : Version → List ℕ → List Row
frame_rows v b =
    row (not (mark_ok b)) 11 ∷ row (version_fault (number_in b) v) 12 ∷ row (ltb (length b) (size (head_shape v))) 13 ∷ row (ltb v.most (length b)) 13 ∷ []

-- the length as the counts say
unfoldable pub length_of : Version → Plan → ℕ
length_of v p = size (head_shape v) + (p.vc1 * 24 + (p.vc2 * 24 + p.slices * size (slice_shape v)))

-- "The program takes at most 64 vertices an outline (else number 2), 28 slices (else 1)"
abbrev pub taken_rows : Plan → List Row
taken_rows p = row (ltb taken_slices p.slices) 1 ∷ row (ltb taken_vertices p.vc1) 2 ∷ row (ltb taken_vertices p.vc2) 2 ∷ []

abbrev pub count_rows : ℕ → ℕ → Plan → List Row
count_rows n m p = row (not (eqb n m)) 13 ∷ taken_rows p

-- 9: a lent list is too short for what is read
abbrev pub room_rows : Plan → Lengths → List Row
room_rows p l =
    row (ltb l.outline1 (3 * p.vc1)) 9 ∷ row (ltb l.outline2 (3 * p.vc2)) 9
    ∷ (slices.room_rows p.slices l.slice_at l.slice ++ edition_room_rows p.slices l.slice_edition)

unfoldable pub read_rows : Version → List ℕ → Lengths → List Row
read_rows v b l = frame_rows v b ++ (count_rows (length b) (length_of v (plan_held v b)) (plan_held v b) ++ room_rows (plan_held v b) l)

abbrev pub read_refusal : Version → List ℕ → Lengths → ℕ
read_refusal v b l = first_of (read_rows v b l)

-- ---- the reader's answer, and what it leaves in the lent lists
abbrev pub seen_given : ℕ → Head → Result Seen Refusal
seen_given number h = Ok (record { version = number; head = h })

abbrev pub lengths : ℕ → ℕ → ℕ → ℕ → ℕ → Lengths
lengths o1 o2 at s dates = record { outline1 = o1; outline2 = o2; slice_at = at; slice = s; slice_edition = dates }

-- those of lists for all that the program takes
abbrev pub taken_lengths : Lengths
taken_lengths = lengths (3 * taken_vertices) (3 * taken_vertices) (code_width * taken_slices) (shape_width * taken_slices) taken_slices

abbrev pub lengths_of : Lists → Lengths
lengths_of l = lengths (length l.outline1) (length l.outline2) (length l.slice_at) (length l.slice) (length l.slice_edition)

-- what a reader of one version answers, and leaves in the lists: the outlines, codes, shapes and editions of the stitch at their fronts, and beyond them what was there
pub record ReadLeft (v : Version) (b : List ℕ) (l : Lists) (r : Result Seen Refusal) (left : Lists) : Type 0 where
  pub answers : found r ≡ read_refusal v b (lengths_of l)
  pub given : read_refusal v b (lengths_of l) ≡ 0 → r ≡ seen_given v.number (head_in v b)
  pub first : left.outline1 ≡ answer (λ _. l.outline1) (read_refusal v b (lengths_of l)) (room_of +0 3 (plan_held v b).vc1 (lists_held v b).outline1 l.outline1)
  pub second : left.outline2 ≡ answer (λ _. l.outline2) (read_refusal v b (lengths_of l)) (room_of +0 3 (plan_held v b).vc2 (lists_held v b).outline2 l.outline2)
  pub codes : left.slice_at ≡ answer (λ _. l.slice_at) (read_refusal v b (lengths_of l)) (room_of 0 code_width (plan_held v b).slices (lists_held v b).slice_at l.slice_at)
  pub shapes : left.slice ≡ answer (λ _. l.slice) (read_refusal v b (lengths_of l)) (room_of +0 shape_width (plan_held v b).slices (lists_held v b).slice l.slice)
  pub dates : left.slice_edition ≡ answer (λ _. l.slice_edition) (read_refusal v b (lengths_of l)) (room_of 0 1 (plan_held v b).slices (lists_held v b).slice_edition l.slice_edition)

-- the reader: of the version that the record names
abbrev pub Read : List ℕ → Lists → Result Seen Refusal → Lists → Type 0
Read b l r left = ReadLeft (form_in b) b l r left

-- K14, "the old reader": it knows version 1 alone
abbrev pub OldRead : List ℕ → Lists → Result Seen Refusal → Lists → Type 0
OldRead b l r left = ReadLeft (form_for 1) b l r left

-- ---- the record of a stitch

-- the values of the head's fields. What a version has no field for is not written
abbrev pub head_values : ℕ → Head → List ℕ
head_values number h =
    80 ∷ 66 ∷ 82 ∷ number ∷ h.plan.vc1 ∷ h.plan.vc2 ∷ h.plan.selector ∷ bits_of h.plan.tolerance.x ∷ bits_of h.plan.tolerance.y
    ∷ h.edition1 ∷ h.edition2 ∷ h.plan.starts.pline2 ∷ h.plan.starts.pline1_overlapping ∷ h.plan.starts.pline2_overlapping ∷ h.plan.slices ∷ []

-- the values of the fields that follow it, for so many slices
unfoldable pub values_of : Lists → ℕ → List ℕ
values_of l n = map bits_of l.outline1 ++ (map bits_of l.outline2 ++ mix code_width shape_width n l.slice_at (map bits_of l.slice) l.slice_edition)

-- both, packed into bytes: a head, and what follows it
abbrev pub packed : Version → Head → List ℕ → List ℕ
packed v h values = pack (head_shape v) (head_values v.number h) ++ pack (body_of v (h.plan.vc1 + h.plan.vc2) h.plan.slices) values

abbrev pub head_given : Given → Editions → Head
head_given g e = head_of (plan_in g) e.first e.second

unfoldable pub record_of : Version → Given → Editions → List ℕ
record_of v g e = packed v (head_given g e) (values_of (lists_in g e) g.slices)
