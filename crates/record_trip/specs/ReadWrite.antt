-- The other way: reading a record that is accepted, then writing what was read, gives the same bytes; and written as another version, where that has both tolerances or the record
-- has one, it reads as the same stitch, in the editions that the version keeps.
use Rattle.std.specs.Prelude.{ℕ, ◌+◌, ◌*◌, ◌≤◌, true, ◌≡◌, ◌⊎◌, ltb, leb, eqb}
use Rattle.std.proofs.Math.Bool.{not, cond}
use Rattle.std.proofs.Math.Path.{refl, sym, ap}
use Rattle.std.proofs.Common.{◌∙◌, arith}
use mathlib.Core.List.{List, [], ◌∷◌, ◌++◌, map}
use Rattle.std.proofs.Math.Logic.{⊎_elim}
use borrow.Author.Tests.{le-ltb, eq-eqb, eqb-true, not-false}
use Rattle.std.proofs.Math.ListN.{length, get_or, take, drop, length-drop, take-append-drop}
use Rattle.std.proofs.Math.Seq.{get_or-drop, drop-drop, take_all}
use Rattle.basis.specs.Choice.{by-test, and_left, and_right}
use Rattle.basis.specs.Number.{tolerable_on, tolerable}
use Rattle.basis.specs.Refuse.{Row, row, first_of}
use Rattle.basis.specs.RefuseLaws.{Clear, clear, clear-left, clear-right, clear_both, none-clear, length-ok, ok-length}
use Rattle.slice.specs.Slice.{code_width, shape_width}
use Rattle.slice.specs.Editions.{Editions, edition_list_rows, edition_rows}
use Rattle.stitch_run.specs.declared.plan.Plan.{Plan}
use Rattle.stitch_run.specs.Doubles.{AllDouble, Doubles}
use Rattle.stitch_run.specs.Stitch.{Given}
use Rattle.stitch_faults.specs.StitchTable.{list_part, code_part, number_part, index_part, shape_rows, input_rows, edition_part}
use Rattle.stitch_faults.specs.Matching.{Matched}
use Rattle.fields.specs.Fields.{size, bytes_of, value_of, pack, unpack, num_of, bits_of}
use Rattle.fields.specs.FieldLaws.{Octets, octets-drop, unpack-fitted, pack-unpack}
use Rattle.fields.specs.NumberLaws.{num-held}
use Rattle.record_form.specs.declared.form.Version.{Version}
use Rattle.record.specs.declared.head.Lengths.{Lengths}
use Rattle.record_form.specs.Form.{head_shape, entry_width, body_of, column, mix}
use Rattle.record.specs.Record.{lists_in, plan_in, second_in, head_in, plan_held, body_in, slices_from, outline1_from, outline2_from, codes_from, shapes_from, dates_from, lists_held, stitch_in, editions_in, mark_ok, number_in, frame_rows, length_of, taken_rows, count_rows, room_rows, read_rows, read_refusal, head_values, head_given, values_of, record_of}
use Rattle.record.specs.RecordLaws.{size-body, head-narrow, body-narrow, length-values}
use Rattle.record_write.specs.Writer.{axes_fault, axes_rows, keep_rows, version_rows, handed_rows, held_rows, length_given, write_rows, write_refusal}
use Rattle.record_trip.specs.Kept.{TripOk}
use Rattle.record_trip.specs.Columns.{rows_back}
use Rattle.record_trip.specs.Fits.{Below, fitted-below, below_at, below-take, below-drop, below-column, tolerance-back, numbers-kept}
use Rattle.record_trip.specs.WriteRead.{ReadsBack, write-then-read}

one_byte : (l : List ℕ) → value_of 1 l ≡ get_or l 0 0
unfolding value_of
one_byte l = omega arith

-- the bytes of fifteen values, of which five are known by other names; of a sixth only the bytes are the same
fifteen : (v : Version) (a0 a1 a2 a3 a7 a8 b0 b1 b2 b3 b7 b8 x4 x5 x6 x9 x10 x11 x12 x13 x14 : ℕ) → a0 ≡ b0 → a1 ≡ b1 → a2 ≡ b2 → a3 ≡ b3 → a7 ≡ b7
    → bytes_of v.second a8 ≡ bytes_of v.second b8
    → pack (head_shape v) (a0 ∷ a1 ∷ a2 ∷ a3 ∷ x4 ∷ x5 ∷ x6 ∷ a7 ∷ a8 ∷ x9 ∷ x10 ∷ x11 ∷ x12 ∷ x13 ∷ x14 ∷ [])
    ≡ pack (head_shape v) (b0 ∷ b1 ∷ b2 ∷ b3 ∷ x4 ∷ x5 ∷ x6 ∷ b7 ∷ b8 ∷ x9 ∷ x10 ∷ x11 ∷ x12 ∷ x13 ∷ x14 ∷ [])
unfolding pack
fifteen v a0 a1 a2 a3 a7 a8 b0 b1 b2 b3 b7 b8 x4 x5 x6 x9 x10 x11 x12 x13 x14 p q r s t u = rw (p, q, r, s, t, u)

-- numbers that are read are f64
all_held : (vs : List ℕ) → AllDouble (map num_of vs)
all_held [] = tt
all_held (x ∷ vs) = (num-held x, all_held vs)

pub doubles-read : (v : Version) (b : List ℕ) → Doubles (stitch_in v b)
unfolding head_in lists_held outline1_from outline2_from shapes_from
doubles-read v b =
    let p = plan_held v b in
    let vs = body_in v p b in
    record {
      tolerance_x = num-held (get_or (unpack (head_shape v) b) 7 0);
      tolerance_y = num-held (second_in v.second (get_or (unpack (head_shape v) b) 7 0) (get_or (unpack (head_shape v) b) 8 0));
      first = all_held (take (3 * p.vc1) vs);
      second = all_held (take (3 * p.vc2) (drop (3 * p.vc1) vs));
      numbers = all_held (column entry_width code_width shape_width p.slices (drop (slices_from p) vs));
    }

-- ---- a record that the reader accepts, of a stitch that is not refused by 1 to 8 and 14
module _ (v : Version) (trip : TripOk v) (b : List ℕ) (octets : Octets b) (l : Lengths) (z : read_refusal v b l ≡ 0) (ok : Clear (shape_rows (stitch_in v b)))
    (matched : Matched (stitch_in v b) (editions_in v b)) where
  abbrev H : Plan
  H = plan_held v b

  abbrev g : Given
  g = stitch_in v b

  abbrev E : Editions
  E = editions_in v b

  abbrev fields : List ℕ
  fields = unpack (head_shape v) b

  abbrev vs : List ℕ
  vs = body_in v H b

  abbrev frame : List Row
  frame = frame_rows v b

  abbrev counts : List Row
  counts = count_rows (length b) (length_of v H) H

  accepted : Clear (frame ++ (counts ++ room_rows H l))
  unfolding read_rows
  accepted = clear (frame ++ (counts ++ room_rows H l)) tt z

  framed : Clear frame
  framed = clear-left frame (counts ++ room_rows H l) accepted

  counted : Clear counts
  counted = clear-left counts (room_rows H l) (clear-right frame (counts ++ room_rows H l) accepted)

  long : length b ≡ length_of v H
  long = eqb-true (length b) (length_of v H) (not-false _ counted.0)

  -- the parts of the stitch's table
  after-lists : Clear (code_part g ++ (number_part g ++ index_part g))
  after-lists = clear-right (list_part g) (code_part g ++ (number_part g ++ index_part g)) ok

  numbers-clear : Clear (number_part g)
  numbers-clear = clear-left (number_part g) (index_part g) (clear-right (code_part g) (number_part g ++ index_part g) after-lists)

  -- ---- the head
  marked : mark_ok b ≡ true
  marked = not-false _ framed.0

  byte0 : get_or b 0 0 ≡ 80
  unfolding mark_ok
  byte0 = eqb-true _ _ (and_left (eqb (get_or b 0 0) 80) _ (and_right (leb 5 (length b)) _ marked))

  byte1 : get_or b 1 0 ≡ 66
  unfolding mark_ok
  byte1 = eqb-true _ _ (and_left (eqb (get_or b 1 0) 66) _ (and_right (eqb (get_or b 0 0) 80) _ (and_right (leb 5 (length b)) _ marked)))

  byte2 : get_or b 2 0 ≡ 82
  unfolding mark_ok
  byte2 = eqb-true _ _ (and_right (eqb (get_or b 1 0) 66) _ (and_right (eqb (get_or b 0 0) 80) _ (and_right (leb 5 (length b)) _ marked)))

  version : number_in b ≡ v.number
  version = eqb-true _ _ (not-false _ framed.1.0)

  head-below : Below fields
  head-below = fitted-below (unpack-fitted (head_shape v) b octets) (head-narrow v trip.form)

  in-range : tolerable g.tolerance ≡ true
  in-range = not-false (tolerable g.tolerance) numbers-clear.0

  x-in-range : tolerable_on g.tolerance.x ≡ true
  x-in-range = and_left (tolerable_on g.tolerance.x) (tolerable_on g.tolerance.y) (unfold tolerable in in-range)

  y-in-range : tolerable_on g.tolerance.y ≡ true
  y-in-range = and_right (tolerable_on g.tolerance.x) (tolerable_on g.tolerance.y) (unfold tolerable in in-range)

  first-kept : bits_of g.tolerance.x ≡ get_or fields 7 0
  unfolding head_in
  first-kept = tolerance-back (get_or fields 7 0) (below_at 7 head-below) x-in-range

  -- the second tolerance, where the version has a field for it, and where it has none
  second-kept : v.second ≡ 8 → bits_of g.tolerance.y ≡ get_or fields 8 0
  unfolding head_in
  second-kept h =
      let s : second_in v.second (get_or fields 7 0) (get_or fields 8 0) ≡ get_or fields 8 0 = unfold second_in in ap (λ (w : ℕ). cond (eqb w 0) (get_or fields 7 0) (get_or fields 8 0)) h in
      ap (λ (w : ℕ). bits_of (num_of w)) s
      ∙ tolerance-back (get_or fields 8 0) (below_at 8 head-below) (ap (λ (w : ℕ). tolerable_on (num_of w)) (sym s) ∙ y-in-range)

  second-same : v.second ≡ 0 → bits_of g.tolerance.x ≡ bits_of g.tolerance.y
  unfolding head_in
  second-same h =
      let s : get_or fields 7 0 ≡ second_in v.second (get_or fields 7 0) (get_or fields 8 0) =
      unfold second_in in ap (λ (w : ℕ). cond (eqb w 0) (get_or fields 7 0) (get_or fields 8 0)) (sym h) in
      ap (λ (w : ℕ). bits_of (num_of w)) s

  second-bytes : bytes_of v.second (bits_of g.tolerance.y) ≡ bytes_of v.second (get_or fields 8 0)
  second-bytes =
      ⊎_elim
      (λ (h : v.second ≡ 0). unfold bytes_of in ap (λ (w : ℕ). bytes_of w (bits_of g.tolerance.y)) h ∙ sym (ap (λ (w : ℕ). bytes_of w (get_or fields 8 0)) h))
      (λ (h : v.second ≡ 8). ap (bytes_of v.second) (second-kept h)) trip.axes

  head-same : pack (head_shape v) (head_values v.number (head_given g E)) ≡ pack (head_shape v) fields
  unfolding head_in unpack
  head-same =
      let e0 : 80 ≡ value_of 1 b = sym (one_byte b ∙ byte0) in
      let e1 : 66 ≡ value_of 1 (drop 1 b) = sym (one_byte (drop 1 b) ∙ get_or-drop 1 b 0 0 ∙ byte1) in
      let e2 : 82 ≡ value_of 1 (drop 1 (drop 1 b)) = sym (one_byte (drop 1 (drop 1 b)) ∙ get_or-drop 1 (drop 1 b) 0 0 ∙ get_or-drop 1 b 1 0 ∙ byte2) in
      let d : drop 1 (drop 1 (drop 1 b)) ≡ drop 3 b = ap (drop 1) (drop-drop 1 1 b) ∙ drop-drop 1 2 b in
      let e3 : v.number ≡ value_of 2 (drop 1 (drop 1 (drop 1 b))) = sym (ap (value_of 2) d ∙ version) in
      fifteen v _ _ _ _ _ _ _ _ _ _ _ _ _ _ _ _ _ _ _ _ _ e0 e1 e2 e3 first-kept second-bytes

  -- ---- what follows it
  body_below : Below vs
  unfolding body_in
  body_below = fitted-below (unpack-fitted (body_of v (H.vc1 + H.vc2) H.slices) (drop (size (head_shape v)) b) (octets-drop (size (head_shape v)) b octets)) (body-narrow v trip.form (H.vc1 + H.vc2) H.slices)

  values-long : length vs ≡ slices_from H + H.slices * entry_width
  values-long = sym (length-values v H b)

  outline1-kept : map bits_of (outline1_from H vs) ≡ take (3 * H.vc1) vs
  unfolding outline1_from
  outline1-kept = numbers-kept (below-take (3 * H.vc1) body_below) (unfold lists_held in not-false _ numbers-clear.1.0)

  outline2-kept : map bits_of (outline2_from H vs) ≡ take (3 * H.vc2) (drop (3 * H.vc1) vs)
  unfolding outline2_from
  outline2-kept = numbers-kept (below-take (3 * H.vc2) (below-drop (3 * H.vc1) body_below)) (unfold lists_held in not-false _ numbers-clear.1.1.0)

  shapes-kept : map bits_of (shapes_from H vs) ≡ column entry_width code_width shape_width H.slices (drop (slices_from H) vs)
  unfolding shapes_from
  shapes-kept = numbers-kept (below-column entry_width code_width shape_width H.slices (below-drop (slices_from H) body_below)) (unfold lists_held in not-false _ numbers-clear.1.1.1.0)

  slices-kept : mix code_width shape_width H.slices (codes_from H vs) (map bits_of (shapes_from H vs)) (dates_from H vs) ≡ drop (slices_from H) vs
  unfolding codes_from dates_from
  slices-kept = rw shapes-kept (rows_back code_width shape_width H.slices (drop (slices_from H) vs) (length-drop (slices_from H) vs ∙ omega (arith, values-long)))

  values_same : values_of (lists_in g E) g.slices ≡ vs
  unfolding values_of lists_held
  values_same =
      rw (outline1-kept, outline2-kept, slices-kept)
      (ap (λ (u : List ℕ). take (3 * H.vc1) vs ++ (take (3 * H.vc2) (drop (3 * H.vc1) vs) ++ u)) (sym (drop-drop (3 * H.vc2) (3 * H.vc1) vs))
      ∙ ap (λ (u : List ℕ). take (3 * H.vc1) vs ++ u) (take-append-drop (3 * H.vc2) (drop (3 * H.vc1) vs))
      ∙ take-append-drop (3 * H.vc1) vs)

  -- ---- the bytes
  sizes : size (head_shape v) + size (body_of v (H.vc1 + H.vc2) H.slices) ≡ length b
  unfolding length_of
  sizes = omega (arith, size-body v (H.vc1 + H.vc2) H.slices, long)

  head_bytes_lem : pack (head_shape v) (head_values v.number (head_given g E)) ≡ take (size (head_shape v)) b
  head_bytes_lem = head-same ∙ pack-unpack (head_shape v) b octets (omega (arith, sizes))

  body_bytes_lem : pack (body_of v (H.vc1 + H.vc2) H.slices) (values_of (lists_in g E) g.slices) ≡ drop (size (head_shape v)) b
  unfolding body_in
  body_bytes_lem =
      let body = body_of v (H.vc1 + H.vc2) H.slices in
      let rest = drop (size (head_shape v)) b in
      let lr : length rest ≡ size body = length-drop (size (head_shape v)) b ∙ omega (arith, sizes) in
      ap (pack body) values_same
      ∙ pack-unpack body rest (octets-drop (size (head_shape v)) b octets) (omega (arith, lr))
      ∙ take_all (size body) rest (omega (arith, lr))

  both-parts : record_of v g E ≡ pack (head_shape v) (head_values v.number (head_given g E)) ++ pack (body_of v (H.vc1 + H.vc2) H.slices) (values_of (lists_in g E) g.slices)
  unfolding record_of
  both-parts = refl

  pub same_bytes : record_of v g E ≡ b
  same_bytes = both-parts ∙ rw (head_bytes_lem, body_bytes_lem) (take-append-drop (size (head_shape v)) b)

  -- ---- and the writer of a version w does not refuse it: w has both tolerances, or the record has one
  module _ (w : Version) (fits : (v.second ≡ 0) ⊎ (w.second ≡ 8)) where
    axes : Clear (axes_rows w g.tolerance)
    unfolding axes_fault
    axes =
        ⊎_elim
        (λ (h : v.second ≡ 0). (
          rw (in-range, eq-eqb (bits_of g.tolerance.x) (bits_of g.tolerance.y) (second-same h)) (by-test (eqb w.second 0) (λ t. rw t) (λ f. rw f)),
          tt,
        ))
        (λ (h : w.second ≡ 8). (rw h, tt)) fits

    pub written_as : (room : ℕ) → length_given w g ≤ room → write_refusal w.number w g E room ≡ 0
    unfolding write_refusal held_rows
    written_as room h =
        let shapes = code_part g ++ (number_part g ++ index_part g) in
        let after = code_part g ++ (axes_rows w g.tolerance ++ (number_part g ++ index_part g)) in
        let rest : Clear (number_part g ++ index_part g) = clear-right (code_part g) (number_part g ++ index_part g) after-lists in
        let after_kept : Clear after =
        clear_both (code_part g) (axes_rows w g.tolerance ++ (number_part g ++ index_part g)) (clear-left (code_part g) (number_part g ++ index_part g) after-lists)
        (clear_both (axes_rows w g.tolerance) (number_part g ++ index_part g) axes rest) in
        let kept : Clear (keep_rows w g) =
        clear_both (list_part g) (taken_rows (plan_in g) ++ after) (clear-left (list_part g) shapes ok) (clear_both (taken_rows (plan_in g)) after counted.1 after_kept) in
        let last : Clear (row (ltb room (length_given w g)) 9 ∷ []) = (le-ltb room (length_given w g) h, tt) in
        let known : Clear (version_rows w.number w) = (ap not (eq-eqb w.number w.number refl), tt) in
        let each : Clear (edition_list_rows (length E.slices) g.slices) = (ok-length 1 (length E.slices) g.slices (let k = matched.each in omega (arith, k)), tt) in
        let handed : Clear (handed_rows w.number w g E) =
        clear_both (version_rows w.number w) (edition_list_rows (length E.slices) g.slices ++ keep_rows w g) known (clear_both (edition_list_rows (length E.slices) g.slices) (keep_rows w g) each kept) in
        let all : Clear (held_rows w.number w g E) = clear_both (handed_rows w.number w g E) (edition_rows E g.slice_at) handed (matched.same, tt) in
        none-clear (write_rows w.number w g E room) (clear_both (held_rows w.number w g E) (row (ltb room (length_given w g)) 9 ∷ []) all last)

-- the numbers that the stitch of a record is refused by before its rooms are looked at: 1 to 8, and 14
abbrev pub stitch_fault : Given → Editions → ℕ
stitch_fault g e = first_of (input_rows g (length e.slices) ++ edition_part g e)

-- what their absence says
module _ (g : Given) (e : Editions) (y : stitch_fault g e ≡ 0) where
  all-clear : Clear (input_rows g (length e.slices) ++ edition_part g e)
  all-clear = clear (input_rows g (length e.slices) ++ edition_part g e) tt y

  inputs-clear : Clear (input_rows g (length e.slices))
  inputs-clear = clear-left (input_rows g (length e.slices)) (edition_part g e) all-clear

  pub shape-clear : Clear (shape_rows g)
  shape-clear = clear-right (edition_list_rows (length e.slices) g.slices) (shape_rows g) inputs-clear

  pub fault-matched : Matched g e
  fault-matched =
      record {
        each = let h = length-ok 1 (length e.slices) g.slices inputs-clear.0 in omega (arith, h);
        same = (clear-right (input_rows g (length e.slices)) (edition_part g e) all-clear).0;
      }

-- the theorem, over the reader's and the stitch's own numbers: of a record that is accepted the writer of its version gives back each byte
pub record WritesBack (v : Version) (b : List ℕ) : Type 0 where
  pub same : record_of v (stitch_in v b) (editions_in v b) ≡ b
  pub accepted : (room : ℕ) → length b ≤ room → write_refusal v.number v (stitch_in v b) (editions_in v b) room ≡ 0

pub read-then-write : (v : Version) → TripOk v → (b : List ℕ) → Octets b → (l : Lengths) → read_refusal v b l ≡ 0 → stitch_fault (stitch_in v b) (editions_in v b) ≡ 0 → WritesBack v b
read-then-write v trip b octets l z y =
    let g = stitch_in v b in
    let e = editions_in v b in
    let ok = shape-clear g e y in
    let matched = fault-matched g e y in
    let told = long v trip b octets l z ok matched in
    record {
      same = same_bytes v trip b octets l z ok matched;
      accepted = λ room h. written_as v trip b octets l z ok matched v trip.axes room (omega (arith, h, told));
    }

-- and the writer of another version, where that has both tolerances or the record has one: it is not refused, and what it writes reads as the same stitch, in the editions that it keeps
pub record Rewritten (v w : Version) (b : List ℕ) : Type 0 where
  pub accepted : (room : ℕ) → length_given w (stitch_in v b) ≤ room → write_refusal w.number w (stitch_in v b) (editions_in v b) room ≡ 0
  pub reads : ReadsBack w (stitch_in v b) (editions_in v b)

pub read-then-rewrite : (v w : Version) → TripOk v → TripOk w → (v.second ≡ 0) ⊎ (w.second ≡ 8) → (b : List ℕ) → Octets b → (l : Lengths) → read_refusal v b l ≡ 0
    → stitch_fault (stitch_in v b) (editions_in v b) ≡ 0 → Rewritten v w b
read-then-rewrite v w trip trip' fits b octets l z y =
    let g = stitch_in v b in
    let e = editions_in v b in
    let ok = shape-clear g e y in
    let matched = fault-matched g e y in
    let written = written_as v trip b octets l z ok matched w fits in
    record {
      accepted = written;
      reads = write-then-read w.number w trip' g e (length_given w g) (written (length_given w g) (omega arith)) (doubles-read v b);
    }
