-- How long the parts of a record are, and that a reader's list is what its stitch has.
use Rattle.std.specs.Prelude.{ℕ, zero, suc, ◌+◌, ◌*◌, ◌-◌, ◌≤◌, ◌<◌, Bool, true, false, cond, ◌≡◌, refl, List, ◌++◌, eqb, length, get_or, take, drop}
use Rattle.std.proofs.Common.{sym, ap, ◌∙◌, arith, suc-mul, ltb-false, length-append, get_or-append-add}
use Rattle.std.proofs.Math.ListN.{length-map, length-drop}
use Rattle.std.proofs.Math.Seq.{length-take-le}
use Rattle.std.proofs.lemmas.List.Edits.{sets}
use Rattle.basis.specs.Choice.{by-test}
use Rattle.basis.specs.Refuse.{count_for}
use Rattle.basis.specs.RefuseLaws.{Clear}
use Rattle.basis.specs.Room.{room_of}
use Rattle.fields.specs.Fields.{size, rows, num_of}
use Rattle.fields.specs.FieldLaws.{length-rows, size-rows, size-append, rows_at, length-unpack, narrow-append, narrow-rows}
use Rattle.fields.specs.Ready.{Narrow, narrow-none, narrow_one}
use Rattle.basis.specs.StoreLaws.{sets-front}
use Rattle.slice.specs.Slice.{code_width, shape_width}
use Rattle.stitch_run.specs.declared.plan.Plan.{Plan}
use Rattle.record_form.specs.declared.form.Version.{Version}
use Rattle.record_form.specs.Form.{form_for, head_shape, slice_shape, taken_vertices, common_width, entry_width, vertex_shape, body_of, column}
use Rattle.record.specs.Record.{Lists, plan_held, body_in, outline1_from, outline2_from, slices_from, codes_from, shapes_from, dates_from, lists_held, taken_rows}
use Rattle.record_form.specs.Ready.{FormOk}

-- ---- tables

-- both tables' widths are in order
pub form-ok : (n : ℕ) → FormOk (form_for n)
unfolding form_for
form-ok n =
    by-test (eqb n 2) (λ t. rw t (record { second = omega arith; edition = omega arith }))
    (λ f. rw f (record { second = omega arith; edition = omega arith }))

pub head-size : (v : Version) → size (head_shape v) ≡ 26 + v.second + 2 * v.edition
unfolding size
head-size v = omega arith

pub slice-size : (v : Version) → size (slice_shape v) ≡ 54 + v.edition
unfolding size
slice-size v = omega arith

-- no field is wider than 8 bytes
module _ (v : Version) (ok : FormOk v) where
  edition-narrow : v.edition ≤ 8
  edition-narrow = omega (arith, ok.edition)

  pub head-narrow : Narrow (head_shape v)
  head-narrow =
      let one : 1 ≤ 8 = omega arith in
      let two : 2 ≤ 8 = omega arith in
      let eight : 8 ≤ 8 = omega arith in
      narrow_one one
      (narrow_one one
      (narrow_one one
      (narrow_one two
      (narrow_one two
      (narrow_one two
      (narrow_one one
      (narrow_one eight
      (narrow_one ok.second
      (narrow_one edition-narrow
      (narrow_one edition-narrow (narrow_one two (narrow_one two (narrow_one two (narrow_one two narrow-none))))))))))))))

  pub slice-narrow : Narrow (slice_shape v)
  slice-narrow =
      let one : 1 ≤ 8 = omega arith in
      let two : 2 ≤ 8 = omega arith in
      let eight : 8 ≤ 8 = omega arith in
      narrow_one one
      (narrow_one one
      (narrow_one two
      (narrow_one two
      (narrow_one eight
      (narrow_one eight
      (narrow_one eight (narrow_one eight (narrow_one eight (narrow_one eight (narrow_one edition-narrow narrow-none))))))))))

pub vertex-narrow : Narrow vertex_shape
vertex-narrow = let eight : 8 ≤ 8 = omega arith in narrow_one eight (narrow_one eight (narrow_one eight narrow-none))

pub body-narrow : (v : Version) → FormOk v → (vertices slices : ℕ) → Narrow (body_of v vertices slices)
unfolding body_of
body-narrow v ok vertices slices = narrow-append (narrow-rows vertices vertex-narrow) (narrow-rows slices (slice-narrow v ok))

-- ---- lengths
pub length-column : {A : Type 0} (stride offset per n : ℕ) (vs : List A) → offset + per ≤ stride → n * stride ≤ length vs → length (column stride offset per n vs) ≡ n * per
unfolding column
length-column stride offset per zero vs h k = omega arith
length-column stride offset per (suc n) vs h k =
    let e : suc n * stride ≡ n * stride + stride = suc-mul n stride in
    let p : length (take per (drop offset vs)) ≡ per = length-take-le per (drop offset vs) (rw length-drop (omega arith)) in
    length-append (take per (drop offset vs)) (column stride offset per n (drop stride vs))
    ∙ omega (arith, p, length-column stride offset per n (drop stride vs) h (rw length-drop (omega arith)), suc-mul n per)

-- how many fields and bytes follow the head
pub length-body : (v : Version) (vertices n : ℕ) → length (body_of v vertices n) ≡ vertices * 3 + n * entry_width
unfolding body_of
length-body v vertices n =
    length-append (rows vertices vertex_shape) (rows n (slice_shape v)) ∙ omega (arith, length-rows vertices vertex_shape, length-rows n (slice_shape v))

pub vertex-size : size vertex_shape ≡ 24
unfolding size
vertex-size = refl

pub size-body : (v : Version) (vertices n : ℕ) → size (body_of v vertices n) ≡ vertices * 24 + n * size (slice_shape v)
unfolding body_of
size-body v vertices n =
    size-append (rows vertices vertex_shape) (rows n (slice_shape v)) ∙ rw (size-rows vertices vertex_shape, vertex-size, size-rows n (slice_shape v))

-- the edition of slice i stands last in its entry
pub date-width : (v : Version) (vertices n i : ℕ) → i < n → get_or (body_of v vertices n) (vertices * 3 + (i * entry_width + common_width)) 0 ≡ v.edition
unfolding body_of
date-width v vertices n i h =
    let front = rows vertices vertex_shape in
    let j = i * entry_width + common_width in
    let e : vertices * 3 + j ≡ length front + j = omega (arith, length-rows vertices vertex_shape) in
    ap (λ (k : ℕ). get_or (front ++ rows n (slice_shape v)) k 0) e ∙ get_or-append-add front (rows n (slice_shape v)) j 0
    ∙ rows_at n (slice_shape v) i common_width h (omega arith)

module _ (p : Plan) (vs : List ℕ) (whole : slices_from p + p.slices * entry_width ≡ length vs) where
  pub length-outline1 : length (outline1_from p vs) ≡ 3 * p.vc1
  unfolding outline1_from
  length-outline1 = length-map (take (3 * p.vc1) vs) num_of ∙ length-take-le (3 * p.vc1) vs (omega arith)

  pub length-outline2 : length (outline2_from p vs) ≡ 3 * p.vc2
  unfolding outline2_from
  length-outline2 =
      length-map (take (3 * p.vc2) (drop (3 * p.vc1) vs)) num_of ∙ length-take-le (3 * p.vc2) (drop (3 * p.vc1) vs) (rw length-drop (omega arith))

  rest : p.slices * entry_width ≤ length (drop (slices_from p) vs)
  rest = rw length-drop (omega arith)

  pub length-codes : length (codes_from p vs) ≡ code_width * p.slices
  unfolding codes_from
  length-codes = omega (arith, length-column entry_width 0 code_width p.slices (drop (slices_from p) vs) (omega arith) rest)

  pub length-shapes : length (shapes_from p vs) ≡ shape_width * p.slices
  unfolding shapes_from
  length-shapes =
      length-map (column entry_width code_width shape_width p.slices (drop (slices_from p) vs)) num_of
      ∙ omega (arith, length-column entry_width code_width shape_width p.slices (drop (slices_from p) vs) (omega arith) rest)

  pub length-dates : length (dates_from p vs) ≡ p.slices
  unfolding dates_from
  length-dates = omega (arith, length-column entry_width common_width 1 p.slices (drop (slices_from p) vs) (omega arith) rest)

-- lists are as long as a plan's counts say
pub record Long (p : Plan) (l : Lists) : Type 0 where
  pub first : length l.outline1 ≡ 3 * p.vc1
  pub second : length l.outline2 ≡ 3 * p.vc2
  pub codes : length l.slice_at ≡ code_width * p.slices
  pub shapes : length l.slice ≡ shape_width * p.slices
  pub dates : length l.slice_edition ≡ p.slices

-- the values that follow a head are as many as its counts say
pub length-values : (v : Version) (p : Plan) (b : List ℕ) → slices_from p + p.slices * entry_width ≡ length (body_in v p b)
unfolding body_in
length-values v p b =
    sym (length-unpack (body_of v (p.vc1 + p.vc2) p.slices) (drop (size (head_shape v)) b) ∙ length-body v (p.vc1 + p.vc2) p.slices ∙ omega arith)

-- the lists that are read are, whatever the bytes are
pub read-long : (v : Version) (b : List ℕ) → Long (plan_held v b) (lists_held v b)
unfolding lists_held
read-long v b =
    let p = plan_held v b in
    let vs = body_in v p b in
    let whole = length-values v p b in
    record {
      first = length-outline1 p vs whole;
      second = length-outline2 p vs whole;
      codes = length-codes p vs whole;
      shapes = length-shapes p vs whole;
      dates = length-dates p vs whole;
    }

-- what the program takes is small, of either outline
pub counts-small : (p : Plan) → Clear (taken_rows p) → (source : ℕ) → count_for p.vc1 p.vc2 source ≤ taken_vertices
counts-small p ok source = go (eqb source 1)
  where
    go : (b : Bool) → cond b p.vc1 p.vc2 ≤ taken_vertices
    go true = ltb-false taken_vertices p.vc1 ok.1.0
    go false = ltb-false taken_vertices p.vc2 ok.1.1.0

-- items that fill the need
pub sets-room : {A : Type 0} (d : A) (w need : ℕ) (l items : List A) → length items ≡ w * need → w * need ≤ length l → sets l 0 items ≡ room_of d w need items l
unfolding room_of
sets-room d w need l items e h =
    let z : w * need - length items ≡ 0 = omega arith in
    sets-front l items (omega arith) ∙ rw (z, e)
