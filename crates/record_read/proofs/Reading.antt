-- What the reader is proved by.
use Prim.Native.Nat.{ℕ, ◌+◌, ◌-◌, ◌*◌, ◌^◌, ◌≤◌, ◌<◌}
use mathlib.Core.Path.{◌≡◌, refl, sym, ap, subst, ◌∙◌}
use mathlib.Core.List.{List, ◌++◌}
use native.Mathlib.Omega.{arith}
use native.Mathlib.Nat.{pow-le-pow_right}
use borrow.Author.Tests.{ltb-false, eqb-true, not-false}
use lib.ListN.{length, get_or, take, drop}
use lib.Seq.{drop-drop, take_at, sets, length-sets}
use Rattle.basis.specs.Number.{+0}
use Rattle.basis.specs.StoreLaws.{sets-after, sets-front}
use Rattle.basis.specs.Refuse.{Row, first_of, first_from}
use Rattle.basis.specs.Refusals.{found}
use Rattle.basis.specs.RefuseLaws.{clear, first-from, then-rows, answer-no, answer-yes, first_found, first-later}
use Rattle.fields.specs.Fields.{size, unpack, rows}
use Rattle.fields.specs.FieldLaws.{Octets, octets-drop, length-unpack, unpack-append, unpack-fitted, fitted-at, size-rows, length-rows}
use Rattle.fields.specs.Ready.{RowsAt}
use Rattle.slice.specs.Slice.{code_width, shape_width}
use Rattle.stitch_run.specs.declared.plan.Plan.{Plan}
use Rattle.record_form.specs.declared.form.Version.{Version}
use Rattle.record.specs.declared.head.Head.{Head}
use Rattle.std.specs.Prelude.{Result}
use Rattle.basis.specs.declared.refuse.Refusal.{Refusal}
use Rattle.record.specs.declared.head.Seen.{Seen}
use Rattle.record.specs.declared.head.Lengths.{Lengths}
use Rattle.record_form.specs.Form.{taken_vertices, taken_slices, common_width, entry_width, head_shape, slice_shape, vertex_shape, body_of}
use Rattle.record.specs.Record.{Lists, head_in, plan_held, body_in, outline1_from, outline2_from, slices_from, codes_from, shapes_from, dates_from, lists_held, number_in, form_in, frame_rows, length_of, count_rows, room_rows, read_rows, read_refusal, lengths_of, seen_given, ReadLeft, Read}
use Rattle.record.specs.Ready.{HeadFit, HeadRead}
use Rattle.record_form.specs.Ready.{FormOk}
use Rattle.record.specs.RecordLaws.{form-ok, head-size, slice-narrow, vertex-narrow, vertex-size, length-body, date-width, length-values, length-outline1, length-outline2, length-codes, length-shapes, length-dates, sets-room}
use Rattle.record_read.specs.Ready.{Short, ListsFit, ListsFilled, Whole, BodyFit}

-- ---- the values that follow the head
module _ {v : Version} {n : ℕ} {p : Plan} (w : Whole v n p) where
  -- they are few in all
  pub values-within : 3 * p.vc1 + 3 * p.vc2 + p.slices * entry_width ≤ 1024
  values-within = omega (arith, w.few1, w.few2, w.few3)

  pub head-short : size (head_shape v) ≤ 42
  head-short = omega (arith, head-size v, w.form.second, w.form.edition)

  module _ {m : ℕ} (room : 1024 ≤ m) where
    pub vertex-rows : {head : ℕ} → head ≡ size (head_shape v) → RowsAt n head vertex_shape 24 (p.vc1 + p.vc2) m 0
    unfolding length_of
    vertex-rows e =
        record {
          narrow = vertex-narrow;
          bytes = sym vertex-size;
          inside = omega (arith, w.whole);
          target = omega (arith, w.few1, w.few2);
        }

    pub slice_rows : {head stride : ℕ} {es : List ℕ} → head ≡ size (head_shape v) → stride ≡ size (slice_shape v) → es ≡ slice_shape v
        → RowsAt n (head + (p.vc1 + p.vc2) * 24) es stride p.slices m ((p.vc1 + p.vc2) * 3)
    unfolding length_of
    slice_rows e f g =
        rw (e, f, g)
        (record {
          narrow = slice-narrow v w.form;
          bytes = refl;
          inside = omega (arith, w.whole);
          target = omega (arith, w.few1, w.few2, w.few3);
        })

pub values_listed : (v : Version) (p : Plan) (b : List ℕ) {head : ℕ} {es : List ℕ} (vs vs' vs'' : List ℕ) → head ≡ size (head_shape v) → es ≡ slice_shape v
    → vs' ≡ sets vs 0 (unpack (rows (p.vc1 + p.vc2) vertex_shape) (drop head b))
    → vs'' ≡ sets vs' ((p.vc1 + p.vc2) * 3) (unpack (rows p.slices es) (drop (head + (p.vc1 + p.vc2) * 24) b))
    → vs'' ≡ sets vs 0 (body_in v p b)
unfolding body_in body_of
values_listed v p b vs vs' vs'' a c e f =
    let h = size (head_shape v) in
    let es = slice_shape v in
    let k = p.vc1 + p.vc2 in
    let X = unpack (rows k vertex_shape) (drop h b) in
    let Y = unpack (rows p.slices es) (drop (h + k * 24) b) in
    let l : length X ≡ k * 3 = length-unpack (rows k vertex_shape) (drop h b) ∙ length-rows k vertex_shape in
    let s : size (rows k vertex_shape) ≡ k * 24 = size-rows k vertex_shape ∙ ap (λ (u : ℕ). k * u) vertex-size in
    let d : drop (size (rows k vertex_shape)) (drop h b) ≡ drop (h + k * 24) b = drop-drop (size (rows k vertex_shape)) h b ∙ ap (λ (u : ℕ). drop (h + u) b) s in
    let u : unpack (rows k vertex_shape ++ rows p.slices es) (drop h b) ≡ X ++ Y =
    unpack-append (rows k vertex_shape) (rows p.slices es) (drop h b) ∙ ap (λ (x : List ℕ). X ++ unpack (rows p.slices es) x) d in
    rw (a, c) at f ∙ ap (λ (x : List ℕ). sets x (k * 3) Y) (rw a at e) ∙ sets-after vs (k * 3) X Y l ∙ ap (sets vs 0) (sym u)

-- a list that was written has room as before
pub room-still : (vs vs' xs : List ℕ) (to : ℕ) → vs' ≡ sets vs to xs → 1024 ≤ length vs → 1024 ≤ length vs'
room-still vs vs' xs to e h = omega (arith, ap length e ∙ length-sets vs to xs)

-- ---- editions fit 32 bits, since their fields are of 4 bytes at most
pub dates-short : (v : Version) → FormOk v → (p : Plan) (b : List ℕ) → Octets b → Short (body_in v p b) (slices_from p) entry_width common_width p.slices
unfolding body_in
dates-short v ok p b octets i h =
    let k = p.vc1 + p.vc2 in
    let body = body_of v k p.slices in
    let rest = drop (size (head_shape v)) b in
    let j = k * 3 + (i * entry_width + common_width) in
    let s : slices_from p + i * entry_width + common_width ≡ j = omega arith in
    let q : 256 ^ v.edition ≤ 256 ^ 4 = pow-le-pow_right (omega arith) ok.edition in
    let f : get_or (unpack body rest) j 0 < 256 ^ get_or body j 0 =
    fitted-at j (unpack-fitted body rest (octets-drop (size (head_shape v)) b octets)) (omega (arith, length-body v k p.slices)) in
    let g : get_or (unpack body rest) j 0 < 256 ^ v.edition = rw (date-width v k p.slices i h) at f in
    rw s (omega (arith, q, g))

-- ---- the five lists are filled from just these values
module _ {v : Version} {n : ℕ} {p : Plan} {l : Lengths} (f : BodyFit v n p l) (b vs vs' : List ℕ) (long : length vs ≡ 1024) (e : vs' ≡ sets vs 0 (body_in v p b)) where
  values-part : take (slices_from p + p.slices * entry_width - 0) vs' ≡ body_in v p b
  values-part =
      let z : slices_from p + p.slices * entry_width - 0 ≡ slices_from p + p.slices * entry_width = omega arith in
      let whole = length-values v p b in
      let k : length (body_in v p b) ≤ length vs = omega (arith, whole, values-within f.all, long) in
      rw z
      (ap (take (slices_from p + p.slices * entry_width)) (e ∙ sets-front vs (body_in v p b) k)
      ∙ take_at (body_in v p b) (drop (length (body_in v p b)) vs) (slices_from p + p.slices * entry_width) (sym whole))

  pub lists-fit : Octets b → ListsFit p (take (slices_from p + p.slices * entry_width - 0) vs') l
  lists-fit octets =
      subst (λ (x : List ℕ). ListsFit p x l) (sym values-part)
      (record { whole = length-values v p b; short = dates-short v f.all.form p b octets; roomy = f.roomy })

  pub lists_filled : {x y : Lists} → ListsFilled p (take (slices_from p + p.slices * entry_width - 0) vs') x y → ListsFilled p (body_in v p b) x y
  lists_filled {x} {y} g = subst (λ (z : List ℕ). ListsFilled p z x y) values-part g

-- ---- the reader of one version: its refusal is the table's
module _ {v : Version} (ok : FormOk v) (b : List ℕ) {k : ℕ} (e : k ≡ first_of (frame_rows v b)) where
  pub frame-fault : (l : Lengths) → (k ≡ 0 → ⊥) → k ≡ read_refusal v b l
  unfolding read_rows
  frame-fault l h = e ∙ sym (first_found (frame_rows v b) _ (λ z. h (e ∙ z)))

  pub head-there : k ≡ 0 → HeadFit v b
  head-there z =
      let good = clear (frame_rows v b) tt (sym e ∙ z) in
      record { form = ok; inside = ltb-false (length b) (size (head_shape v)) good.1.1.0 }

  module _ (z : k ≡ 0) {h : Head} (hr : HeadRead v b h) {k1 : ℕ} (e1 : k1 ≡ first_from 0 (count_rows (length b) (length_of v h.plan) h.plan)) (l : Lengths) where
    abbrev counted : List Row
    counted = count_rows (length b) (length_of v h.plan) h.plan

    abbrev roomy : List Row
    roomy = room_rows h.plan l

    after : {n : ℕ} → n ≡ first_of (counted ++ roomy) → n ≡ read_refusal v b l
    unfolding read_rows
    after q =
        q ∙ ap (λ (x : Head). first_of (count_rows (length b) (length_of v x.plan) x.plan ++ room_rows x.plan l)) hr.head
        ∙ sym (first-later (frame_rows v b) _ (clear (frame_rows v b) tt (sym e ∙ z)))

    -- the counts refuse
    pub count-fault : (k1 ≡ 0 → ⊥) → k1 ≡ read_refusal v b l
    count-fault h =
        let first : k1 ≡ first_of counted = first-from counted k1 tt e1 in
        after (first ∙ sym (first_found counted roomy (λ q. h (first ∙ q))))

    -- they do not
    module _ (z1 : k1 ≡ 0) {k2 : ℕ} (e2 : k2 ≡ first_from 0 (room_rows h.plan l)) where
      both : k2 ≡ first_of (counted ++ roomy)
      both =
          first-from (counted ++ roomy) k2 tt (then-rows k2 k1 0 counted roomy (e2 ∙ ap (λ (n : ℕ). first_from n roomy) (sym z1)) e1)

      pub whole-fault : k2 ≡ read_refusal v b l
      whole-fault = after both

      pub body-fit : k2 ≡ 0 → BodyFit v (length b) h.plan l
      body-fit z2 =
          let p = h.plan in
          let good = clear (counted ++ roomy) tt (sym both ∙ z2) in
          let rest = good.1.1.1.1 in
          record {
            all =
                record {
                  form = ok;
                  whole = eqb-true (length b) (length_of v p) (not-false _ good.0);
                  few1 = ltb-false taken_vertices p.vc1 good.1.1.0;
                  few2 = ltb-false taken_vertices p.vc2 good.1.1.1.0;
                  few3 = ltb-false taken_slices p.slices good.1.0;
                };
            roomy =
                record {
                  first = ltb-false _ _ rest.0;
                  second = ltb-false _ _ rest.1.0;
                  codes = ltb-false _ _ rest.1.1.0;
                  shapes = ltb-false _ _ rest.1.1.1.0;
                  dates = ltb-false _ _ rest.1.1.1.1.0;
                };
          }

-- ---- refused: nothing lent is written
pub read-refused : {v : Version} {b : List ℕ} {l : Lists} {r : Result Seen Refusal} (n : ℕ) → n ≡ read_refusal v b (lengths_of l) → (n ≡ 0 → ⊥) → found r ≡ n → ReadLeft v b l r l
read-refused {v} {b} {l} {r} n e h q =
    record {
      answers = q ∙ e;
      given = λ z. absurd (h (e ∙ z));
      first = answer-no (λ _. l.outline1) n _ _ l.outline1 e h refl;
      second = answer-no (λ _. l.outline2) n _ _ l.outline2 e h refl;
      codes = answer-no (λ _. l.slice_at) n _ _ l.slice_at e h refl;
      shapes = answer-no (λ _. l.slice) n _ _ l.slice e h refl;
      dates = answer-no (λ _. l.slice_edition) n _ _ l.slice_edition e h refl;
    }

-- ---- filled
module _ {v : Version} (b : List ℕ) (l : Lists) {left : Lists} {n : ℕ} (e : n ≡ read_refusal v b (lengths_of l)) (z : n ≡ 0) where
  held-filled : BodyFit v (length b) (plan_held v b) (lengths_of l) → ListsFilled (plan_held v b) (body_in v (plan_held v b) b) l left
      → {r : Result Seen Refusal} → r ≡ seen_given v.number (head_in v b) → ReadLeft v b l r left
  unfolding lists_held
  held-filled f g {r} q =
      let p = plan_held v b in
      let vs = body_in v p b in
      let long = length-values v p b in
      let one : length (dates_from p vs) ≡ 1 * p.slices = omega (arith, length-dates p vs long) in
      record {
        answers = ap found q ∙ sym z ∙ e;
        given = λ _. q;
        first =
            answer-yes (λ _. l.outline1) n _ _ left.outline1 e z
            (g.first ∙ sets-room +0 3 p.vc1 l.outline1 (outline1_from p vs) (length-outline1 p vs long) f.roomy.first);
        second =
            answer-yes (λ _. l.outline2) n _ _ left.outline2 e z
            (g.second ∙ sets-room +0 3 p.vc2 l.outline2 (outline2_from p vs) (length-outline2 p vs long) f.roomy.second);
        codes =
            answer-yes (λ _. l.slice_at) n _ _ left.slice_at e z
            (g.codes ∙ sets-room 0 code_width p.slices l.slice_at (codes_from p vs) (length-codes p vs long) f.roomy.codes);
        shapes =
            answer-yes (λ _. l.slice) n _ _ left.slice e z
            (g.shapes ∙ sets-room +0 shape_width p.slices l.slice (shapes_from p vs) (length-shapes p vs long) f.roomy.shapes);
        dates =
            answer-yes (λ _. l.slice_edition) n _ _ left.slice_edition e z
            (g.dates ∙ sets-room 0 1 p.slices l.slice_edition (dates_from p vs) one (omega (arith, f.roomy.dates)));
      }

  -- by the head as the code has it
  pub read-filled : {h : Head} → HeadRead v b h → BodyFit v (length b) h.plan (lengths_of l) → ListsFilled h.plan (body_in v h.plan b) l left
      → {r : Result Seen Refusal} → r ≡ seen_given v.number h → ReadLeft v b l r left
  read-filled hr f g q =
      held-filled (subst (λ (x : Head). BodyFit v (length b) x.plan (lengths_of l)) hr.head f)
      (subst (λ (x : Head). ListsFilled x.plan (body_in v x.plan b) l left) hr.head g) (q ∙ ap (seen_given v.number) hr.head)

-- ---- the version that the record names
pub form-there : {v : Version} (b : List ℕ) → v ≡ form_in b → FormOk v
form-there b e = rw e (form-ok (number_in b))

pub read_named : {v : Version} (b : List ℕ) {l : Lists} {r : Result Seen Refusal} {left : Lists} → v ≡ form_in b → ReadLeft v b l r left → Read b l r left
read_named b {l} {r} {left} e w = subst (λ (x : Version). ReadLeft x b l r left) e w

pub ruleset naming = (form-there, read_named)
