-- "Writing then reading a record gives the same stitch": of everything that the writer does not refuse, number for number, bit for bit, in every version; and its editions
-- as the version keeps them.
use Rattle.std.specs.Prelude.{ℕ, ◌+◌, ◌*◌, ◌%◌, ◌^◌, ◌≤◌, ◌<◌, ◌≡◌, refl, ltb, eqb, get_or, take, drop, Float}
use mathlib.Core.Bool.{true, not}
use Rattle.std.proofs.Math.Path.{sym, ap}
use Rattle.std.proofs.Common.{◌∙◌, mod-eq_of_lt, length-append, take_at, drop_at}
use mathlib.Core.List.{List, [], ◌∷◌, ◌++◌, map, append_assoc, append-nil}
use Rattle.std.proofs.Math.Logic.{⊎_elim}
use native.Mathlib.Omega.{arith}
use Rattle.std.proofs.Math.Nat.{mul-le-mul_right}
use borrow.Author.Tests.{ltb-false, le-ltb, le-leb, eq-eqb, eqb-true, not-false}
use Rattle.std.proofs.Math.ListN.{length}
use Rattle.std.proofs.lemmas.List.{length-map}
use Rattle.std.proofs.Math.Seq.{drop-drop}
use Rattle.basis.specs.declared.number.Tolerance.{Tolerance}
use Rattle.basis.specs.Choice.{by-test, or_left, or_right}
use Rattle.basis.specs.Number.{all_within, tolerance_of}
use Rattle.basis.specs.Refuse.{row, first_of, source_fault}
use Rattle.basis.specs.RefuseLaws.{Clear, clear, clear-left, clear_both, none-clear, choice-ok}
use Rattle.slice.specs.Slice.{code_width, shape_width, codes_at}
use Rattle.slice.specs.Faults.{source_known}
use Rattle.slice.specs.SliceLaws.{slice_at, turned-at, start-at, offset_at}
use Rattle.slice.specs.Editions.{Editions, editions}
use Rattle.stitch_run.specs.Doubles.{Doubles}
use Rattle.stitch_run.specs.Stitch.{Given, plan_of}
use Rattle.stitch_faults.specs.StitchRows.{starts_fault}
use Rattle.stitch_faults.specs.declared.faults.Lengths as lent
use Rattle.stitch_faults.specs.StitchTable.{stitch_refusal}
use Rattle.stitch_faults.specs.Matching.{Matched, base-number}
use Rattle.fields.specs.Fields.{size, bytes_of, value_of, pack, unpack, num_of, bits_of}
use Rattle.fields.specs.FieldLaws.{Cut, cut-none, cut-one, cut-fit, cut-append, fitted-cut, unpack-cut, length-pack}
use Rattle.fields.specs.NumberLaws.{Plain, AllPlain, num-bits, bits_below, nums-bits}
use Rattle.record_form.specs.declared.form.Version.{Version}
use Rattle.record.specs.declared.head.Head.{Head}
use Rattle.record.specs.declared.head.Lengths.{Lengths}
use Rattle.record_form.specs.Form.{head_shape, slice_shape, entry_width, common_width, body_of, column, mix}
use Rattle.record.specs.Record.{Lists, lists, lists_in, plan_in, stitch_by, editions_by, head_of, second_in, head_at, head_in, plan_held, body_in, outline1_from, outline2_from, codes_from, shapes_from, dates_from, lists_from, lists_held, stitch_in, editions_in, mark_ok, number_in, frame_rows, length_of, count_rows, room_rows, read_rows, read_refusal, head_values, head_given, values_of, record_of}
use Rattle.record.specs.RecordLaws.{head-size, counts-small}
use Rattle.record_write.specs.Writer.{keep_rows, held_rows, length_given, write_rows, write_refusal}
use Rattle.record_write.specs.Ready.{Keeps}
use Rattle.record_write.specs.KeepLaws.{held-version, held_kept, held-matched, taken-clear, codes-clear, numbers-clear, indexes-clear, one-pattern, keeps, record-long}
use Rattle.record_trip.specs.Kept.{kept_in, kept_editions, TripOk, kept-matched}
use Rattle.record_trip.specs.Columns.{codes-back, numbers-back, dates-back}
use Rattle.record_trip.specs.Fits.{all_plain, bits-all-below, below-append, CodesFit, vertices-fitted, slices-cut}

-- lists with room for what is read back
pub record RoomFor (g : Given) (l : Lengths) : Type 0 where
  pub first : 3 * g.vc1 ≤ l.outline1
  pub second : 3 * g.vc2 ≤ l.outline2
  pub codes : code_width * g.slices ≤ l.slice_at
  pub shapes : shape_width * g.slices ≤ l.slice
  pub dates : g.slices ≤ l.slice_edition

-- the values of a head's fields, of which the second tolerance and the editions are cut to their fields' bytes
abbrev kept_values : Version → Head → List ℕ
kept_values v h =
    80 ∷ 66 ∷ 82 ∷ v.number ∷ h.plan.vc1 ∷ h.plan.vc2 ∷ h.plan.selector ∷ bits_of h.plan.tolerance.x ∷ bits_of h.plan.tolerance.y % 256 ^ v.second
    ∷ kept_in v h.edition1 ∷ kept_in v h.edition2 ∷ h.plan.starts.pline2 ∷ h.plan.starts.pline1_overlapping ∷ h.plan.starts.pline2_overlapping ∷ h.plan.slices ∷ []

each_same : {o1 p1 o2 p2 : List Float} {at bt : List ℕ} {s t : List Float} {d f : List ℕ} → o1 ≡ p1 → o2 ≡ p2 → at ≡ bt → s ≡ t → d ≡ f → lists o1 o2 at s d ≡ lists p1 p2 bt t f
each_same a b c d e = rw (a, b, c, d, e)

module _ (v : Version) (trip : TripOk v) (g : Given) (e : Editions) (ok : Clear (keep_rows v g)) (matched : Matched g e) (held : Doubles g) where
  kept : Keeps v g e (length_given v g)
  kept = keeps v g ok trip.form e matched.each (length_given v g) (omega arith)

  plain1 : AllPlain g.outline1
  plain1 = all_plain g.outline1 held.first (not-false (all_within g.outline1) (numbers-clear v g ok).1.0)

  plain2 : AllPlain g.outline2
  plain2 = all_plain g.outline2 held.second (not-false (all_within g.outline2) (numbers-clear v g ok).1.1.0)

  plain3 : AllPlain g.slice
  plain3 = all_plain g.slice held.numbers (not-false (all_within g.slice) (numbers-clear v g ok).1.1.1.0)

  plain-x : Plain g.tolerance.x
  plain-x = record { held = held.tolerance_x; number = kept.tolerance.x.number }

  plain-y : Plain g.tolerance.y
  plain-y = record { held = held.tolerance_y; number = kept.tolerance.y.number }

  -- one tolerance is that of both axes; two are each its own
  second-read : num_of (second_in v.second (bits_of g.tolerance.x) (bits_of g.tolerance.y % 256 ^ v.second)) ≡ g.tolerance.y
  unfolding second_in
  second-read =
      ⊎_elim (λ (z : v.second ≡ 0). rw z (ap num_of (one-pattern v g ok z) ∙ num-bits g.tolerance.y plain-y))
      (λ (z : v.second ≡ 8). rw z (ap num_of (mod-eq_of_lt (bits_below g.tolerance.y plain-y)) ∙ num-bits g.tolerance.y plain-y)) trip.axes

  tolerance-read : tolerance_of (num_of (bits_of g.tolerance.x)) (num_of (second_in v.second (bits_of g.tolerance.x) (bits_of g.tolerance.y % 256 ^ v.second))) ≡ g.tolerance
  tolerance-read =
      ap (λ (t : Float). tolerance_of t (num_of (second_in v.second (bits_of g.tolerance.x) (bits_of g.tolerance.y % 256 ^ v.second)))) (num-bits g.tolerance.x plain-x)
      ∙ ap (tolerance_of g.tolerance.x) second-read

  abbrev patterns1 : List ℕ
  patterns1 = map bits_of g.outline1

  abbrev patterns2 : List ℕ
  patterns2 = map bits_of g.outline2

  abbrev patterns3 : List ℕ
  patterns3 = map bits_of g.slice

  abbrev dates : List ℕ
  dates = map (kept_in v) e.slices

  -- the slices' values, with these editions
  abbrev mixed : List ℕ → List ℕ
  mixed l = mix code_width shape_width g.slices g.slice_at patterns3 l

  long1 : length patterns1 ≡ 3 * g.vc1
  long1 = length-map g.outline1 bits_of ∙ kept.long1

  long2 : length patterns2 ≡ 3 * g.vc2
  long2 = length-map g.outline2 bits_of ∙ kept.long2

  long3 : length patterns3 ≡ shape_width * g.slices
  long3 = length-map g.slice bits_of ∙ kept.long4

  long5 : length dates ≡ g.slices
  long5 = length-map e.slices (kept_in v) ∙ kept.long5

  -- ---- each value in its field
  source-small : (s : ℕ) → not (source_fault s) ≡ true → s ≤ 2
  unfolding source_fault
  source-small s h =
      by-test (eqb s 1) (λ t. omega (arith, eqb-true s 1 t))
      (λ f. by-test (eqb s 2) (λ t. omega (arith, eqb-true s 2 t)) (λ f2. absurd (mathlib.Core.Bool.false≢true (rw (f, f2) at h))))

  codes-fit : (i : ℕ) → i < g.slices → CodesFit (codes_at g.slice_at i)
  unfolding source_known
  codes-fit i h =
      let c = codes_at g.slice_at i in
      let small = counts-small (plan_in g) (taken-clear v g ok) c.source in
      record {
        source = omega (arith, source-small c.source (slice_at g.slice_at g.slices kept.long3 source_known (not-false _ (codes-clear v g ok).1.1.1.0) i h));
        inverted = omega (arith, turned-at g.slice_at g.slices kept.long3 (not-false _ (codes-clear v g ok).1.1.1.1.0) i h);
        start = omega (arith, small, start-at g.slice_at g.slices kept.long3 g.vc1 g.vc2 (not-false _ (indexes-clear v g ok).0) i h);
        offset = omega (arith, small, offset_at g.slice_at g.slices kept.long3 g.vc1 g.vc2 (not-false _ (indexes-clear v g ok).1.0) i h);
      }

  abbrev values : List ℕ
  values = values_of (lists_in g e) g.slices

  abbrev values_read : List ℕ
  values_read = values_of (lists_in g (kept_editions v e)) g.slices

  body-cut : Cut (body_of v (g.vc1 + g.vc2) g.slices) values values_read
  unfolding body_of values_of
  body-cut =
      rw (sym (append_assoc patterns1 patterns2 (mixed e.slices)), sym (append_assoc patterns1 patterns2 (mixed dates)))
      (cut-append
      (fitted-cut
      (vertices-fitted (g.vc1 + g.vc2) (patterns1 ++ patterns2) (length-append patterns1 patterns2 ∙ omega (arith, long1, long2)) (below-append (bits-all-below plain1) (bits-all-below plain2))))
      (slices-cut v g.slices g.slice_at patterns3 e.slices kept.long3 long3 kept.long5 codes-fit (bits-all-below plain3)))

  starts-small : (g.starts.pline2 ≤ g.slices) × (g.starts.pline1_overlapping ≤ g.slices) × (g.starts.pline2_overlapping ≤ g.slices)
  unfolding starts_fault
  starts-small =
      let s = g.starts in
      let h = (indexes-clear v g ok).1.1.0 in
      let a : s.pline2 ≤ s.pline1_overlapping = ltb-false _ _ (or_left (ltb s.pline1_overlapping s.pline2) _ h) in
      let f = or_right (ltb s.pline1_overlapping s.pline2) _ h in
      let b : s.pline1_overlapping ≤ s.pline2_overlapping = ltb-false _ _ (or_left (ltb s.pline2_overlapping s.pline1_overlapping) _ f) in
      let c : s.pline2_overlapping ≤ g.slices = ltb-false _ _ (or_right (ltb s.pline2_overlapping s.pline1_overlapping) _ f) in
      (omega arith, omega arith, c)

  abbrev head_read : List ℕ
  head_read = kept_values v (head_given g e)

  head-cut : Cut (head_shape v) (head_values v.number (head_given g e)) head_read
  head-cut =
      let few = kept.few in
      let s = choice-ok g.selector (codes-clear v g ok).1.1.0 in
      let a : 80 < 256 = omega arith in
      let b : 66 < 256 = omega arith in
      let c : 82 < 256 = omega arith in
      let n1 : g.vc1 < 65536 = omega (arith, few.few1) in
      let n2 : g.vc2 < 65536 = omega (arith, few.few2) in
      let sel : g.selector < 256 = omega arith in
      let s1 : g.starts.pline2 < 65536 = omega (arith, starts-small.0, few.few3) in
      let s2 : g.starts.pline1_overlapping < 65536 = omega (arith, starts-small.1, few.few3) in
      let s3 : g.starts.pline2_overlapping < 65536 = omega (arith, starts-small.2, few.few3) in
      let n3 : g.slices < 65536 = omega (arith, few.few3) in
      cut-fit a
      (cut-fit b
      (cut-fit c
      (cut-fit trip.number
      (cut-fit n1
      (cut-fit n2
      (cut-fit sel
      (cut-fit (bits_below g.tolerance.x plain-x)
      (cut-one refl (cut-one refl (cut-one refl (cut-fit s1 (cut-fit s2 (cut-fit s3 (cut-fit n3 cut-none))))))))))))))

  -- ---- the bytes, in their two parts
  abbrev head_bytes : List ℕ
  head_bytes = pack (head_shape v) (head_values v.number (head_given g e))

  abbrev body_bytes : List ℕ
  body_bytes = pack (body_of v (g.vc1 + g.vc2) g.slices) values

  head-long : length head_bytes ≡ size (head_shape v)
  head-long = length-pack (head_shape v) (head_values v.number (head_given g e)) (omega arith)

  values-back : unpack (head_shape v) (record_of v g e) ≡ head_read
  unfolding record_of
  values-back = unpack-cut body_bytes head-cut

  head-back : head_in v (record_of v g e) ≡ head_given g (kept_editions v e)
  unfolding head_in
  head-back =
      ap (head_at v) values-back
      ∙ ap (λ (t : Tolerance). head_of (plan_of g.vc1 g.vc2 g.slices g.starts g.selector t) (kept_in v e.first) (kept_in v e.second)) tolerance-read

  body_back : body_in v (plan_in g) (record_of v g e) ≡ values_read
  unfolding body_in record_of
  body_back =
      let body = body_of v (g.vc1 + g.vc2) g.slices in
      ap (unpack body) (drop_at head_bytes body_bytes (size (head_shape v)) head-long ∙ sym (append-nil body_bytes)) ∙ unpack-cut [] body-cut

  -- ---- the lists
  first_back : outline1_from (plan_in g) values_read ≡ g.outline1
  unfolding outline1_from values_of
  first_back = ap (map num_of) (take_at patterns1 (patterns2 ++ mixed dates) (3 * g.vc1) long1) ∙ nums-bits plain1

  past_first : drop (3 * g.vc1) (patterns1 ++ (patterns2 ++ mixed dates)) ≡ patterns2 ++ mixed dates
  past_first = drop_at patterns1 (patterns2 ++ mixed dates) (3 * g.vc1) long1

  second_back : outline2_from (plan_in g) values_read ≡ g.outline2
  unfolding outline2_from values_of
  second_back = ap (λ (l : List ℕ). map num_of (take (3 * g.vc2) l)) past_first ∙ ap (map num_of) (take_at patterns2 (mixed dates) (3 * g.vc2) long2) ∙ nums-bits plain2

  past-both : drop (3 * g.vc1 + 3 * g.vc2) (patterns1 ++ (patterns2 ++ mixed dates)) ≡ mixed dates
  past-both =
      sym (drop-drop (3 * g.vc2) (3 * g.vc1) (patterns1 ++ (patterns2 ++ mixed dates))) ∙ ap (drop (3 * g.vc2)) past_first ∙ drop_at patterns2 (mixed dates) (3 * g.vc2) long2

  items3 : length g.slice_at ≡ g.slices * code_width
  items3 = omega (arith, kept.long3)

  items4 : length patterns3 ≡ g.slices * shape_width
  items4 = omega (arith, long3)

  items5 : length dates ≡ g.slices * 1
  items5 = omega (arith, long5)

  codes_same : codes_from (plan_in g) values_read ≡ g.slice_at
  unfolding codes_from values_of
  codes_same = ap (column entry_width 0 code_width g.slices) past-both ∙ codes-back code_width shape_width g.slices g.slice_at patterns3 dates items3 items4 items5

  shapes-same : shapes_from (plan_in g) values_read ≡ g.slice
  unfolding shapes_from values_of
  shapes-same =
      ap (λ (l : List ℕ). map num_of (column entry_width code_width shape_width g.slices l)) past-both
      ∙ ap (map num_of) (numbers-back code_width shape_width g.slices g.slice_at patterns3 dates items3 items4 items5)
      ∙ nums-bits plain3

  dates-same : dates_from (plan_in g) values_read ≡ dates
  unfolding dates_from values_of
  dates-same = ap (column entry_width common_width 1 g.slices) past-both ∙ dates-back code_width shape_width g.slices g.slice_at patterns3 dates items3 items4 items5

  lists-same : lists_held v (record_of v g e) ≡ lists_in g (kept_editions v e)
  unfolding lists_held
  lists-same =
      ap (λ (h : Head). lists_from h.plan (body_in v h.plan (record_of v g e))) head-back
      ∙ ap (lists_from (plan_in g)) body_back
      ∙ each_same first_back second_back codes_same shapes-same dates-same

  -- the same stitch is read, in the editions that are kept
  pub same-stitch : stitch_in v (record_of v g e) ≡ g
  same-stitch =
      ap (λ (x : Lists). stitch_by x (plan_held v (record_of v g e))) lists-same ∙ ap (λ (h : Head). stitch_by (lists_in g (kept_editions v e)) h.plan) head-back

  pub same-editions : editions_in v (record_of v g e) ≡ kept_editions v e
  same-editions = ap (λ (x : Lists). editions_by x (head_in v (record_of v g e))) lists-same ∙ ap (editions_by (lists_in g (kept_editions v e))) head-back

  -- ---- and it is not refused
  -- what is written starts with the mark and the version
  mark-written : 5 ≤ length (record_of v g e) → mark_ok (record_of v g e) ≡ true
  mark-written h = unfold mark_ok record_of pack bytes_of in rw (le-leb 5 _ (unfold record_of pack bytes_of in h))

  third-value : (b : List ℕ) → get_or (unpack (head_shape v) b) 3 0 ≡ number_in b
  unfolding unpack
  third-value b = ap (value_of 2) (ap (drop 1) (drop-drop 1 1 b) ∙ drop-drop 1 2 b)

  version-written : number_in (record_of v g e) ≡ v.number
  version-written = sym (third-value (record_of v g e)) ∙ ap (λ (l : List ℕ). get_or l 3 0) values-back

  least : size (head_shape v) ≤ length_given v g
  unfolding length_of
  least = omega arith

  most : length_given v g ≤ v.most
  unfolding length_of
  most =
      let few = kept.few in
      let s : g.slices * size (slice_shape v) ≤ 28 * size (slice_shape v) = mul-le-mul_right (size (slice_shape v)) few.few3 in
      omega (arith, few.few1, few.few2, s, trip.most)

  pub not-refused : (l : Lengths) → RoomFor g l → read_refusal v (record_of v g e) l ≡ 0
  unfolding read_rows
  not-refused l room = go (record_of v g e) mark-written version-written (record-long v g e kept) (ap (λ (h : Head). h.plan) head-back)
    where
      go : (b : List ℕ) → (5 ≤ length b → mark_ok b ≡ true) → number_in b ≡ v.number → length b ≡ length_given v g → plan_held v b ≡ plan_in g
          → first_of (frame_rows v b ++ (count_rows (length b) (length_of v (plan_held v b)) (plan_held v b) ++ room_rows (plan_held v b) l)) ≡ 0
      go b m n long f =
          let p = plan_in g in
          let five : 5 ≤ length b = omega (arith, long, least, head-size v) in
          let low : size (head_shape v) ≤ length b = omega (arith, long, least) in
          let framed : Clear (frame_rows v b) = (
            ap not (m five),
            (ap not (eq-eqb (number_in b) v.number n), (le-ltb (length b) (size (head_shape v)) low, (le-ltb v.most (length b) (omega (arith, long, most)), tt))),
          ) in
          let counted : Clear (count_rows (length b) (length_of v p) p) = (ap not (eq-eqb (length b) (length_of v p) long), taken-clear v g ok) in
          let rooms : Clear (room_rows p l) =
          (le-ltb _ _ room.first, (le-ltb _ _ room.second, (le-ltb _ _ room.codes, (le-ltb _ _ room.shapes, (le-ltb _ _ room.dates, tt))))) in
          rw f
          (none-clear (frame_rows v b ++ (count_rows (length b) (length_of v p) p ++ room_rows p l))
          (clear_both (frame_rows v b) (count_rows (length b) (length_of v p) p ++ room_rows p l) framed
          (clear_both (count_rows (length b) (length_of v p) p) (room_rows p l) counted rooms)))

-- the theorem, over the writer's own number: what it did not refuse is read back as it was, by a reader that takes the version; its editions are those that the version keeps,
-- and with them it stitches as it did with its own: by `StitchLeft` editions stand in the number alone
pub record ReadsBack (v : Version) (g : Given) (e : Editions) : Type 0 where
  pub version : number_in (record_of v g e) ≡ v.number
  pub same : stitch_in v (record_of v g e) ≡ g
  pub editions : editions_in v (record_of v g e) ≡ kept_editions v e
  pub accepted : (l : Lengths) → RoomFor g l → read_refusal v (record_of v g e) l ≡ 0
  pub stitched : (l : lent.Lengths) → stitch_refusal g (editions_in v (record_of v g e)) l ≡ stitch_refusal g e l

pub write-then-read : (n : ℕ) (v : Version) → TripOk v → (g : Given) (e : Editions) (room : ℕ) → write_refusal n v g e room ≡ 0 → Doubles g → ReadsBack v g e
unfolding write_refusal held_rows
write-then-read n v trip g e room z held =
    let all = clear-left (held_rows n v g e) (row (ltb room (length_given v g)) 9 ∷ []) (clear (write_rows n v g e room) tt z) in
    let ok = held_kept n v g e all in
    let matched = held-matched n v g e all in
    let whole = (keeps v g ok trip.form e matched.each (length_given v g) (omega arith)).long3 in
    let same = same-editions v trip g e ok matched held in
    record {
      version = version-written v trip g e ok matched held;
      same = same-stitch v trip g e ok matched held;
      editions = same;
      accepted = not-refused v trip g e ok matched held;
      stitched = λ l. ap (λ (d : Editions). stitch_refusal g d l) same ∙ base-number g (kept_editions v e) l (kept-matched v g e whole matched) ∙ sym (base-number g e l matched);
    }

-- and the number that was asked for is the version's
pub written-number : (n : ℕ) (v : Version) (g : Given) (e : Editions) (room : ℕ) → write_refusal n v g e room ≡ 0 → n ≡ v.number
unfolding write_refusal held_rows
written-number n v g e room z =
    held-version n v g e (clear-left (held_rows n v g e) (row (ltb room (length_given v g)) 9 ∷ []) (clear (write_rows n v g e room) tt z))
