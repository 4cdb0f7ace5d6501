-- What the writer is proved by.
use Prim.Native.Nat.{ℕ, ◌+◌, ◌-◌, ◌*◌, ◌≤◌, ◌<◌}
use mathlib.Core.Bool.{true, false, not, ◌&&◌}
use mathlib.Core.Path.{◌≡◌, refl, sym, ap, ◌∙◌}
use mathlib.Core.List.{List, [], ◌∷◌, ◌++◌}
use native.Mathlib.Omega.{arith}
use borrow.Author.Tests.{lt-ltb, le-ltb, eq-eqb, ne_eqb}
use lib.Dec.{ltb, eqb}
use lib.ListN.{length, take, drop}
use lib.Seq.{take_at, sets}
use Rattle.basis.specs.declared.answer.CountAnswer.{CountAnswer}
use Rattle.basis.specs.declared.number.Tolerance.{Tolerance}
use Rattle.basis.specs.Answers.{count_refused, counted}
use Rattle.basis.specs.Choice.{and_left, and_right}
use Rattle.basis.specs.Number.{tolerable_on, tolerable}
use Rattle.basis.specs.StoreLaws.{sets-front}
use Rattle.basis.specs.Refuse.{Row, row, first_of, first_from}
use Rattle.basis.specs.RefuseLaws.{Clear, clear, clear-right, clear-from, stop-rows, go-rows, length-ok, answer-no, answer-yes, first_found, first-later}
use Rattle.fields.specs.Fields.{size, pack, rows, bits_of}
use Rattle.fields.specs.Ready.{Number}
use Rattle.slice.specs.Slice.{code_width}
use Rattle.slice.specs.Ready.{EditionsThere}
use Rattle.slice.specs.Editions.{Editions, editions, edition_list_rows, edition_rows}
use Rattle.stitch_run.specs.Stitch.{Given}
use Rattle.record_form.specs.declared.form.Version.{Version}
use Rattle.record.specs.declared.head.Head.{Head}
use Rattle.record_form.specs.Form.{form_for, head_shape, slice_shape, vertex_shape, entry_width, body_of}
use Rattle.record.specs.Ready.{Sized}
use Rattle.record_form.specs.Ready.{FormOk}
use Rattle.record.specs.Record.{lists_in, plan_in, head_given, head_values, length_of, values_of, packed, record_of}
use Rattle.record.specs.RecordLaws.{form-ok, sets-room}
use Rattle.record_write.specs.Writer.{axes_fault, keep_rows, handed_rows, held_rows, length_given, write_refusal, WriteForm, WriteLeft}
use Rattle.record_write.specs.Ready.{PackFit, Packs, Keeps}
use Rattle.record_write.specs.KeepLaws.{held_kept, held-matched, lists-clear, tolerable-no-nan, keeps-in, keeps, values-long, record-long}

module _ (v : Version) (g : Given) (e : Editions) {m : ℕ} (k : Keeps v g e m) where
  abbrev values : List ℕ
  values = values_of (lists_in g e) g.slices

  abbrev count : ℕ
  count = 3 * g.vc1 + 3 * g.vc2 + g.slices * entry_width

  -- the values stand in front of the list that they were put in
  values-part : (vs vs' : List ℕ) → length vs ≡ 1024 → vs' ≡ sets vs 0 values → take (count - 0) vs' ≡ values
  values-part vs vs' l f =
      let z : count - 0 ≡ length values = omega (arith, values-long v g e k) in
      let fits : length values ≤ length vs = omega (arith, values-long v g e k, k.few.few1, k.few.few2, k.few.few3, l) in
      ap (take (count - 0)) (f ∙ sets-front vs values fits) ∙ take_at values (drop (length values) vs) _ (sym z)

  module _ (vs vs' : List ℕ) (l : length vs ≡ 1024) (f : vs' ≡ sets vs 0 values) where
    pub kept-packs : Packs v (head_given g e) (length (take (count - 0) vs')) m
    kept-packs =
        record {
          form = k.form;
          few = k.few;
          tolerance = k.tolerance;
          all = ap length (values-part vs vs' l f) ∙ values-long v g e k ∙ omega arith;
          room = k.room;
        }

    pub kept-written : (b b' : List ℕ) → b' ≡ sets b 0 (packed v (head_given g e) (take (count - 0) vs')) → b' ≡ sets b 0 (record_of v g e)
    unfolding record_of
    kept-written b b' q = q ∙ ap (λ (x : List ℕ). sets b 0 (packed v (head_given g e) x)) (values-part vs vs' l f)

-- ---- the tables of a version, as the code has them
module _ {v : Version} {h : Head} {vs m : ℕ} (k : Packs v h vs m) {head hs es : List ℕ} (p : hs ≡ head_shape v) (q : es ≡ slice_shape v) (f : head ≡ head_values v.number h) where
  pub pack-fits : {start stride : ℕ} → start ≡ size (head_shape v) → stride ≡ size (slice_shape v)
      → PackFit start stride hs (length head) es vs (h.plan.vc1 + h.plan.vc2) h.plan.slices m
  unfolding length_of
  pack-fits a b = rw (p, q, a, b) (record { heads = ap length f; bytes = refl; strides = refl; all = k.all; room = omega (arith, k.room) })

  pub packed-as : (values b b' : List ℕ)
      → b' ≡ sets b 0 (pack hs head ++ pack (rows (h.plan.vc1 + h.plan.vc2) vertex_shape ++ rows h.plan.slices es) values) → b' ≡ sets b 0 (packed v h values)
  unfolding body_of
  packed-as values b b' e = rw (p, q, f) at e

-- ---- two tolerances that differ
module _ (v : Version) (t : Tolerance) where
  pub each-its-own : (v.second ≡ 0 → ⊥) → false ≡ axes_fault v t
  unfolding axes_fault
  each-its-own h = rw (ne_eqb v.second 0 h)

  module _ (one : v.second ≡ 0) where
    pub out_of_range : tolerable t ≡ false → true ≡ axes_fault v t
    unfolding axes_fault
    out_of_range f = rw (eq-eqb v.second 0 one, f)

    pub patterns : tolerable t ≡ true → (m n : ℕ) → m ≡ bits_of t.x → n ≡ bits_of t.y → not (eqb m n) ≡ axes_fault v t
    unfolding axes_fault
    patterns y m n p q = rw (eq-eqb v.second 0 one, y, p, q)

module _ (t : Tolerance) (y : tolerable t ≡ true) where
  both : tolerable_on t.x && tolerable_on t.y ≡ true
  unfolding tolerable
  both = y

  pub x-number : Number t.x
  x-number = record { number = tolerable-no-nan t.x (and_left (tolerable_on t.x) (tolerable_on t.y) both) }

  pub y-number : Number t.y
  y-number = record { number = tolerable-no-nan t.y (and_right (tolerable_on t.x) (tolerable_on t.y) both) }

pub ruleset axes = (each-its-own, out_of_range, x-number, y-number, patterns)

-- ---- 12, 1 to 8, then 14
module _ (n : ℕ) (v : Version) (g : Given) (e : Editions) (r : ℕ) (found : r ≡ first_from 0 (handed_rows n v g (editions 0 0 e.slices))) where
  pub handed-found : (r ≡ 0 → ⊥) → r ≡ first_of (held_rows n v g e)
  unfolding held_rows
  handed-found h = stop-rows (handed_rows n v g (editions 0 0 e.slices)) (edition_rows e g.slice_at) r tt found h

  pub edition-found : (q : ℕ) → r ≡ 0 → q ≡ first_from 0 (edition_rows e g.slice_at) → q ≡ first_of (held_rows n v g e)
  unfolding held_rows
  edition-found q z f = go-rows (handed_rows n v g (editions 0 0 e.slices)) (edition_rows e g.slice_at) r q tt tt found z f

  -- there is an edition for each slice
  pub each-there : r ≡ 0 → EditionsThere g.slice_at e.slices
  each-there z =
      let ok = clear-from (handed_rows n v g (editions 0 0 e.slices)) r tt found z in
      let lists = lists-clear v g (clear-right (edition_list_rows (length e.slices) g.slices) (keep_rows v g) ok.1) in
      record { each = omega (arith, length-ok code_width (length g.slice_at) g.slices lists.1.1.0, length-ok 1 (length e.slices) g.slices ok.1.0) }

-- ---- the refusal
module _ (n : ℕ) (v : Version) (g : Given) (e : Editions) (m : ℕ) {r : ℕ} (told : r ≡ first_of (held_rows n v g e)) where
  abbrev last : List Row
  last = row (ltb m (length_given v g)) 9 ∷ []

  pub keep-fault : (r ≡ 0 → ⊥) → r ≡ write_refusal n v g e m
  unfolding write_refusal
  keep-fault h = told ∙ sym (first_found (held_rows n v g e) last (λ z. h (told ∙ z)))

  module _ (z : r ≡ 0) where
    held : Clear (held_rows n v g e)
    unfolding held_rows
    held = clear (held_rows n v g e) tt (sym told ∙ z)

    pub kept : Clear (keep_rows v g)
    kept = held_kept n v g e held

    -- so the length can be worked out
    pub kept-sized : FormOk v → Sized v (plan_in g)
    kept-sized form =
        let few = keeps-in v g kept in
        record {
          form = form;
          counts = record { first = omega (arith, few.few1); second = omega (arith, few.few2); third = omega (arith, few.few3) };
        }

    module _ {k : ℕ} (q : k ≡ length_given v g) where
      pub room-fault : m < k → 9 ≡ write_refusal n v g e m
      unfolding write_refusal first_of
      room-fault h = sym (first-later (held_rows n v g e) last held ∙ rw (lt-ltb m (length_given v g) (omega arith)))

      pub no-fault : k ≤ m → 0 ≡ write_refusal n v g e m
      unfolding write_refusal first_of
      no-fault h = sym (first-later (held_rows n v g e) last held ∙ rw (le-ltb m (length_given v g) (omega arith)))

      pub kept-all : FormOk v → k ≤ m → Keeps v g e m
      kept-all form h = keeps v g kept form e (held-matched n v g e held).each m (omega arith)

-- ---- the two ways out
pub write-refused : (n : ℕ) (v : Version) (g : Given) (e : Editions) (b : List ℕ) (k : ℕ) (r : CountAnswer) → k ≡ write_refusal n v g e (length b) → (k ≡ 0 → ⊥) → r ≡ count_refused k
    → WriteForm n v g e b r b
write-refused n v g e b k r is h q = record { answers = answer-no count_refused k _ _ r is h q; written = answer-no (λ _. b) k _ _ b is h refl }

pub write-given : (n : ℕ) (v : Version) (g : Given) (e : Editions) (b b' : List ℕ) (k : ℕ) (r : CountAnswer) → 0 ≡ write_refusal n v g e (length b) → Keeps v g e (length b)
    → k ≡ length_given v g → b' ≡ sets b 0 (record_of v g e) → r ≡ counted k → WriteForm n v g e b r b'
write-given n v g e b b' k r is h l q f =
    let one : length (record_of v g e) ≡ 1 * length_given v g = omega (arith, record-long v g e h) in
    record {
      answers = answer-yes count_refused 0 _ _ r is refl (f ∙ ap counted l);
      written = answer-yes (λ _. b) 0 _ _ b' is refl (q ∙ sets-room 0 1 (length_given v g) b (record_of v g e) one (omega (arith, h.room)));
    }

-- the table of the version that is asked for
pub table-ok : (n : ℕ) (v : Version) → v ≡ form_for n → FormOk v
table-ok n v e = rw e (form-ok n)

pub write-asked : {n : ℕ} {v : Version} {g : Given} {e : Editions} {b b' : List ℕ} {r : CountAnswer} → v ≡ form_for n → WriteForm n v g e b r b' → WriteLeft n g e b r b'
write-asked f w = rw f at w
