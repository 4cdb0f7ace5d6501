-- What the absence of every refusal says of a stitch: it can be written, and how long its record is.
use Rattle.std.specs.Prelude.{ℕ, ◌+◌, ◌*◌, ◌≤◌, true, not, ◌&&◌, ◌≡◌, T, get_or, Float}
use Rattle.std.proofs.lemmas.Bool.{false≢true}
use Rattle.std.proofs.Common.{◌∙◌, arith}
use mathlib.Core.List.{List, ◌++◌, map}
use borrow.Author.Tests.{ltb-false, eq-eqb, eqb-true, not-false}
use Rattle.std.proofs.Math.ListN.{length, length-append, length-map}
use Rattle.std.specs.Float.{nan, inf, fin}
use Rattle.std.specs.Float.Ieee.{of_bits, is_nan, lt, le}
use Rattle.basis.specs.All.{all-at}
use Rattle.basis.specs.Choice.{and_left, and_right}
use Rattle.basis.specs.Number.{abs_f, within, all_within, tolerable_on, tolerable}
use Rattle.basis.specs.Refuse.{Row}
use Rattle.basis.specs.RefuseLaws.{Clear, clear-left, clear-right, length-ok}
use Rattle.fields.specs.Fields.{size, pack, bits_of}
use Rattle.fields.specs.FieldLaws.{length-pack}
use Rattle.fields.specs.Ready.{NoNan}
use Rattle.slice.specs.Slice.{code_width, shape_width}
use Rattle.slice.specs.Editions.{Editions, edition_list_rows, edition_rows}
use Rattle.stitch_run.specs.Stitch.{Given}
use Rattle.stitch_faults.specs.StitchTable.{list_part, code_part, number_part, index_part}
use Rattle.stitch_faults.specs.Matching.{Matched}
use Rattle.record_form.specs.declared.form.Version.{Version}
use Rattle.record_form.specs.Form.{head_shape, slice_shape, taken_vertices, taken_slices, entry_width, body_of, mix}
use Rattle.record_form.specs.Ready.{FormOk}
use Rattle.record.specs.Record.{lists_in, plan_in, length_of, taken_rows, head_values, head_given, values_of, record_of}
use Rattle.record.specs.RecordLaws.{length-body, size-body}
use Rattle.record_write.specs.Writer.{axes_fault, axes_rows, keep_rows, handed_rows, held_rows, length_given}
use Rattle.record_write.specs.Ready.{KeepsIn, Keeps}
use Rattle.record_values.specs.ValueLaws.{length-mix}

-- a number in range, and a tolerance, is no NaN
pub within-no-nan : (x : Float) → within x ≡ true → T (not (is_nan x))
unfolding is_nan
within-no-nan nan e = absurd (false≢true (unfold within abs_f le lt in e))
within-no-nan (inf s) e = tt
within-no-nan (fin s m k) e = tt

pub tolerable-no-nan : (t : Float) → tolerable_on t ≡ true → T (not (is_nan t))
unfolding is_nan of_bits
tolerable-no-nan nan e = absurd (false≢true (unfold tolerable_on lt in e))
tolerable-no-nan (inf s) e = tt
tolerable-no-nan (fin s m k) e = tt

pub no-nans : (s : List Float) → all_within s ≡ true → NoNan s
no-nans s e i h = within-no-nan (get_or s i nan) (all-at within s i nan e h)

-- what the writer did not refuse: the version is known, 1 to 8 do not apply, and the editions match
module _ (n : ℕ) (v : Version) (g : Given) (e : Editions) (ok : Clear (held_rows n v g e)) where
  handed-clear : Clear (handed_rows n v g e)
  unfolding held_rows
  handed-clear = clear-left (handed_rows n v g e) (edition_rows e g.slice_at) ok

  pub held-version : n ≡ v.number
  held-version = eqb-true n v.number (not-false _ handed-clear.0)

  pub held_kept : Clear (keep_rows v g)
  held_kept = clear-right (edition_list_rows (length e.slices) g.slices) (keep_rows v g) handed-clear.1

  pub held-matched : Matched g e
  unfolding held_rows
  held-matched =
      record {
        each = let h = length-ok 1 (length e.slices) g.slices handed-clear.1.0 in omega (arith, h);
        same = (clear-right (handed_rows n v g e) (edition_rows e g.slice_at) ok).0;
      }

-- the parts of the table
module _ (v : Version) (g : Given) (ok : Clear (keep_rows v g)) where
  abbrev taken : List Row
  taken = taken_rows (plan_in g)

  abbrev axes : List Row
  axes = axes_rows v g.tolerance

  abbrev after : List Row
  after = code_part g ++ (axes ++ (number_part g ++ index_part g))

  pub lists-clear : Clear (list_part g)
  lists-clear = clear-left (list_part g) (taken ++ after) ok

  after-lists : Clear (taken ++ after)
  after-lists = clear-right (list_part g) (taken ++ after) ok

  pub taken-clear : Clear taken
  taken-clear = clear-left taken after after-lists

  after-taken : Clear after
  after-taken = clear-right taken after after-lists

  pub codes-clear : Clear (code_part g)
  codes-clear = clear-left (code_part g) (axes ++ (number_part g ++ index_part g)) after-taken

  after-codes : Clear (axes ++ (number_part g ++ index_part g))
  after-codes = clear-right (code_part g) (axes ++ (number_part g ++ index_part g)) after-taken

  pub axes-clear : Clear axes
  axes-clear = clear-left axes (number_part g ++ index_part g) after-codes

  after-axes : Clear (number_part g ++ index_part g)
  after-axes = clear-right axes (number_part g ++ index_part g) after-codes

  pub numbers-clear : Clear (number_part g)
  numbers-clear = clear-left (number_part g) (index_part g) after-axes

  pub indexes-clear : Clear (index_part g)
  indexes-clear = clear-right (number_part g) (index_part g) after-axes

  -- each axis has a tolerance in range, and where the version has one tolerance both have the same pattern
  both-tolerable : tolerable_on g.tolerance.x && tolerable_on g.tolerance.y ≡ true
  unfolding tolerable
  both-tolerable = not-false (tolerable g.tolerance) numbers-clear.0

  pub x-tolerable : tolerable_on g.tolerance.x ≡ true
  x-tolerable = and_left (tolerable_on g.tolerance.x) (tolerable_on g.tolerance.y) both-tolerable

  pub y-tolerable : tolerable_on g.tolerance.y ≡ true
  y-tolerable = and_right (tolerable_on g.tolerance.x) (tolerable_on g.tolerance.y) both-tolerable

  pub one-pattern : v.second ≡ 0 → bits_of g.tolerance.x ≡ bits_of g.tolerance.y
  unfolding axes_fault
  one-pattern h = eqb-true _ _ (and_right (tolerable g.tolerance) _ (not-false _ (rw (eq-eqb v.second 0 h) at axes-clear.0)))

  pub keeps-in : KeepsIn (plan_in g)
  keeps-in =
      record {
        few1 = ltb-false taken_vertices g.vc1 taken-clear.1.0;
        few2 = ltb-false taken_vertices g.vc2 taken-clear.1.1.0;
        few3 = ltb-false taken_slices g.slices taken-clear.0;
      }

  pub keeps : FormOk v → (e : Editions) → length e.slices ≡ g.slices → (m : ℕ) → length_given v g ≤ m → Keeps v g e m
  keeps form e each m h =
      record {
        form = form;
        few = keeps-in;
        long1 = length-ok 3 (length g.outline1) g.vc1 lists-clear.0;
        long2 = length-ok 3 (length g.outline2) g.vc2 lists-clear.1.0;
        long3 = length-ok code_width (length g.slice_at) g.slices lists-clear.1.1.0;
        long4 = length-ok shape_width (length g.slice) g.slices lists-clear.1.1.1.0;
        long5 = each;
        tolerance =
            record {
              x = record { number = tolerable-no-nan g.tolerance.x x-tolerable };
              y = record { number = tolerable-no-nan g.tolerance.y y-tolerable };
            };
        plain1 = no-nans g.outline1 (not-false (all_within g.outline1) numbers-clear.1.0);
        plain2 = no-nans g.outline2 (not-false (all_within g.outline2) numbers-clear.1.1.0);
        plain3 = no-nans g.slice (not-false (all_within g.slice) numbers-clear.1.1.1.0);
        room = h;
      }

-- ---- how long the values and the record are
module _ (v : Version) (g : Given) (e : Editions) {m : ℕ} (k : Keeps v g e m) where
  pub values-long : length (values_of (lists_in g e) g.slices) ≡ 3 * g.vc1 + 3 * g.vc2 + g.slices * entry_width
  unfolding values_of
  values-long =
      let a = map bits_of g.outline1 in
      let b = map bits_of g.outline2 in
      let s = map bits_of g.slice in
      let c = mix code_width shape_width g.slices g.slice_at s e.slices in
      let la : length a ≡ 3 * g.vc1 = length-map g.outline1 bits_of ∙ k.long1 in
      let lb : length b ≡ 3 * g.vc2 = length-map g.outline2 bits_of ∙ k.long2 in
      let ls : length s ≡ shape_width * g.slices = length-map g.slice bits_of ∙ k.long4 in
      let lc : length c ≡ g.slices * entry_width =
      length-mix code_width shape_width g.slices g.slice_at s e.slices (omega (arith, k.long3)) (omega arith) (omega (arith, k.long5)) in
      length-append a (b ++ c) ∙ omega (arith, la, lb, lc, length-append b c)

  pub record-long : length (record_of v g e) ≡ length_given v g
  unfolding record_of length_of
  record-long =
      let values = values_of (lists_in g e) g.slices in
      let head = head_values v.number (head_given g e) in
      let body = body_of v (g.vc1 + g.vc2) g.slices in
      let a = pack (head_shape v) head in
      let b = pack body values in
      let la : length a ≡ size (head_shape v) = length-pack (head_shape v) head (omega arith) in
      let w : length body ≤ length values = omega (arith, length-body v (g.vc1 + g.vc2) g.slices, values-long) in
      let lb : length b ≡ (g.vc1 + g.vc2) * 24 + g.slices * size (slice_shape v) = length-pack body values w ∙ size-body v (g.vc1 + g.vc2) g.slices in
      length-append a b ∙ omega (arith, la, lb)
