-- Document 02, K14, theorems about readers, whatever the bytes and the lent lists are: the number that a reader gives is the first that applies; the old reader answers 12 to version 2
-- and shows nothing of it; a record of version 1 reads as equal tolerances and edition 0.
use Rattle.std.specs.Prelude.{ℕ, zero, suc, ◌+◌, ◌*◌, ◌≤◌, ◌<◌, true, ◌≡◌, refl, List, [], ◌∷◌, ◌++◌, Float, length, take, replicate}
use Rattle.std.proofs.Math.Path.{ap}
use Rattle.std.proofs.Common.{◌∙◌, suc-mul, drop-cons}
use native.Mathlib.Omega.{arith}
use Rattle.std.proofs.Math.ListN.{get_or, drop, length-drop}
use Rattle.std.proofs.Math.Seq.{get_or-drop}
use Rattle.basis.specs.Refuse.{first_of, answer}
use Rattle.basis.specs.Refusals.{found}
use Rattle.basis.specs.RefusalOrder.{refusal_order, before, First}
use Rattle.basis.specs.RefusalOrderLaws.{first-of}
use Rattle.fields.specs.Fields.{size, unpack}
use Rattle.fields.specs.FieldLaws.{unpack-none}
use Rattle.record_form.specs.declared.form.Version.{Version}
use Rattle.record.specs.declared.head.Head.{Head}
use Rattle.record.specs.declared.head.Lengths.{Lengths}
use Rattle.std.specs.Prelude.{Result}
use Rattle.basis.specs.declared.refuse.Refusal.{Refusal}
use Rattle.record.specs.declared.head.Seen.{Seen}
use Rattle.record_form.specs.Form.{form_for, head_shape, common_width, entry_width, body_of, column}
use Rattle.record.specs.Record.{Lists, lists, head_in, plan_held, second_in, body_in, slices_from, dates_from, lists_held, mark_ok, number_in, read_rows, read_refusal, lengths_of, OldRead}
use Rattle.record.specs.RecordLaws.{date-width, length-values}

-- ---- by any table: the number that a reader gives applies, and none before it in the order of refusals does
pub read_first : (v : Version) (b : List ℕ) (l : Lengths) → First (read_rows v b l) (read_refusal v b l)
unfolding read_rows before refusal_order
read_first v b l = first-of (read_rows v b l) tt

-- ---- "The old reader answers 12 to version 2 and shows nothing of it"
lists-same : {x y : Lists} → x.outline1 ≡ y.outline1 → x.outline2 ≡ y.outline2 → x.slice_at ≡ y.slice_at → x.slice ≡ y.slice → x.slice_edition ≡ y.slice_edition → x ≡ y
lists-same {x} {y} a b c d e =
    ap (λ (o : List Float). lists o x.outline2 x.slice_at x.slice x.slice_edition) a
    ∙ ap (λ (o : List Float). lists y.outline1 o x.slice_at x.slice x.slice_edition) b
    ∙ ap (λ (o : List ℕ). lists y.outline1 y.outline2 o x.slice x.slice_edition) c
    ∙ ap (λ (o : List Float). lists y.outline1 y.outline2 y.slice_at o x.slice_edition) d
    ∙ ap (λ (o : List ℕ). lists y.outline1 y.outline2 y.slice_at y.slice o) e

module _ (b : List ℕ) (marked : mark_ok b ≡ true) (version2 : number_in b ≡ 2) where
  old-number : (l : Lengths) → read_refusal (form_for 1) b l ≡ 12
  unfolding read_rows first_of form_for
  old-number l = rw (marked, version2)

  pub old-reader : (l : Lists) (r : Result Seen Refusal) (left : Lists) → OldRead b l r left → (found r ≡ 12) × (left ≡ l)
  unfolding answer
  old-reader l r left w =
      let n = old-number (lengths_of l) in (
        w.answers ∙ n,
        lists-same (rw n at w.first) (rw n at w.second) (rw n at w.codes) (rw n at w.shapes) (rw n at w.dates),
      )

-- ---- "a version 1 record reads as equal tolerances and edition 0": so does one of any version that has no field for them
pub record NoEditions (h : Head) (dates : List ℕ) : Type 0 where
  pub tolerances : h.plan.tolerance.x ≡ h.plan.tolerance.y
  pub first : h.edition1 ≡ 0
  pub second : h.edition2 ≡ 0
  pub slices : dates ≡ replicate h.plan.slices 0

-- a column of zeros
column-zero : (stride offset n : ℕ) (vs : List ℕ) → offset < stride → n * stride ≤ length vs → ((i : ℕ) → i < n → get_or vs (i * stride + offset) 0 ≡ 0)
    → column stride offset 1 n vs ≡ replicate n 0
unfolding column
column-zero stride offset zero vs h k z = refl
column-zero stride offset (suc n) vs h k z =
    let e : suc n * stride ≡ n * stride + stride = suc-mul n stride in
    let q : 0 * stride + offset ≡ offset = omega arith in
    let a : get_or vs offset 0 ≡ 0 = rw q at (z 0 (omega arith)) in
    let d : take 1 (drop offset vs) ≡ 0 ∷ [] = ap (take 1) (drop-cons vs offset 0 (omega arith)) ∙ ap (λ (x : ℕ). x ∷ []) a in
    let r : column stride offset 1 n (drop stride vs) ≡ replicate n 0 =
    column-zero stride offset n (drop stride vs) h (rw length-drop (omega arith))
    (λ i j.
    let s : stride + (i * stride + offset) ≡ suc i * stride + offset = omega (arith, suc-mul i stride) in
    get_or-drop stride vs (i * stride + offset) 0 ∙ ap (λ (k : ℕ). get_or vs k 0) s ∙ z (suc i) (omega arith)) in
    ap (λ (x : List ℕ). x ++ column stride offset 1 n (drop stride vs)) d ∙ ap (λ (x : List ℕ). 0 ∷ x) r

module _ (v : Version) (alike : v.second ≡ 0) (undated : v.edition ≡ 0) (b : List ℕ) where
  dates-zero : (lists_held v b).slice_edition ≡ replicate (plan_held v b).slices 0
  unfolding lists_held dates_from body_in
  dates-zero =
      let p = plan_held v b in
      let k = p.vc1 + p.vc2 in
      let n = p.slices in
      let body = body_of v k n in
      let rest = drop (size (head_shape v)) b in
      let whole = length-values v p b in
      column-zero entry_width common_width n (drop (slices_from p) (unpack body rest)) (omega arith) (rw length-drop (omega (arith, whole)))
      (λ i h.
      let s : slices_from p + (i * entry_width + common_width) ≡ k * 3 + (i * entry_width + common_width) = omega arith in
      get_or-drop (slices_from p) (unpack body rest) (i * entry_width + common_width) 0 ∙ ap (λ (j : ℕ). get_or (unpack body rest) j 0) s
      ∙ unpack-none body rest (k * 3 + (i * entry_width + common_width)) (date-width v k n i h ∙ undated))

  pub no-editions : NoEditions (head_in v b) (lists_held v b).slice_edition
  unfolding head_in second_in
  no-editions =
      record {
        tolerances = rw alike;
        first = unpack-none (head_shape v) b 9 undated;
        second = unpack-none (head_shape v) b 10 undated;
        slices = dates-zero;
      }

pub version1-reads : (b : List ℕ) → NoEditions (head_in (form_for 1) b) (lists_held (form_for 1) b).slice_edition
unfolding form_for
version1-reads b = no-editions (form_for 1) refl refl b
