-- What the functions of a head are proved by.
use Prim.Native.Nat.{ℕ, ◌+◌, ◌*◌, ◌^◌, ◌≤◌, ◌<◌}
use mathlib.Core.Path.{◌≡◌, ap, ◌∙◌}
use mathlib.Core.List.{List, append-nil}
use native.Mathlib.Omega.{arith}
use native.Mathlib.Nat.{mul-le-mul, pow-le-pow_right}
use lib.ListN.{length, get_or, drop}
use lib.Seq.{drop-length, get_or-drop, sets}
use Rattle.basis.specs.declared.number.Tolerance.{Tolerance}
use Rattle.basis.specs.Number.{tolerance_of}
use Rattle.basis.specs.StoreLaws.{sets-front}
use Rattle.fields.specs.Fields.{size, value_of, unpack, num_of}
use Rattle.fields.specs.FieldLaws.{length-unpack, fitted-at}
use Rattle.fields.specs.Ready.{Fitted, ShapeAt, ShapeRead}
use Rattle.stitch_run.specs.declared.plan.Plan.{Plan}
use Rattle.stitch_run.specs.Stitch.{plan_of}
use Rattle.record_form.specs.declared.form.Version.{Version}
use Rattle.record_form.specs.Form.{head_shape, slice_shape}
use Rattle.record.specs.Record.{head_of, second_in, head_at, head_in, number_in, length_of}
use Rattle.record.specs.Ready.{ByteOr, HeadFit, HeadRead, Sized}
use Rattle.record_form.specs.Ready.{FormOk}
use Rattle.record.specs.RecordLaws.{head-narrow, head-size, slice-size}

-- ---- the version
pub number_of : (b : List ℕ) (x y : ℕ) → ByteOr b 3 x → ByteOr b 4 y → x + 256 * y ≡ number_in b
unfolding value_of
number_of b x y p q =
    let low : get_or (drop 3 b) 0 0 ≡ get_or b 3 0 = get_or-drop 3 b 0 0 in
    let high : get_or (drop 1 (drop 3 b)) 0 0 ≡ get_or b 4 0 = get_or-drop 1 (drop 3 b) 0 0 ∙ get_or-drop 3 b 1 0 in
    omega (arith, low, high, p.value, q.value)

-- ---- the plan
pub plan-said : (v : Version) (f : List ℕ) (t : Tolerance) → t ≡ tolerance_of (num_of (get_or f 7 0)) (num_of (second_in v.second (get_or f 7 0) (get_or f 8 0)))
    → plan_of (get_or f 4 0) (get_or f 5 0) (get_or f 14 0)
    (record { pline2 = get_or f 11 0; pline1_overlapping = get_or f 12 0; pline2_overlapping = get_or f 13 0 })
    (get_or f 6 0) t ≡ (head_at v f).plan
plan-said v f t e =
    ap
    (plan_of (get_or f 4 0) (get_or f 5 0) (get_or f 14 0)
    (record { pline2 = get_or f 11 0; pline1_overlapping = get_or f 12 0; pline2_overlapping = get_or f 13 0 })
    (get_or f 6 0)) e

-- ---- the length as the counts say
pub slices-small : {v : Version} {p : Plan} → Sized v p → {stride : ℕ} → stride ≡ size (slice_shape v) → p.slices * stride ≤ 8388608
slices-small {v} {p} s {stride} e =
    let few : p.slices ≤ 65536 = omega (arith, s.counts.third) in
    let wide : stride ≤ 128 = omega (arith, e, slice-size v, s.form.edition) in
    mul-le-mul few wide

pub head_small : {v : Version} → FormOk v → {bytes : ℕ} → bytes ≡ size (head_shape v) → bytes ≤ 64
head_small {v} ok e = omega (arith, e, head-size v, ok.second, ok.edition)

pub length-told : (v : Version) (p : Plan) (head stride : ℕ) → head ≡ size (head_shape v) → stride ≡ size (slice_shape v)
    → head + (p.vc1 * 24 + (p.vc2 * 24 + p.slices * stride)) ≡ length_of v p
unfolding length_of
length-told v p head stride e f = rw (e, f)

-- ---- the head's numbers
pub head-fits : {v : Version} {b : List ℕ} → HeadFit v b → {ws : List ℕ} → ws ≡ head_shape v → {n : ℕ} → n ≡ 15 → ShapeAt (length b) 0 ws n 0
head-fits {v} h w e = rw w (record { narrow = head-narrow v h.form; inside = omega (arith, h.inside); target = omega arith })

module _ {v : Version} {b : List ℕ} (h : HeadFit v b) {ws z f : List ℕ} (w : ws ≡ head_shape v) (many : length z ≡ 15) (a : ShapeRead b 0 ws z f 0) where
  values-long : length (unpack (head_shape v) b) ≡ 15
  values-long = length-unpack (head_shape v) b

  pub values-all : f ≡ unpack (head_shape v) b
  values-all =
      let vs = unpack (head_shape v) b in
      let k : length vs ≡ length z = omega (arith, values-long, many) in
      a.values ∙ ap (λ (s : List ℕ). sets z 0 (unpack s b)) w ∙ sets-front z vs (omega (arith, k)) ∙ rw (k, drop-length z) (append-nil vs)

  all-fitted : Fitted (head_shape v) f
  all-fitted = rw values-all (rw w at a.fitted)

  pub selector-fits : get_or f 6 0 < 256
  selector-fits = fitted-at 6 all-fitted (omega arith)

  edition-small : (x : ℕ) → x < 256 ^ v.edition → x < 2 ^ 32
  edition-small x k =
      let p : 256 ^ v.edition ≤ 256 ^ 4 = pow-le-pow_right (omega arith) h.form.edition in
      omega (arith, k, p)

  pub edition1-fits : get_or f 9 0 < 2 ^ 32
  edition1-fits = edition-small (get_or f 9 0) (fitted-at 9 all-fitted (omega arith))

  pub edition2-fits : get_or f 10 0 < 2 ^ 32
  edition2-fits = edition-small (get_or f 10 0) (fitted-at 10 all-fitted (omega arith))

  pub head_read_lem : (p : Plan) → p ≡ (head_at v f).plan → HeadRead v b (head_of p (get_or f 9 0) (get_or f 10 0))
  unfolding head_in
  head_read_lem p e =
      let n1 : get_or f 4 0 < 65536 = fitted-at 4 all-fitted (omega arith) in
      let n2 : get_or f 5 0 < 65536 = fitted-at 5 all-fitted (omega arith) in
      let n3 : get_or f 14 0 < 65536 = fitted-at 14 all-fitted (omega arith) in
      record {
        head = ap (λ (q : Plan). head_of q (get_or f 9 0) (get_or f 10 0)) e ∙ ap (head_at v) values-all;
        counts = rw e (record { first = n1; second = n2; third = n3 });
      }
