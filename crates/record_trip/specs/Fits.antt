-- Values that fit their fields, by the acceptance of a stitch.
use Rattle.std.specs.Prelude.{ℕ, zero, suc, ◌+◌, ◌*◌, ◌^◌, ◌≤◌, ◌<◌, true, false, ◌≡◌, refl, List, [], ◌∷◌, ◌++◌, map, length, get_or, take, drop, Float}
use Rattle.std.proofs.Common.{ap, ◌∙◌, arith}
use Rattle.std.proofs.Math.Nat.{pow-le-pow_right}
use Rattle.std.specs.Float.{binary64}
use Rattle.std.specs.Float.Ieee.{nan_bits, of_bits, lt, le, eq}
use Rattle.basis.specs.All.{all_of}
use Rattle.basis.specs.Choice.{by-test, clash, and_left, and_right}
use Rattle.basis.specs.Number.{abs_f, within, all_within, tolerable_on}
use Rattle.stitch_run.specs.Doubles.{AllDouble}
use Rattle.fields.specs.Fields.{rows, infinity, num_of, bits_of}
use Rattle.fields.specs.FieldLaws.{Cut, cut-none, cut-one, cut-fit}
use Rattle.fields.specs.NumberLaws.{AllPlain, plain-none, plain-one, bits_below, bits-num, nan-read}
use Rattle.fields.specs.Ready.{Narrow, narrow_one, Fitted, fit_none, fit-one}
use Rattle.slice.specs.declared.data.Codes.{Codes}
use Rattle.slice.specs.Slice.{code_width, shape_width, codes_at}
use Rattle.record_form.specs.declared.form.Version.{Version}
use Rattle.record_form.specs.Form.{slice_shape, vertex_shape, column, mix}
use Rattle.record_write.specs.KeepLaws.{within-no-nan}
use Rattle.record_trip.specs.Kept.{kept_in}

pub all_plain : (l : List Float) → AllDouble l → all_within l ≡ true → AllPlain l
unfolding all_of
all_plain [] h e = plain-none
all_plain (x ∷ xs) h e =
    plain-one (record { held = h.0; number = within-no-nan x (and_left (within x) (all_of within xs) e) }) (all_plain xs h.1 (and_right (within x) (all_of within xs) e))

-- every value is below 2^64
pub data Below : List ℕ → Type 0 where
  below_none : Below []
  below_one : {v : ℕ} {vs : List ℕ} → v < 256 ^ 8 → Below vs → Below (v ∷ vs)

pub bits-all-below : {l : List Float} → AllPlain l → Below (map bits_of l)
bits-all-below plain-none = below_none
bits-all-below (plain-one {x} {xs} h r) = below_one (bits_below x h) (bits-all-below r)

pub below-append : {a b : List ℕ} → Below a → Below b → Below (a ++ b)
below-append below_none q = q
below-append (below_one h p) q = below_one h (below-append p q)

-- the vertices
pub vertices-fitted : (n : ℕ) (vs : List ℕ) → length vs ≡ 3 * n → Below vs → Fitted (rows n vertex_shape) vs
unfolding rows
vertices-fitted zero [] e b = fit_none
vertices-fitted zero (x ∷ vs) e b = absurd (omega arith)
vertices-fitted (suc n) [] e b = absurd (omega arith)
vertices-fitted (suc n) (x ∷ []) e b = absurd (omega arith)
vertices-fitted (suc n) (x ∷ y ∷ []) e b = absurd (omega arith)
vertices-fitted (suc n) (x ∷ y ∷ z ∷ vs) e (below_one p (below_one q (below_one r b))) = fit-one p (fit-one q (fit-one r (vertices-fitted n vs (omega arith) b)))

-- what is known of the codes of n slices
pub record CodesFit (c : Codes) : Type 0 where
  pub source : c.source < 256
  pub inverted : c.inverted < 256
  pub start : c.start < 65536
  pub offset : c.offset < 65536

next : (a b c d : ℕ) (at : List ℕ) (i : ℕ) → CodesFit (codes_at (a ∷ b ∷ c ∷ d ∷ at) (suc i)) → CodesFit (codes_at at i)
unfolding codes_at
next a b c d at i f =
    let e : code_width * suc i ≡ suc (suc (suc (suc (code_width * i)))) = omega arith in
    let e1 : code_width * suc i + 1 ≡ suc (suc (suc (suc (code_width * i + 1)))) = omega arith in
    let e2 : code_width * suc i + 2 ≡ suc (suc (suc (suc (code_width * i + 2)))) = omega arith in
    let e3 : code_width * suc i + 3 ≡ suc (suc (suc (suc (code_width * i + 3)))) = omega arith in
    record { source = rw e at f.source; inverted = rw e1 at f.inverted; start = rw e2 at f.start; offset = rw e3 at f.offset }

-- the slices: codes and shapes as they are, editions as the version keeps them
pub slices-cut : (v : Version) (n : ℕ) (at vs dates : List ℕ) → length at ≡ code_width * n → length vs ≡ shape_width * n → length dates ≡ n
    → ((i : ℕ) → i < n → CodesFit (codes_at at i)) → Below vs
    → Cut (rows n (slice_shape v)) (mix code_width shape_width n at vs dates) (mix code_width shape_width n at vs (map (kept_in v) dates))
unfolding rows mix codes_at
slices-cut v zero at vs dates h k l f b = cut-none
slices-cut v (suc n) [] vs dates h k l f b = absurd (omega arith)
slices-cut v (suc n) (a1 ∷ []) vs dates h k l f b = absurd (omega arith)
slices-cut v (suc n) (a1 ∷ a2 ∷ []) vs dates h k l f b = absurd (omega arith)
slices-cut v (suc n) (a1 ∷ a2 ∷ a3 ∷ []) vs dates h k l f b = absurd (omega arith)
slices-cut v (suc n) (a1 ∷ a2 ∷ a3 ∷ a4 ∷ at) [] dates h k l f b = absurd (omega arith)
slices-cut v (suc n) (a1 ∷ a2 ∷ a3 ∷ a4 ∷ at) (x1 ∷ []) dates h k l f b = absurd (omega arith)
slices-cut v (suc n) (a1 ∷ a2 ∷ a3 ∷ a4 ∷ at) (x1 ∷ x2 ∷ []) dates h k l f b = absurd (omega arith)
slices-cut v (suc n) (a1 ∷ a2 ∷ a3 ∷ a4 ∷ at) (x1 ∷ x2 ∷ x3 ∷ []) dates h k l f b = absurd (omega arith)
slices-cut v (suc n) (a1 ∷ a2 ∷ a3 ∷ a4 ∷ at) (x1 ∷ x2 ∷ x3 ∷ x4 ∷ []) dates h k l f b = absurd (omega arith)
slices-cut v (suc n) (a1 ∷ a2 ∷ a3 ∷ a4 ∷ at) (x1 ∷ x2 ∷ x3 ∷ x4 ∷ x5 ∷ []) dates h k l f b = absurd (omega arith)
slices-cut v (suc n) (a1 ∷ a2 ∷ a3 ∷ a4 ∷ at) (x1 ∷ x2 ∷ x3 ∷ x4 ∷ x5 ∷ x6 ∷ vs) [] h k l f b = absurd (omega arith)
slices-cut v (suc n) (a1 ∷ a2 ∷ a3 ∷ a4 ∷ at) (x1 ∷ x2 ∷ x3 ∷ x4 ∷ x5 ∷ x6 ∷ vs) (d ∷ dates) h k l f
    (below_one b1 (below_one b2 (below_one b3 (below_one b4 (below_one b5 (below_one b6 b)))))) =
    let g = f 0 (omega arith) in
    let rest : (i : ℕ) → i < n → CodesFit (codes_at at i) = λ i l. next a1 a2 a3 a4 at i (f (suc i) (omega arith)) in
    cut-fit g.source
    (cut-fit g.inverted
    (cut-fit g.start
    (cut-fit g.offset
    (cut-fit b1
    (cut-fit b2
    (cut-fit b3 (cut-fit b4 (cut-fit b5 (cut-fit b6 (cut-one refl (slices-cut v n at vs dates (omega arith) (omega arith) (omega arith) rest b)))))))))))

-- ---- the other way: values that were read from fields of at most 8 bytes
pub fitted-below : {ws vs : List ℕ} → Fitted ws vs → Narrow ws → Below vs
fitted-below fit_none n = below_none
fitted-below (fit-one {w} {v} h r) (narrow_one k n) =
    let p : 256 ^ w ≤ 256 ^ 8 = pow-le-pow_right (omega arith) k in
    let q : v < 256 ^ 8 = omega (arith, h, p) in
    below_one q (fitted-below r n)

pub below_at : {vs : List ℕ} (i : ℕ) → Below vs → get_or vs i 0 < 256 ^ 8
below_at i below_none = omega arith
below_at zero (below_one h b) = h
below_at (suc i) (below_one h b) = below_at i b

pub below-take : (n : ℕ) {vs : List ℕ} → Below vs → Below (take n vs)
below-take zero b = below_none
below-take (suc n) below_none = below_none
below-take (suc n) (below_one h b) = below_one h (below-take n b)

pub below-drop : (n : ℕ) {vs : List ℕ} → Below vs → Below (drop n vs)
below-drop zero b = b
below-drop (suc n) below_none = below_none
below-drop (suc n) (below_one h b) = below-drop n b

pub below-column : (stride offset per n : ℕ) {vs : List ℕ} → Below vs → Below (column stride offset per n vs)
unfolding column
below-column stride offset per zero b = below_none
below-column stride offset per (suc n) b = below-append (below-take per (below-drop offset b)) (below-column stride offset per n (below-drop stride b))

-- ---- a pattern that is read as a number in range, or as a tolerance, is no NaN's
infinity-out : within infinity ≡ false
unfolding within abs_f of_bits le lt eq
infinity-out = refl

infinity-no-tolerance : tolerable_on infinity ≡ false
unfolding tolerable_on of_bits le lt eq
infinity-no-tolerance = refl

pub number-back : (w : ℕ) → w < 256 ^ 8 → within (num_of w) ≡ true → bits_of (num_of w) ≡ w
number-back w h e = by-test (nan_bits binary64 w) (λ t. clash (within (num_of w)) e (ap within (nan-read w t) ∙ infinity-out)) (λ f. bits-num w h f)

pub tolerance-back : (w : ℕ) → w < 256 ^ 8 → tolerable_on (num_of w) ≡ true → bits_of (num_of w) ≡ w
tolerance-back w h e = by-test (nan_bits binary64 w) (λ t. clash (tolerable_on (num_of w)) e (ap tolerable_on (nan-read w t) ∙ infinity-no-tolerance)) (λ f. bits-num w h f)

pub numbers-kept : {vs : List ℕ} → Below vs → all_within (map num_of vs) ≡ true → map bits_of (map num_of vs) ≡ vs
unfolding all_of
numbers-kept below_none e = refl
numbers-kept (below_one {v} {vs} h b) e =
    rw (number-back v h (and_left (within (num_of v)) (all_of within (map num_of vs)) e), numbers-kept b (and_right (within (num_of v)) (all_of within (map num_of vs)) e))
