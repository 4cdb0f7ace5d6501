-- Laws by which the inside answers are written.
use Rattle.std.specs.Prelude.{◌≡◌, ℕ, zero, suc, negsuc, not, eqb, ◌+◌, ◌*◌, ◌<◌, Bool, ◌||◌, List, [], ◌∷◌, length, ℤ, pos, ◌+ℤ◌, FitsSigned, int_lt, slice_index, refl, Float, true, false}
use Rattle.std.proofs.Math.Path.{sym, ap}
use Rattle.std.proofs.lemmas.Bool.{eqb-false}
use Rattle.std.proofs.Common.{subst, eqb-true, lt-ltb, ◌∙◌, arith, to_z, of_z, to_z-of_z}
use Rattle.std.specs.Int.{w64}
use mir.Val.{bool_byte}
use Rattle.basis.specs.Choice.{code_of, by-test}
use Rattle.basis.specs.Items.{first_items}
use Rattle.basis.specs.ItemLaws.{items-length}
use Rattle.outline.specs.declared.point.Vertex.{Vertex}
use Rattle.outline.specs.Outline.{vertex_at}
use Rattle.whole.specs.Fit.{Near}
use Rattle.whole.specs.FitLaws.{abs-add, fit, as-near}
use Rattle.straight.specs.Plane.{spots, winding}
use Rattle.straight.specs.Ready.{Probed}
use Rattle.straight_cut.specs.Microdegrees.{value_of}
use Rattle.straight_cut.specs.MicrodegreesLaws.{value-near}
use Rattle.straight_cut.specs.SplitsLaws.{items_at}
use Rattle.straight_cut.specs.Inside.{inside_code, inside_of, inside_at, insides_of, InsideFit}

-- ---- the code of a winding number, which the machine compares with 0 by its bits
some_code : (w : ℤ) → (w ≡ pos 0 → ⊥) → 1 ≡ inside_code w
unfolding inside_code
some_code (pos zero) h = absurd (h refl)
some_code (pos (suc n)) h = sym (ap (λ (b : Bool). code_of (b || int_lt (pos (suc n)) (pos 0))) (lt-ltb 0 (suc n) (omega arith)))
some_code (negsuc n) h = refl

pub code-is : (w : ℤ) (n : ℕ) → FitsSigned w64 w → n ≡ bool_byte (not (eqb (of_z w64 w) 0)) → n ≡ inside_code w
unfolding inside_code
code-is w n f e =
    by-test (eqb (of_z w64 w) 0)
    (λ t. let z : w ≡ pos 0 = sym (to_z-of_z f) ∙ ap (to_z w64) (eqb-true (of_z w64 w) 0 t) in
    e ∙ ap (λ (b : Bool). bool_byte (not b)) t ∙ sym (ap inside_code z))
    (λ t. e ∙ ap (λ (b : Bool). bool_byte (not b)) t ∙ some_code w (λ z. eqb-false (of_z w64 w) 0 t (ap (of_z w64) z)))

-- ---- the doubled midpoint is in the range of K8's probes
pub mid-near : (a b : Float) → Near 800000000 (value_of a +ℤ value_of b)
mid-near a b = record { near = omega (arith, abs-add (value_of a) (value_of b), (value-near a).near, (value-near b).near) }

mid-fit : (a b : Float) → FitsSigned w64 (value_of a +ℤ value_of b)
mid-fit a b = fit (mid-near a b) tt

-- of operands that are read back as r and s
pub mid-fits : (a b : Float) {r s : ℤ} → r ≡ value_of a → s ≡ value_of b → FitsSigned w64 (r +ℤ s)
mid-fits a b e f = subst (FitsSigned w64) (sym (λ i. e i +ℤ f i)) (mid-fit a b)

pub mid-read : (a b : Float) {r s : ℤ} → r ≡ value_of a → s ≡ value_of b → to_z w64 (of_z w64 (r +ℤ s)) ≡ value_of a +ℤ value_of b
mid-read a b e f = to_z-of_z (mid-fits a b e f) ∙ (λ i. e i +ℤ f i)

-- the answer, from the doubled midpoint
module _ (other : List ℤ) (vc : ℕ) (a b : Vertex) (x y : ℤ) (p : x ≡ value_of a.x +ℤ value_of b.x) (q : y ≡ value_of a.y +ℤ value_of b.y) where
  pub probed : InsideFit other vc a b → Probed other vc x y
  probed f = record { outline = f.outline; x-ok = as-near p (mid-near a.x b.x); y-ok = as-near q (mid-near a.y b.y) }

  pub inside_is : (w r : ℤ) (n : ℕ) → w ≡ winding (spots other) (record { x = x; y = y }) → r ≡ w → n ≡ inside_code r → n ≡ inside_of other a b
  unfolding inside_of
  inside_is w r n h z m = m ∙ ap inside_code (z ∙ h ∙ (λ i. winding (spots other) (record { x = p i; y = q i })))

-- ---- the answers of a list
pub insides-length : (other : List ℤ) (probe : List Float) (count : ℕ) → length (insides_of other probe count) ≡ count
unfolding insides_of
insides-length other probe count = items-length (λ j. inside_at other probe j ∷ []) 1 (λ n. refl) count ∙ omega arith

pub insides-at : (other : List ℤ) (probe : List Float) (count k : ℕ) → k < count → slice_index (insides_of other probe count) k ≡ inside_of other (vertex_at probe (2 * k)) (vertex_at probe (2 * k + 1))
unfolding insides_of inside_at inside_of
insides-at other probe count k h =
    let e : k ≡ 1 * k + 0 = omega arith in
    ap (λ (i : ℕ). slice_index (first_items (λ j. inside_at other probe j ∷ []) count) i) e ∙ items_at (λ j. inside_at other probe j ∷ []) 1 (λ n. refl) 0 count k 0 h (omega arith)

-- ---- the code of a winding number, which is read back as v
module _ (w v : ℤ) (same : v ≡ w) (a : Bool) (above : a ≡ int_lt (pos 0) v) where
  up : (t : Bool) → a ≡ t → int_lt (pos 0) w ≡ t
  up t y = ap (int_lt (pos 0)) (sym same) ∙ sym above ∙ y

  pub code-above : a ≡ true → 1 ≡ inside_code w
  unfolding inside_code
  code-above y = sym (λ i. code_of (up true y i || int_lt w (pos 0)))

  module _ (b : Bool) (below : b ≡ int_lt v (pos 0)) where
    down : (t : Bool) → b ≡ t → int_lt w (pos 0) ≡ t
    down t y = ap (λ (z : ℤ). int_lt z (pos 0)) (sym same) ∙ sym below ∙ y

    pub code_below : a ≡ false → b ≡ true → 1 ≡ inside_code w
    unfolding inside_code
    code_below n y = sym (λ i. code_of (up false n i || down true y i))

    pub code-none : a ≡ false → b ≡ false → 0 ≡ inside_code w
    unfolding inside_code
    code-none n y = sym (λ i. code_of (up false n i || down false y i))
