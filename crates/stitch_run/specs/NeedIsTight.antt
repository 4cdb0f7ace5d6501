-- The need is tight: for every number of slices there is a stitch whose one chain really holds as many vertices as the need says.
use Prim.Native.Nat.{ℕ, zero, suc, ◌+◌, ◌*◌, ◌≤◌, ◌<◌}
use Rattle.std.specs.Prelude.{Bool, false, ◌≡◌, ltb, length, get_or, Float, Some, None}
use Rattle.std.proofs.Math.Path.{refl, sym, ap}
use Rattle.std.proofs.Common.{◌∙◌, not-suc-le-zero, le_of_suc-le-suc, mul-suc, arith, lt-ltb, length-append, get_or-append-add}
use mathlib.Core.List.{List, [], ◌∷◌, ◌++◌, Memᴰ}
use Rattle.std.proofs.Math.ListN.{get_or-append}
use Rattle.std.specs.Float.{nan}
use Rattle.basis.specs.Number.{+0}
use Rattle.basis.specs.Refuse.{by_source, count_for}
use Rattle.outline.specs.declared.point.Vertex.{Vertex}
use Rattle.outline.specs.Points.{pos_of, in_box}
use Rattle.view.specs.View.{vertex_of}
use Rattle.slice.specs.declared.data.Codes.{Codes}
use Rattle.slice.specs.declared.data.Shape.{Shape}
use Rattle.slice.specs.Slice.{code_width, shape_width, view_of, codes_at, shape_at}
use Rattle.select.specs.declared.class.Class.TheVariants.{OfOne}
use Rattle.select.specs.declared.table.Choice.TheVariants.{One, Two}
use Rattle.select.specs.Select.{class_of, preference_of, suits_of, first_that, or_else, choose, choices_of, pick_of, select_of}
use Rattle.stitch_vertices.specs.Vertices.{add_view, drop_last}
use Rattle.stitch_run.specs.Run.{Chain}
use Rattle.stitch_run.specs.Stitch.{Given, given, plan_of, add_slice, offers_to, rules_of, run_of, sum_below, weight_at, need_for, need_of}
use Rattle.stitch_run.specs.LineLaws.{InLine, whole, whole-built, alone}
use Rattle.stitch_run.specs.StitchExamples.{n2, n4, t, at, from, slices, needs}

-- ---- the family: n slices, to and fro

-- a list n times over
unfoldable pub copies : {A : Type 0} → List A → ℕ → List A
copies l zero = []
copies l (suc n) = l ++ copies l n

-- every slice is of outline 1, not inverted, and goes from segment 0 over one vertex to segment 1
abbrev pub codes : List ℕ
codes = 1 ∷ 0 ∷ 0 ∷ 1 ∷ []

-- the first from (0,0) to (2,0), each other from (2,0) to (2,0)
unfoldable pub numbers_of : ℕ → List Float
numbers_of zero = []
numbers_of (suc m) = from +0 +0 n2 +0 ++ copies (from n2 +0 n2 +0) m

-- Both outlines are (0,0) (4,0), which run to (4,0) and back. Each slice ends where the next begins, at (2,0), and none where the first does.
abbrev pub to_and_fro : ℕ → Given
to_and_fro n =
    let outline = at +0 +0 ++ at n4 +0 in
    given outline outline (copies codes n) (numbers_of n) (plan_of 2 2 n (record { pline2 = n; pline1_overlapping = n; pline2_overlapping = n }) 0 t)

-- ---- its lists

pub copies_length : {A : Type 0} (l : List A) (w n : ℕ) → length l ≡ w → length (copies l n) ≡ w * n
unfolding copies
copies_length l w zero e = omega arith
copies_length l w (suc n) e = length-append l (copies l n) ∙ omega (arith, copies_length l w n e, mul-suc w n)

copies_at : {A : Type 0} (d : A) (l : List A) (w : ℕ) → length l ≡ w → (n i k : ℕ) → i < n → k < w → get_or (copies l n) (w * i + k) d ≡ get_or l k d
unfolding copies
copies_at d l w e zero i k h j = absurd (not-suc-le-zero h)
copies_at d l w e (suc n) zero k h j =
    let q : w * 0 + k ≡ k = omega arith in
    rw q (get_or-append l (copies l n) d k (rw e j))
copies_at d l w e (suc n) (suc i) k h j =
    let q : w * suc i + k ≡ length l + (w * i + k) = omega (arith, mul-suc w i) in
    rw q (get_or-append-add l (copies l n) (w * i + k) d ∙ copies_at d l w e n i k (le_of_suc-le-suc h) j)

-- the codes of slice i
abbrev there : Codes
there = record { source = 1; inverted = 0; start = 0; offset = 1 }

pub codes_at_lem : (n i : ℕ) → i < n → codes_at (copies codes n) i ≡ there
unfolding codes_at
codes_at_lem n i h =
    let at : (a k : ℕ) → a ≡ code_width * i + k → k < code_width → get_or (copies codes n) a 0 ≡ get_or codes k 0 = λ a k e j. rw e (copies_at 0 codes code_width refl n i k h j) in
    rw (
      at (code_width * i) 0 (omega arith) (omega arith),
      at (code_width * i + 1) 1 refl (omega arith),
      at (code_width * i + 2) 2 refl (omega arith),
      at (code_width * i + 3) 3 refl (omega arith),
    )

-- the shape of a slice after the first
abbrev later : Shape
later = record { updated_start = record { x = n2; y = +0; bulge = +0 }; end_bulge = +0; end_point = record { x = n2; y = +0 } }

shape-at : (m i : ℕ) → i < m → shape_at (numbers_of (suc m)) (suc i) ≡ later
unfolding shape_at numbers_of
shape-at m i h =
    let at : (a k : ℕ) → a ≡ 6 + (6 * i + k) → k < 6 → get_or (numbers_of (suc m)) a nan ≡ get_or (from n2 +0 n2 +0) k nan =
    λ a k e j. rw e (get_or-append-add (from +0 +0 n2 +0) (copies (from n2 +0 n2 +0) m) (6 * i + k) nan ∙ copies_at nan (from n2 +0 n2 +0) 6 refl m i k h j) in
    rw (
      at (shape_width * suc i) 0 (omega arith) (omega arith),
      at (shape_width * suc i + 1) 1 (omega arith) (omega arith),
      at (shape_width * suc i + 2) 2 (omega arith) (omega arith),
      at (shape_width * suc i + 3) 3 (omega arith) (omega arith),
      at (shape_width * suc i + 4) 4 (omega arith) (omega arith),
      at (shape_width * suc i + 5) 5 (omega arith) (omega arith),
    )

-- ---- its vertices

abbrev at_zero : Vertex
at_zero = record { x = +0; y = +0; bulge = +0 }

abbrev at_two : Vertex
at_two = record { x = n2; y = +0; bulge = +0 }

abbrev at_four : Vertex
at_four = record { x = n4; y = +0; bulge = +0 }

-- what the chain has built once slice i is joined, newest first
unfoldable back : ℕ → List Vertex
back zero = at_zero ∷ []
back (suc i) = at_two ∷ at_four ∷ back i

abbrev build : ℕ → List Vertex
build i = at_two ∷ at_four ∷ back i

back-length : (i : ℕ) → length (back i) ≡ 1 + 2 * i
unfolding back
back-length zero = refl
back-length (suc i) = omega (arith, back-length i)

module _ (m : ℕ) where
  abbrev g : Given
  g = to_and_fro (suc m)

  begins : add_slice g 0 [] ≡ build 0
  unfolding slices copies numbers_of back
  begins = refl

  -- of a slice after the first everything is known
  known : {X : Type 0} (f : Codes → Shape → X) (i : ℕ) → i < m → f (codes_at g.slice_at (suc i)) (shape_at g.slice (suc i)) ≡ f there later
  known f i h = ap (λ (c : Codes). f c (shape_at g.slice (suc i))) (codes_at_lem (suc m) (suc i) (omega arith)) ∙ ap (f there) (shape-at m i h)

  -- its vertices, in a chain that drops its last
  joins : (i : ℕ) → i < m → add_slice g (suc i) (at_four ∷ back i) ≡ build (suc i)
  unfolding slices back
  joins i h = known (λ c s. add_view t (by_source g.outline1 g.outline2 c.source) (count_for 2 2 c.source) (view_of c s) (at_four ∷ back i)) i h

  -- every slice but the first begins where the chain ends
  offers : (i j : ℕ) → j < suc m → offers_to g (build i) j ≡ ltb 0 j
  unfolding slices copies numbers_of
  offers i zero h = refl
  offers i (suc j) h =
      known (λ c s. in_box t (pos_of at_two) (pos_of (vertex_of (by_source g.outline1 g.outline2 c.source) (count_for 2 2 c.source) (view_of c s) 0))) j (le_of_suc-le-suc h)
      ∙ sym (lt-ltb 0 (suc j) (omega arith))

  -- all are of outline 1, so OrAnd selects the lowest
  class-one : (k : ℕ) → k < suc m → class_of g.starts k ≡ OfOne
  unfolding class_of
  class-one k h = rw (lt-ltb k (suc m) h)

  first-none : (p : ℕ → Bool) (l : List ℕ) → ((k : ℕ) → Memᴰ k l → p k ≡ false) → first_that p l ≡ None
  unfolding first_that
  first-none p [] h = refl
  first-none p (j ∷ l) h = rw (h j (Memᴰ.head refl)) (first-none p l (λ k q. h k (Memᴰ.tail q)))

  selects : (current j : ℕ) (l : List ℕ) → current < suc m → ((k : ℕ) → Memᴰ k (j ∷ l) → k < suc m) → select_of 0 g.starts current (j ∷ l) ≡ Some j
  unfolding select_of pick_of choices_of choose preference_of suits_of or_else
  selects current j l c h =
      let two : choose g.starts Two (j ∷ l) ≡ None = first-none (λ k. suits_of Two (class_of g.starts k)) (j ∷ l) (λ k q. ap (suits_of Two) (class-one k (h k q))) in
      let one : choose g.starts One (j ∷ l) ≡ Some j = unfold first_that in rw (class-one j (h j (Memᴰ.head refl))) in
      rw (class-one current c, two, one)

  in-line : InLine (rules_of g) m build
  unfolding rules_of drop_last
  in-line = record { count = refl; begins = begins; joins = joins; offers = offers; selects = selects }

  -- ---- the need: two for each slice, and one

  sum-twos : (i : ℕ) → i ≤ suc m → sum_below (weight_at g.slice_at) i ≡ 2 * i
  unfolding needs
  sum-twos zero h = refl
  sum-twos (suc i) h = omega (arith, sum-twos i (omega arith), ap (λ (c : Codes). c.offset) (codes_at_lem (suc m) i h))

-- ---- the theorem

-- the chains of a stitch are one, and at its end this one holds as many vertices as the need says
pub record Tight (g : Given) : Type 0 where
  pub chain : Chain (List Vertex)
  pub alone : run_of g ≡ chain ∷ []
  pub holds : length chain.built ≡ need_of g.slice_at g.slices

-- So no smaller room would hold every stitch of n slices.
pub need-is-tight : (n : ℕ) → 1 ≤ n → Tight (to_and_fro n)
unfolding run_of need_of need_for
need-is-tight zero h = absurd (not-suc-le-zero h)
need-is-tight (suc m) h =
    record {
      chain = (whole (rules_of (to_and_fro (suc m))) m build (in-line m)).chain;
      alone = alone (rules_of (to_and_fro (suc m))) m build (in-line m);
      holds = ap length (whole-built (rules_of (to_and_fro (suc m))) m build (in-line m)) ∙ omega (arith, back-length m, sum-twos m (suc m) (omega arith));
    }
