-- Slices of one group that begin at one point: a query meets both or neither. +0 and -0 are one number, and a NaN is none.
use Prim.Native.Nat.{ℕ, ◌*◌}
use mathlib.Core.Bool.{Bool, true, false, ◌||◌, beq}
use mathlib.Core.List.{List}
use mathlib.Core.Path.{◌≡◌, refl, sym, ◌∙◌}
use lib.Dec.{eqb}
use lib.Ieee.{Float, nan, inf, fin, up, down, level, lt, eq, le}
use borrow.Author.Tests.{eqb-true, eq-eqb}
use Rattle.basis.specs.Choice.{by-test, clash, and_left, and_right}
use Rattle.basis.specs.OrderLaws.{le_trans}
use Rattle.stitch_layout.specs.declared.layout.Layout.{Layout}
use Rattle.stitch_layout.specs.PuttingLaws.{before-alone}
use Rattle.stitch_layout.specs.Slices.{x_of, y_of, group_of, meets_of, same_start, Alike}

level-sym : (s t : Bool) (a b : ℕ) → level s a t b ≡ true → level t b s a ≡ true
level-sym s t a b h =
    let e = eqb-true a b (and_left (eqb a b) _ h) in
    let r = and_right (eqb a b) _ h in
    rw (sym e, eq-eqb a a refl) (signs s t (eqb a 0) r)
  where
    signs : (s t z : Bool) → (beq s t || z) ≡ true → (beq t s || z) ≡ true
    signs true true z r = refl
    signs true false z r = r
    signs false true z r = r
    signs false false z r = refl

eq-sym : (x y : Float) → eq x y ≡ true → eq y x ≡ true
unfolding eq
eq-sym nan y h = clash false h refl
eq-sym (inf s) nan h = clash false h refl
eq-sym (inf true) (inf true) h = refl
eq-sym (inf true) (inf false) h = clash false h refl
eq-sym (inf false) (inf true) h = clash false h refl
eq-sym (inf false) (inf false) h = refl
eq-sym (inf s) (fin t n d) h = clash false h refl
eq-sym (fin s m e) nan h = clash false h refl
eq-sym (fin s m e) (inf t) h = clash false h refl
eq-sym (fin s m e) (fin t n d) h = level-sym s t (m * up e * down d) (n * up d * down e) h

eq-le : (x y : Float) → eq x y ≡ true → le x y ≡ true
unfolding le
eq-le x y h = rw h (or-true (lt x y))
  where
    or-true : (b : Bool) → (b || true) ≡ true
    or-true true = refl
    or-true false = refl

both_ways : (a b : Bool) → (a ≡ true → b ≡ true) → (b ≡ true → a ≡ true) → a ≡ b
both_ways a b f g = by-test a (λ h. h ∙ sym (f h)) (λ h. by-test b (λ k. clash a (g k) h) (λ k. h ∙ sym k))

module _ (x y : Float) (h : eq x y ≡ true) where
  -- no comparison sees a difference between equal numbers
  le_same : (a : Float) → le a x ≡ le a y
  le_same a = both_ways (le a x) (le a y) (λ l. le_trans a x y l (eq-le x y h)) (λ l. le_trans a y x l (eq-le y x (eq-sym x y h)))

  same-le : (a : Float) → le x a ≡ le y a
  same-le a = both_ways (le x a) (le y a) (λ l. le_trans y x a (eq-le y x (eq-sym x y h)) l) (λ l. le_trans x y a (eq-le x y h) l)

pub alike_of : (points : List Float) (w : Layout) (i j : ℕ) → same_start points i j ≡ true → group_of w i ≡ group_of w j → Alike points w i j
unfolding meets_of
alike_of points w i j h g q =
    let x = and_left (eq (x_of points i) (x_of points j)) _ h in
    let y = and_right (eq (x_of points i) (x_of points j)) _ h in
    rw (le_same (x_of points i) (x_of points j) x q.left, same-le (x_of points i) (x_of points j) x q.right, le_same (y_of points i) (y_of points j) y q.bottom, same-le (y_of points i) (y_of points j) y q.top, g)

-- a run that ends with the slice where it begins: for each way in which `last_of_run` says so
pub ruleset run_ends = (before-alone)
