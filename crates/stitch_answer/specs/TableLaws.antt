-- The order of groups is the table of preferences.
use Prim.Native.Nat.{ℕ, zero, suc, ◌-◌, ◌≤◌, ◌<◌}
use Rattle.std.proofs.Common.{arith, ◌∙◌}
use Rattle.std.specs.Prelude.{Bool, not, cond, ◌&&◌, ◌≡◌, ltb, Option, None}
use Rattle.std.specs.Bool.{then_some}
use Rattle.std.proofs.Math.Bool.{true, false, and-false}
use Rattle.std.proofs.Math.Path.{refl, sym, ap}
use Rattle.std.proofs.Math.Dec.{eqb}
use Rattle.basis.specs.Sizes.{most_slices}
use Rattle.stitch_run.specs.Run.{passing}
use Rattle.basis.specs.Choice.{by-test, and-true}
use Rattle.select.specs.declared.class.Starts.{Starts}
use Rattle.select.specs.declared.class.Class.{Class}
use Rattle.select.specs.declared.class.Class.TheVariants.{OfOne, OfTwo, OverlapOfOne, OverlapOfTwo}
use Rattle.select.specs.declared.table.Choice.{Choice}
use Rattle.select.specs.declared.table.Choice.TheVariants.{One, Two, Any, Nothing}
use Rattle.select.specs.Select.{no_number, class_of, preference_of, suits_of, or_else, choose, choices_of, pick_of, select_of}
use Rattle.stitch_layout.specs.declared.layout.Layout.{Layout}
use Rattle.stitch_layout.specs.Slices.{group_of}
use Rattle.stitch_links.specs.Looks.{lowest_of}
use Rattle.stitch_links.specs.BlockLaws.{lowest-none}
use Rattle.stitch_answer.specs.Answer.{answer_of, group_first, refused_of, in_order, in_group, Classed}
use Rattle.stitch_answer.specs.GroupLaws.{selected_of, first-lowest, any-lowest, lowest-same, rest, only-0, only-1, some-any}

-- ---- three rows of choices, over numbers: a and b the lowest of the preferred outline and of the other, o of the overlaps, y of all
module _ (a b o y : ℕ) (none : eqb a no_number ≡ true → eqb b no_number ≡ true → y ≡ o) (other : eqb a no_number ≡ true → eqb b no_number ≡ false → y ≡ b) (some : eqb a no_number ≡ false → eqb y no_number ≡ false) where
  abbrev picked_of : Option ℕ → Option ℕ → Option (Option ℕ)
  picked_of u v = then_some (not (eqb y no_number)) (or_else (selected_of a) (or_else u v))

  -- the preferred, the other, any
  pub row_any : picked_of (selected_of b) (selected_of y) ≡ in_order false a b o
  unfolding or_else in_order
  row_any =
      by-test (eqb a no_number)
      (λ e. by-test (eqb b no_number) (λ f. rw (none e f, e, f) (by-test (eqb o no_number) (λ g. rw g) (λ g. rw g))) (λ f. rw (other e f, e, f)))
      (λ e. rw (some e, e))

  -- the preferred, any
  pub row-two : picked_of (selected_of y) (selected_of y) ≡ in_order false a b o
  unfolding or_else in_order
  row-two =
      by-test (eqb a no_number)
      (λ e. by-test (eqb b no_number) (λ f. rw (none e f, e, f) (by-test (eqb o no_number) (λ g. rw g) (λ g. rw g))) (λ f. rw (other e f, e, f)))
      (λ e. rw (some e, e))

  -- the preferred, the other, none
  pub row-none : picked_of (selected_of b) None ≡ in_order true a b o
  unfolding or_else in_order
  row-none =
      by-test (eqb a no_number)
      (λ e. by-test (eqb b no_number) (λ f. rw (none e f, e, f) (by-test (eqb o no_number) (λ g. rw g) (λ g. rw g))) (λ f. rw (other e f, e, f)))
      (λ e. rw (some e, e))

module _ (p : ℕ → Bool) (w : Layout) (s : Starts) (n : ℕ) (few : n ≤ most_slices) (k : Classed w s) where
  abbrev X : ℕ → ℕ
  X g = lowest_of (in_group p w g) n

  -- ---- a choice is a group
  suits-1 : (j : ℕ) → suits_of One (class_of s j) ≡ eqb (group_of w j) 0
  unfolding suits_of class_of group_of
  suits-1 j = rw (k.two, k.over) (go (ltb j s.pline2) (ltb j s.pline1_overlapping) (ltb j s.pline2_overlapping))
    where
      go : (a b c : Bool) → suits_of One (cond a OfOne (cond b OfTwo (cond c OverlapOfOne OverlapOfTwo))) ≡ eqb (cond a 0 (cond b 1 2)) 0
      go true b c = refl
      go false true c = refl
      go false false true = refl
      go false false false = refl

  suits-2 : (j : ℕ) → suits_of Two (class_of s j) ≡ eqb (group_of w j) 1
  unfolding suits_of class_of group_of
  suits-2 j = rw (k.two, k.over) (go (ltb j s.pline2) (ltb j s.pline1_overlapping) (ltb j s.pline2_overlapping))
    where
      go : (a b c : Bool) → suits_of Two (cond a OfOne (cond b OfTwo (cond c OverlapOfOne OverlapOfTwo))) ≡ eqb (cond a 0 (cond b 1 2)) 1
      go true b c = refl
      go false true c = refl
      go false false true = refl
      go false false false = refl

  by_number : (choice : Choice) (r : ℕ) → lowest_of (λ j. p j && suits_of choice (class_of s j)) n ≡ r → choose s choice (passing p n) ≡ selected_of r
  unfolding choose
  by_number choice r e = first-lowest p (λ j. suits_of choice (class_of s j)) n few ∙ ap selected_of e

  choose-1 : choose s One (passing p n) ≡ selected_of (X 0)
  choose-1 = by_number One (X 0) (lowest-same _ (in_group p w 0) n (λ j l. ap (λ (b : Bool). p j && b) (suits-1 j)))

  choose-2 : choose s Two (passing p n) ≡ selected_of (X 1)
  choose-2 = by_number Two (X 1) (lowest-same _ (in_group p w 1) n (λ j l. ap (λ (b : Bool). p j && b) (suits-2 j)))

  choose-any : choose s Any (passing p n) ≡ selected_of (lowest_of p n)
  unfolding suits_of
  choose-any = by_number Any (lowest_of p n) (lowest-same _ p n (λ j l. and-true (p j)))

  choose-none : choose s Nothing (passing p n) ≡ None
  unfolding suits_of
  choose-none = by_number Nothing no_number (lowest-none _ n (λ j l. and-false (p j)))

  -- ---- the table's eight rows
  table : (selector : ℕ) (class : Class) → selector < 2
      → then_some (not (eqb (lowest_of p n) no_number)) (or_else (choose s (preference_of selector class 0) (passing p n)) (or_else (choose s (preference_of selector class 1) (passing p n)) (choose s (preference_of selector class 2) (passing p n))))
      ≡ in_order (refused_of selector class) (X (group_first class)) (X (1 - group_first class)) (X 2)
  unfolding preference_of
  table zero OfOne h = rw (choose-2, choose-1, choose-any) (row_any (X 1) (X 0) (X 2) (lowest_of p n) (λ a b. rest p w n few b a) (only-0 p w n few) (some-any p w n few 1))
  table zero OfTwo h = rw (choose-1, choose-2, choose-any) (row_any (X 0) (X 1) (X 2) (lowest_of p n) (rest p w n few) (only-1 p w n few) (some-any p w n few 0))
  table zero OverlapOfOne h = rw (choose-2, choose-1, choose-any) (row_any (X 1) (X 0) (X 2) (lowest_of p n) (λ a b. rest p w n few b a) (only-0 p w n few) (some-any p w n few 1))
  table zero OverlapOfTwo h = rw (choose-1, choose-2, choose-any) (row_any (X 0) (X 1) (X 2) (lowest_of p n) (rest p w n few) (only-1 p w n few) (some-any p w n few 0))
  table (suc zero) OfOne h = rw (choose-2, choose-any) (row-two (X 1) (X 0) (X 2) (lowest_of p n) (λ a b. rest p w n few b a) (only-0 p w n few) (some-any p w n few 1))
  table (suc zero) OfTwo h = rw (choose-1, choose-any) (row-two (X 0) (X 1) (X 2) (lowest_of p n) (rest p w n few) (only-1 p w n few) (some-any p w n few 0))
  table (suc zero) OverlapOfOne h = rw (choose-2, choose-1, choose-none) (row-none (X 1) (X 0) (X 2) (lowest_of p n) (λ a b. rest p w n few b a) (only-0 p w n few) (some-any p w n few 1))
  table (suc zero) OverlapOfTwo h = rw (choose-1, choose-2, choose-none) (row-none (X 0) (X 1) (X 2) (lowest_of p n) (rest p w n few) (only-1 p w n few) (some-any p w n few 0))
  table (suc (suc t)) class h = absurd (omega arith)

  pub order_is : (selector current : ℕ) (class : Class) → selector < 2 → class ≡ class_of s current
      → answer_of selector s current (passing p n) ≡ in_order (refused_of selector class) (X (group_first class)) (X (1 - group_first class)) (X 2)
  unfolding answer_of select_of pick_of choices_of
  order_is selector current class h e = rw (any-lowest p n few, sym e) (table selector class h)
