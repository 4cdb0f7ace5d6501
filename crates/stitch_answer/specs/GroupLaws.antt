-- The lowest of each group, and the lowest of all.
use Rattle.std.specs.Prelude.{ℕ, zero, suc, ◌≤◌, ◌<◌, Bool, true, false, not, cond, ◌&&◌, ◌≡◌, eqb, ltb, Option, Some, None}
use Rattle.std.proofs.Common.{arith, true≢false, sym, ◌∙◌}
use mathlib.Core.List.{List, [], ◌∷◌, ◌++◌, append-nil}
use Rattle.std.proofs.Math.Path.{refl}
use borrow.Author.Tests.{ltb-true, ltb-false, eqb-true, eqb-false, ne_eqb}
use Rattle.basis.specs.Sizes.{most_slices}
use Rattle.stitch_run.specs.Run.{passing}
use Rattle.basis.specs.Choice.{by-test, clash, and_left, and_right}
use Rattle.select.specs.Select.{no_number, first_that, or_else}
use Rattle.select.specs.SelectLaws.{first_more}
use Rattle.stitch_layout.specs.declared.layout.Layout.{Layout}
use Rattle.stitch_layout.specs.Slices.{group_of}
use Rattle.stitch_links.specs.Looks.{lowest_of}
use Rattle.stitch_links.specs.BlockLaws.{lowest-at, lowest-found}
use Rattle.stitch_answer.specs.Answer.{has_any, in_group}

-- ---- the first of a list, and the lowest number
abbrev pub selected_of : ℕ → Option ℕ
selected_of r = cond (eqb r no_number) None (Some r)

pub first-lowest : (p q : ℕ → Bool) (n : ℕ) → n ≤ most_slices → first_that q (passing p n) ≡ selected_of (lowest_of (λ j. p j && q j) n)
unfolding passing lowest_of
first-lowest p q zero m = unfold first_that in refl
first-lowest p q (suc n) m = go (first-lowest p q n (omega arith)) (ne_eqb n no_number (λ e. omega arith))
  where
    go : first_that q (passing p n) ≡ selected_of (lowest_of (λ j. p j && q j) n) → eqb n no_number ≡ false
        → first_that q (passing p n ++ cond (p n) (n ∷ []) []) ≡ selected_of (cond (eqb (lowest_of (λ j. p j && q j) n) no_number) (cond (p n && q n) n no_number) (lowest_of (λ j. p j && q j) n))
    go h k =
        by-test (p n)
        (λ e. rw (e, first_more q (passing p n) n, h) (by-test (eqb (lowest_of (λ j. p j && q j) n) no_number)
        (λ f. unfold or_else in by-test (q n) (λ g. rw (f, g, k)) (λ g. rw (f, g)))
        (λ f. unfold or_else in rw (f, f))))
        (λ e. rw (e, append-nil (passing p n), h) (by-test (eqb (lowest_of (λ j. p j && q j) n) no_number) (λ f. rw f) (λ f. rw (f, f))))

any_snoc : (l : List ℕ) (j : ℕ) → has_any (l ++ (j ∷ [])) ≡ true
any_snoc [] j = refl
any_snoc (i ∷ l) j = refl

pub any-lowest : (p : ℕ → Bool) (n : ℕ) → n ≤ most_slices → has_any (passing p n) ≡ not (eqb (lowest_of p n) no_number)
unfolding passing lowest_of
any-lowest p zero m = refl
any-lowest p (suc n) m = go (any-lowest p n (omega arith)) (ne_eqb n no_number (λ e. omega arith))
  where
    go : has_any (passing p n) ≡ not (eqb (lowest_of p n) no_number) → eqb n no_number ≡ false
        → has_any (passing p n ++ cond (p n) (n ∷ []) []) ≡ not (eqb (cond (eqb (lowest_of p n) no_number) (cond (p n) n no_number) (lowest_of p n)) no_number)
    go h k =
        by-test (p n)
        (λ e. rw (e, any_snoc (passing p n) n) (by-test (eqb (lowest_of p n) no_number) (λ f. rw (f, k)) (λ f. rw (f, f))))
        (λ e. rw (e, append-nil (passing p n), h) (by-test (eqb (lowest_of p n) no_number) (λ f. rw f) (λ f. rw (f, f))))

pub lowest-same : (p q : ℕ → Bool) (n : ℕ) → ((j : ℕ) → j < n → p j ≡ q j) → lowest_of p n ≡ lowest_of q n
unfolding lowest_of
lowest-same p q zero h = refl
lowest-same p q (suc n) h = rw (lowest-same p q n (λ j l. h j (omega arith)), h n (omega arith))

-- ---- the three groups
module _ (p : ℕ → Bool) (w : Layout) (n : ℕ) (few : n ≤ most_slices) where
  abbrev H : ℕ → ℕ → Bool
  H = in_group p w

  abbrev pub X : ℕ → ℕ
  X g = lowest_of (H g) n

  none_of : (g : ℕ) → eqb (X g) no_number ≡ true → (j : ℕ) → j < n → H g j ≡ false
  none_of g e j l = (lowest-found (H g) n few).passed j l (omega (arith, eqb-true (X g) no_number e)) tt

  pub some_of : (g : ℕ) → eqb (X g) no_number ≡ false → (X g < n) × (H g (X g) ≡ true)
  some_of g e = let t = lowest-found (H g) n few in let z = eqb-false (X g) no_number e in t.found (omega (arith, t.most))

  before : (g j : ℕ) → j < n → j < X g → H g j ≡ false
  before g j l k = (lowest-found (H g) n few).passed j l k tt

  out : (a : Bool) → (a && true) ≡ false → a ≡ false
  out true e = e
  out false e = e

  -- slice j does not pass, where it does not in its group
  alone : (j : ℕ) → (j < w.two → H 0 j ≡ false) → (w.two ≤ j → j < w.over → H 1 j ≡ false) → (w.two ≤ j → w.over ≤ j → H 2 j ≡ false) → p j ≡ false
  unfolding group_of
  alone j a b c =
      by-test (ltb j w.two) (λ e. out (p j) (let h = a (ltb-true j w.two e) in rw e at h))
      (λ e. by-test (ltb j w.over) (λ f. out (p j) (let h = b (ltb-false j w.two e) (ltb-true j w.over f) in rw (e, f) at h))
      (λ f. out (p j) (let h = c (ltb-false j w.two e) (ltb-false j w.over f) in rw (e, f) at h)))

  -- where the slices of a group end
  of-0 : (j : ℕ) → H 0 j ≡ true → j < w.two
  unfolding group_of
  of-0 j h =
      by-test (ltb j w.two) (λ e. ltb-true j w.two e)
      (λ e. let g = and_right (p j) _ h in by-test (ltb j w.over) (λ f. absurd (true≢false (sym (rw (e, f) at g)))) (λ f. absurd (true≢false (sym (rw (e, f) at g)))))

  of-1 : (j : ℕ) → H 1 j ≡ true → j < w.over
  unfolding group_of
  of-1 j h =
      by-test (ltb j w.two) (λ e. let g = and_right (p j) _ h in absurd (true≢false (sym (rw e at g))))
      (λ e. let g = and_right (p j) _ h in by-test (ltb j w.over) (λ f. ltb-true j w.over f) (λ f. absurd (true≢false (sym (rw (e, f) at g)))))

  -- neither of 1 nor of 2: the lowest is the lowest overlap
  pub rest : eqb (X 0) no_number ≡ true → eqb (X 1) no_number ≡ true → lowest_of p n ≡ X 2
  rest a b = lowest-same p (H 2) n λ j l. by-test (H 2 j) (λ e. and_left (p j) _ e ∙ sym e) (λ e. alone j (λ k. none_of 0 a j l) (λ k m. none_of 1 b j l) (λ k m. e) ∙ sym e)

  -- none of one outline: the lowest is the other's, where it has any, since overlaps lie behind
  pub only-0 : eqb (X 1) no_number ≡ true → eqb (X 0) no_number ≡ false → lowest_of p n ≡ X 0
  only-0 b a =
      let s = some_of 0 a in
      let z = of-0 (X 0) s.1 in
      lowest-at p n (X 0) few s.0 (and_left (p (X 0)) _ s.1)
      (λ j l. let y = s.0 in alone j (λ k. before 0 j (omega arith) l) (λ k m. none_of 1 b j (omega arith)) (λ k m. absurd (omega arith)))

  pub only-1 : eqb (X 0) no_number ≡ true → eqb (X 1) no_number ≡ false → lowest_of p n ≡ X 1
  only-1 a b =
      let s = some_of 1 b in
      let z = of-1 (X 1) s.1 in
      lowest-at p n (X 1) few s.0 (and_left (p (X 1)) _ s.1)
      (λ j l. let y = s.0 in alone j (λ k. none_of 0 a j (omega arith)) (λ k m. before 1 j (omega arith) l) (λ k m. absurd (omega arith)))

  -- where a slice of a group passes, some slice passes
  pub some-any : (g : ℕ) → eqb (X g) no_number ≡ false → eqb (lowest_of p n) no_number ≡ false
  some-any g a =
      let s = some_of g a in
      by-test (eqb (lowest_of p n) no_number)
      (λ e. clash (p (X g)) (and_left (p (X g)) _ s.1) ((lowest-found p n few).passed (X g) s.0 (omega (arith, eqb-true (lowest_of p n) no_number e, s.0)) tt))
      (λ e. e)
