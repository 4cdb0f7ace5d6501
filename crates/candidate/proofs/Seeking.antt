-- Laws of the search for the next segment that has a cut: how far it is to a segment, and which it is, since the cuts go by segment.
use Prim.Native.Nat.{ℕ, zero, suc, ◌+◌, ◌-◌, ◌*◌, ◌≤◌, ◌<◌}
use mathlib.Core.Bool.{Bool, true, false}
use mathlib.Core.Path.{◌≡◌, refl, sym, ap, ◌∙◌}
use mathlib.Core.List.{List}
use native.Mathlib.Nat.{add_assoc, mod-add-mod}
use native.Mathlib.Omega.{arith}
use lib.Dec.{ltb, eqb}
use borrow.Author.Tests.{ltb-true, ltb-false, lt-ltb, le-ltb, eqb-true, eqb-false, eq-eqb, ne_eqb}
use Rattle.basis.specs.Choice.{by-test}
use Rattle.outline.specs.Outline.{wrap}
use Rattle.outline.specs.OutlineLaws.{wrap-lt, wrap-same, wrap-less}
use Rattle.candidate.specs.Candidates.{segment_at, same_next, first_from, first_cut, has_cut, traverse_from, traverse_of}
use Rattle.candidate.specs.Steps.{Among, next_place, NextPlace, segments_on, Segments, LastCut, NextCut}
use Rattle.candidate.specs.SearchLaws.{first-here, first-later, traverse-hit, traverse-miss}

-- ---- by cases: a segment is further on or round the end, an index is below the count or wraps
on-cases : {P : Type 0} (vc s to : ℕ) → (s < to → segments_on vc s to ≡ to - s → P) → (to ≤ s → segments_on vc s to ≡ vc + to - s → P) → P
unfolding segments_on
on-cases vc s to f g = by-test (ltb s to) (λ e. f (ltb-true s to e) (rw e)) (λ e. g (ltb-false s to e) (rw e))

wrap-cases : {P : Type 0} (vc i : ℕ) → i < 2 * vc → (i < vc → wrap vc i ≡ i → P) → (vc ≤ i → wrap vc i ≡ i - vc → P) → P
wrap-cases vc i h f g =
    by-test (ltb i vc) (λ e. let l = ltb-true i vc e in f l (wrap-same vc i l)) (λ e. let l = ltb-false i vc e in g l (wrap-less vc i l h))

-- the index after a wrapped one
wrap-next : (vc s k j i : ℕ) → i ≡ wrap vc (s + k) → j ≡ wrap vc (i + 1) → j ≡ wrap vc (s + (k + 1))
unfolding wrap
wrap-next vc s k j i e f = f ∙ rw (e, mod-add-mod (s + k) vc 1, add_assoc s k 1)

-- ---- the loop: it has come to the count k at the segment i, and not past the one that it seeks
pub record Seeking (vc s to k i : ℕ) : Type 0 where
  pub least : 1 ≤ k
  pub short : k ≤ segments_on vc s to
  pub most : k ≤ vc
  pub here : i ≡ wrap vc (s + k)
  pub inside : i < vc

module _ (vc s to : ℕ) (given : Segments vc s to) where
  on-least : 1 ≤ segments_on vc s to
  on-least = on-cases vc s to (λ l e. omega arith) (λ l e. omega arith)

  on-most : segments_on vc s to ≤ vc
  on-most = on-cases vc s to (λ l e. omega arith) (λ l e. omega arith)

  on-there : wrap vc (s + segments_on vc s to) ≡ to
  on-there =
      wrap-cases vc (s + segments_on vc s to) (omega (arith, on-most)) (λ h w. w ∙ on-cases vc s to (λ l e. omega arith) (λ l e. omega arith))
      (λ h w. w ∙ on-cases vc s to (λ l e. omega arith) (λ l e. omega arith))

  pub seek-start : (i : ℕ) → i ≡ wrap vc (s + 1) → Seeking vc s to 1 i
  seek-start i e =
      record { least = omega arith; short = on-least; most = omega arith; here = e; inside = omega (arith, wrap-lt vc (s + 1) (omega arith)) }

  module _ (k i : ℕ) (at : Seeking vc s to k i) where
    seek-on : (i ≡ to → ⊥) → k < segments_on vc s to
    seek-on n =
        by-test (ltb k (segments_on vc s to)) (λ e. ltb-true k (segments_on vc s to) e)
        (λ e. let z : k ≡ segments_on vc s to = omega (arith, ltb-false k (segments_on vc s to) e) in
        absurd (n (at.here ∙ ap (λ (j : ℕ). wrap vc (s + j)) z ∙ on-there)))

    pub seek-less : (i ≡ to → ⊥) → vc - (k + 1) < vc - k
    seek-less n = omega (arith, seek-on n, on-most)

    pub seek-turn : (j : ℕ) → (i ≡ to → ⊥) → j ≡ wrap vc (i + 1) → Seeking vc s to (k + 1) j
    seek-turn j n e =
        record {
          least = omega arith;
          short = omega (arith, seek-on n);
          most = omega (arith, seek-on n, on-most);
          here = wrap-next vc s k j i at.here e;
          inside = omega (arith, wrap-lt vc (i + 1) (omega arith));
        }

    pub seek-end : i ≡ to → k ≡ segments_on vc s to
    seek-end e =
        wrap-cases vc (s + k) (omega arith) (λ h w. on-cases vc s to (λ l d. omega arith) (λ l d. omega arith))
        (λ h w. on-cases vc s to (λ l d. omega arith) (λ l d. omega arith))

pub ruleset seeking = (seek-start, seek-less, seek-turn, seek-end)

-- ---- a segment's first cut, by what stands at the places
first-none : (left : ℕ) (cut_at : List ℕ) (i p : ℕ) → ((q : ℕ) → p ≤ q → q < p + left → segment_at cut_at q ≡ i → ⊥) → first_from left cut_at i p ≡ p + left
unfolding first_from
first-none zero cut_at i p h = omega arith
first-none (suc left) cut_at i p h =
    first-later left i p cut_at (ne_eqb _ _ (h p (omega arith) (omega arith)))
    ∙ first-none left cut_at i (p + 1) (λ q a b e. h q (omega arith) (omega arith) e) ∙ omega arith

first-is : (left : ℕ) (cut_at : List ℕ) (i p q : ℕ) → p ≤ q → q < p + left → segment_at cut_at q ≡ i → ((r : ℕ) → p ≤ r → r < q → segment_at cut_at r ≡ i → ⊥)
    → first_from left cut_at i p ≡ q
first-is zero cut_at i p q a b e h = absurd (omega arith)
first-is (suc left) cut_at i p q a b e h =
    by-test (eqb p q) (λ x. let z = eqb-true p q x in first-here left i p cut_at (eq-eqb _ _ (ap (segment_at cut_at) z ∙ e)) ∙ z)
    (λ x. let z = eqb-false p q x in
    first-later left i p cut_at (ne_eqb _ _ (h p (omega arith) (omega arith))) ∙ first-is left cut_at i (p + 1) q (omega arith) (omega arith) e (λ r c d f. h r (omega arith) d f))

no_place : (cut_at : List ℕ) (count i : ℕ) → ((q : ℕ) → q < count → segment_at cut_at q ≡ i → ⊥) → has_cut cut_at count i ≡ false
unfolding first_cut
no_place cut_at count i h = le-ltb (first_from count cut_at i 0) count (omega (arith, first-none count cut_at i 0 (λ q a b e. h q (omega arith) e)))

-- the search ends where the first segment passes
traverse-to : (has : ℕ → Bool) (vc s r : ℕ) → ((k : ℕ) → 1 ≤ k → k < r → has (wrap vc (s + k)) ≡ false) → has (wrap vc (s + r)) ≡ true
    → (left k : ℕ) → 1 ≤ k → k ≤ r → r ≤ k + left → traverse_from left has vc s k ≡ r
unfolding traverse_from
traverse-to has vc s r none there zero k o h b = omega arith
traverse-to has vc s r none there (suc left) k o h b =
    by-test (eqb k r) (λ x. let z = eqb-true k r x in traverse-hit has vc s left k (ap (λ (j : ℕ). has (wrap vc (s + j))) z ∙ there) ∙ z)
    (λ x. let z = eqb-false k r x in
    traverse-miss has vc s left k (none k o (omega arith)) ∙ traverse-to has vc s r none there left (k + 1) (omega arith) (omega arith) (omega arith))

-- ---- the cuts go by segment
pub place-more : (count p : ℕ) → p + 1 < count → NextPlace count p (p + 1)
unfolding next_place
place-more count p h = record { is = rw (lt-ltb (p + 1) count h); below = h }

pub place-first : (count p : ℕ) → Among count p → count ≤ p + 1 → NextPlace count p 0
unfolding next_place
place-first count p a h = record { is = rw (le-ltb (p + 1) count h); below = omega arith }

module _ (vc : ℕ) (cut_at : List ℕ) (count p : ℕ) (given : LastCut vc cut_at count p) (q : ℕ) (next : NextPlace count p q) where
  -- the next cut is further on, or it is the first
  next-cases : {P : Type 0} → (p + 1 < count → q ≡ p + 1 → segment_at cut_at p < segment_at cut_at q → P) → (count ≤ p + 1 → q ≡ 0 → P) → P
  unfolding next_place same_next
  next-cases {P} f g = by-test (ltb (p + 1) count) more (λ e. g (ltb-false (p + 1) count e) (next.is ∙ rw e))
    where
      more : ltb (p + 1) count ≡ true → P
      more e =
          let l = ltb-true (p + 1) count e in
          let z : q ≡ p + 1 = next.is ∙ rw e in
          let up = given.ascend p (p + 1) (omega arith) l in
          let apart = eqb-false (segment_at cut_at (p + 1)) (segment_at cut_at p) (rw e at given.alone) in
          let m : segment_at cut_at q ≡ segment_at cut_at (p + 1) = ap (segment_at cut_at) z in
          f l z (omega (arith, up, apart, m))

  -- so no cut is on a segment between them
  sides : {P : Type 0} (r : ℕ) → r < count → (segment_at cut_at p < segment_at cut_at q → segment_at cut_at r ≤ segment_at cut_at p → P)
      → (segment_at cut_at p < segment_at cut_at q → segment_at cut_at q ≤ segment_at cut_at r → P)
      → (segment_at cut_at q ≤ segment_at cut_at p → segment_at cut_at q ≤ segment_at cut_at r → segment_at cut_at r ≤ segment_at cut_at p → P) → P
  sides r h before behind between =
      next-cases
      (λ l z a. by-test (ltb p r) (λ x. behind a (given.ascend q r (omega (arith, ltb-true p r x)) h)) (λ x. before a (given.ascend r p (ltb-false p r x) given.fit.here)))
      (λ l z. between (given.ascend q p (omega arith) given.fit.here) (given.ascend q r (omega arith) h) (given.ascend r p (omega arith) given.fit.here))

  pub next-segments : Segments vc (segment_at cut_at p) (segment_at cut_at q)
  next-segments = record { most = given.most; begins = given.inside p given.fit.here; ends = given.inside q next.below }

  first_next : first_cut cut_at count (segment_at cut_at q) ≡ q
  unfolding first_cut
  first_next =
      first-is count cut_at (segment_at cut_at q) 0 q (omega arith) (omega arith) refl
      (λ r a b e. next-cases (λ l z x. let y = given.ascend r p (omega arith) given.fit.here in omega arith) (λ l z. omega arith))

  none_between : (k : ℕ) → 1 ≤ k → k < segments_on vc (segment_at cut_at p) (segment_at cut_at q) → has_cut cut_at count (wrap vc (segment_at cut_at p + k)) ≡ false
  none_between k o b =
      let s = segment_at cut_at p in
      let to = segment_at cut_at q in
      let d = next-segments in
      let m = on-most vc s to d in
      no_place cut_at count (wrap vc (s + k)) λ r h e.
      sides r h
      (λ x y. wrap-cases vc (s + k) (omega arith) (λ i w. on-cases vc s to (λ l n. omega arith) (λ l n. omega arith)) (λ i w. on-cases vc s to (λ l n. omega arith) (λ l n. omega arith)))
      (λ x y. wrap-cases vc (s + k) (omega arith) (λ i w. on-cases vc s to (λ l n. omega arith) (λ l n. omega arith)) (λ i w. on-cases vc s to (λ l n. omega arith) (λ l n. omega arith)))
      (λ x y z. wrap-cases vc (s + k) (omega arith) (λ i w. on-cases vc s to (λ l n. omega arith) (λ l n. omega arith)) (λ i w. on-cases vc s to (λ l n. omega arith) (λ l n. omega arith)))

  pub next_of : (k : ℕ) → k ≡ segments_on vc (segment_at cut_at p) (segment_at cut_at q) → NextCut vc cut_at count p (record { traverse = k; index = segment_at cut_at q; cut = q })
  unfolding traverse_of
  next_of k e =
      let s = segment_at cut_at p in
      let to = segment_at cut_at q in
      let d = next-segments in
      let least = on-least vc s to d in
      let most = on-most vc s to d in
      let there = on-there vc s to d in
      let has : has_cut cut_at count (wrap vc (s + segments_on vc s to)) ≡ true = rw there (lt-ltb (first_cut cut_at count to) count (omega (arith, first_next, next.below))) in
      record {
        traverses = e ∙ sym (traverse-to (has_cut cut_at count) vc s (segments_on vc s to) none_between has (vc - 1) 1 (omega arith) least (omega arith));
        wraps = sym (ap (λ (j : ℕ). wrap vc (s + j)) e ∙ there);
        first_there = sym first_next;
        least = omega arith;
        most = omega arith;
        inside = d.ends;
        below = next.below;
      }

pub ruleset finding = (place-more, place-first, next-segments, next_of)
