-- Laws of the search for the next segment that has a cut.
use Rattle.std.specs.Prelude.{ℕ, zero, suc, ◌+◌, ◌≤◌, ◌<◌, Bool, true, false, ◌≡◌, List, ltb, eqb}
use Rattle.std.proofs.Common.{true≢false, sym, ap, ◌∙◌, arith, ltb-true, ltb-false}
use Rattle.std.proofs.lemmas.Bool.{eqb-false}
use Rattle.basis.specs.Choice.{by-test}
use Rattle.outline.specs.Outline.{wrap}
use Rattle.outline.specs.OutlineLaws.{wrap-less}
use Rattle.candidate.specs.Candidates.{segment_at, first_from, first_cut, traverse_from}

-- ---- a segment's first cut

pub first-here : (left i p : ℕ) (cut_at : List ℕ) → eqb (segment_at cut_at p) i ≡ true → first_from (suc left) cut_at i p ≡ p
unfolding first_from
first-here left i p cut_at e = rw (first_from, e)

pub first-later : (left i p : ℕ) (cut_at : List ℕ) → eqb (segment_at cut_at p) i ≡ false → first_from (suc left) cut_at i p ≡ first_from left cut_at i (p + 1)
unfolding first_from
first-later left i p cut_at e = rw (first_from, e)

first-le : (left : ℕ) (cut_at : List ℕ) (p q : ℕ) → p ≤ q → q < p + left → first_from left cut_at (segment_at cut_at q) p ≤ q
first-le zero cut_at p q h k = absurd (omega arith)
first-le (suc left) cut_at p q h k =
    by-test (eqb (segment_at cut_at p) (segment_at cut_at q))
    (λ e. rw (first-here left _ p cut_at e) h)
    (λ e. rw (first-later left _ p cut_at e)
    (first-le left cut_at (p + 1) q (by-test (ltb p q) (λ l. omega (arith, ltb-true p q l))
    (λ l. let z : p ≡ q = omega (arith, ltb-false p q l) in absurd (eqb-false _ _ e (ap (segment_at cut_at) z)))) (omega arith)))

-- the segment of a cut has one, which stands at its place or before it
pub segment-first : (cut_at : List ℕ) (count p : ℕ) → p < count → first_cut cut_at count (segment_at cut_at p) ≤ p
unfolding first_cut
segment-first cut_at count p h = first-le count cut_at 0 p (omega arith) (omega arith)

-- ---- the search

module _ (has : ℕ → Bool) (vc s : ℕ) where
  pub traverse-hit : (left k : ℕ) → has (wrap vc (s + k)) ≡ true → traverse_from (suc left) has vc s k ≡ k
  unfolding traverse_from
  traverse-hit left k e = rw (traverse_from, e)

  pub traverse-miss : (left k : ℕ) → has (wrap vc (s + k)) ≡ false → traverse_from (suc left) has vc s k ≡ traverse_from left has vc s (k + 1)
  unfolding traverse_from
  traverse-miss left k e = rw (traverse_from, e)

  -- where the search began with a segment that passes, it is not yet around while it has found none
  pub not_yet : (k i : ℕ) → s < vc → k ≤ vc → i ≡ wrap vc (s + k) → has s ≡ true → has i ≡ false → k < vc
  not_yet k i b h e y n =
      by-test (ltb k vc) (λ l. ltb-true k vc l)
      (λ l. let z : k ≡ vc = omega (arith, ltb-false k vc l) in
      let q : i ≡ s = e ∙ ap (λ (j : ℕ). wrap vc (s + j)) z ∙ wrap-less vc (s + vc) (omega arith) (omega arith) ∙ omega arith in
      let bad : true ≡ false = sym y ∙ ap has (sym q) ∙ n in
      absurd (true≢false bad))
