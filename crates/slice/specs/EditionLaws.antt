-- What number 14 not being there says of each slice, and the other way.
use Rattle.std.specs.Prelude.{ℕ, ◌*◌, ◌/◌, ◌<◌, Bool, true, false, cond, ◌≡◌, refl, List, length, get_or, replicate, eqb}
use Rattle.std.proofs.Math.Bool.{not}
use Rattle.std.proofs.Common.{sym, subst, ◌∙◌, arith}
use Rattle.std.proofs.Math.Path.{ap}
use Rattle.std.proofs.Math.Nat.{mul-div_right}
use Rattle.std.proofs.lemmas.List.{get_or-replicate}
use borrow.Author.Tests.{eqb-true, eq-eqb, not-false}
use Rattle.basis.specs.EachLaws.{each_at, at_each}
use Rattle.slice.specs.Slice.{code_width, codes_at}
use Rattle.slice.specs.Editions.{Editions, editions, edition_of, edition_same, edition_fault}

module _ (e : Editions) (at : List ℕ) (n : ℕ) (whole : length at ≡ code_width * n) where
  items : length at / code_width ≡ n
  items = ap (λ (k : ℕ). k / code_width) whole ∙ mul-div_right n (omega arith)

  pub edition-at : edition_fault e at ≡ false → (i : ℕ) → i < n → get_or e.slices i 0 ≡ edition_of e.first e.second (codes_at at i).source
  unfolding edition_fault edition_same
  edition-at h i k = eqb-true _ _ (each_at (edition_same e at) (length at / code_width) i (not-false _ h) (subst (λ (j : ℕ). i < j) (sym items) k))

  pub at-edition : ((i : ℕ) → i < n → get_or e.slices i 0 ≡ edition_of e.first e.second (codes_at at i).source) → edition_fault e at ≡ false
  unfolding edition_fault edition_same
  at-edition f = ap not (at_each (edition_same e at) (length at / code_width) (λ i h. eq-eqb _ _ (f i (subst (λ (j : ℕ). i < j) items h))))

-- one edition throughout: of both outlines and of every slice
both-same : (k : ℕ) (b : Bool) → k ≡ cond b k k
both-same k true = refl
both-same k false = refl

pub one-edition : (k : ℕ) (at : List ℕ) (n : ℕ) → length at ≡ code_width * n → edition_fault (editions k k (replicate n k)) at ≡ false
one-edition k at n whole =
    at-edition (editions k k (replicate n k)) at n whole (λ i h. get_or-replicate n i k 0 h ∙ both-same k (eqb (codes_at at i).source 1))
