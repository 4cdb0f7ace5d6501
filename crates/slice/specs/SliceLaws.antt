-- What the tests of a list of slices say of each slice, and the other way.
use Rattle.std.specs.Prelude.{ℕ, ◌*◌, ◌/◌, ◌≤◌, ◌<◌, Bool, true, ◌≡◌, List, length}
use Rattle.std.proofs.Common.{sym, ap, subst, ◌∙◌, arith}
use Rattle.std.proofs.Math.Nat.{mul-div_right}
use borrow.Author.Tests.{ltb-true, leb-true, lt-ltb, le-leb}
use Rattle.basis.specs.Each.{choices_known}
use Rattle.basis.specs.EachLaws.{each_at, at_each, item_in, most-at, at_most}
use Rattle.basis.specs.Refuse.{count_for}
use Rattle.slice.specs.declared.data.Codes.{Codes}
use Rattle.slice.specs.Slice.{code_width, codes_at}
use Rattle.slice.specs.Faults.{start_inside, offset_inside, each_slice, starts_inside, offsets_inside}
use Rattle.slice.specs.Ready.{CodesThere}

-- a slice of a list that a loop has come to
pub codes-there : (at : List ℕ) (i : ℕ) → i < length at / code_width → CodesThere at i
codes-there at i h = record { inside = item_in code_width 3 i (length at) (omega arith) h }

-- ---- a list of n slices
module _ (at : List ℕ) (n : ℕ) (whole : length at ≡ code_width * n) where
  items : length at / code_width ≡ n
  items = ap (λ (k : ℕ). k / code_width) whole ∙ mul-div_right n (omega arith)

  pub slice_at : (q : Codes → Bool) → each_slice q at ≡ true → (i : ℕ) → i < n → q (codes_at at i) ≡ true
  unfolding each_slice
  slice_at q e i h = each_at (λ j. q (codes_at at j)) (length at / code_width) i e (subst (λ (k : ℕ). i < k) (sym items) h)

  pub at-slice : (q : Codes → Bool) → ((i : ℕ) → i < n → q (codes_at at i) ≡ true) → each_slice q at ≡ true
  unfolding each_slice
  at-slice q f = at_each (λ j. q (codes_at at j)) (length at / code_width) (λ i h. f i (subst (λ (k : ℕ). i < k) items h))

  -- the yes/no of inverted
  pub turned-at : choices_known code_width 1 at ≡ true → (i : ℕ) → i < n → (codes_at at i).inverted ≤ 1
  unfolding codes_at
  turned-at e i h = most-at code_width 1 at n 1 (omega arith) whole e i h

  pub at-turned : ((i : ℕ) → i < n → (codes_at at i).inverted ≤ 1) → choices_known code_width 1 at ≡ true
  unfolding codes_at
  at-turned f = at_most code_width 1 at n 1 (omega arith) whole f

  module _ (vc1 vc2 : ℕ) where
    pub start-at : starts_inside vc1 vc2 at ≡ true → (i : ℕ) → i < n → (codes_at at i).start < count_for vc1 vc2 (codes_at at i).source
    unfolding start_inside
    start-at e i h = ltb-true _ _ (slice_at (start_inside vc1 vc2) e i h)

    pub at-start : ((i : ℕ) → i < n → (codes_at at i).start < count_for vc1 vc2 (codes_at at i).source) → starts_inside vc1 vc2 at ≡ true
    unfolding start_inside
    at-start f = at-slice (start_inside vc1 vc2) (λ i h. lt-ltb _ _ (f i h))

    pub offset_at : offsets_inside vc1 vc2 at ≡ true → (i : ℕ) → i < n → (codes_at at i).offset ≤ count_for vc1 vc2 (codes_at at i).source
    unfolding offset_inside
    offset_at e i h = leb-true _ _ (slice_at (offset_inside vc1 vc2) e i h)

    pub at_offset : ((i : ℕ) → i < n → (codes_at at i).offset ≤ count_for vc1 vc2 (codes_at at i).source) → offsets_inside vc1 vc2 at ≡ true
    unfolding offset_inside
    at_offset f = at-slice (offset_inside vc1 vc2) (λ i h. le-leb _ _ (f i h))
