-- A loop that compares the edition of each slice with its outline's and keeps whether the first i are the same.
use Prim.Native.Nat.{ℕ, ◌+◌, ◌/◌, ◌≤◌, ◌<◌}
use mathlib.Core.Bool.{Bool, true, not, ◌&&◌}
use mathlib.Core.Path.{◌≡◌, refl, ap, ◌∙◌}
use mathlib.Core.List.{List}
use native.Mathlib.Omega.{arith}
use lib.ListN.{length, get_or}
use lib.Dec.{eqb}
use Rattle.basis.specs.Each.{each_to}
use Rattle.basis.specs.EachLaws.{each_more, each-end}
use Rattle.slice.specs.declared.data.Codes.{Codes}
use Rattle.slice.specs.Slice.{code_width, codes_at}
use Rattle.slice.specs.Editions.{Editions, edition_of, edition_same, edition_fault}

pub record Compared (e : Editions) (at : List ℕ) (same : Bool) (i : ℕ) : Type 0 where
  pub ahead : i ≤ length at / code_width
  pub passed : same ≡ each_to (edition_same e at) i

module _ (e : Editions) (at : List ℕ) where
  pub compare-none : Compared e at true 0
  unfolding each_to
  compare-none = record { ahead = omega arith; passed = refl }

  pub compare-more : (same : Bool) (i : ℕ) (c : Codes) (k : ℕ) → Compared e at same i → i < length at / code_width → c ≡ codes_at at i → k ≡ edition_of e.first e.second c.source
      → Compared e at (same && eqb (get_or e.slices i 0) k) (i + 1)
  unfolding edition_same
  compare-more same i c k l h p q =
      record {
        ahead = omega arith;
        passed =
            each_more (edition_same e at) i same (eqb (get_or e.slices i 0) k) l.passed
            (ap (eqb (get_or e.slices i 0)) (q ∙ ap (λ (x : Codes). edition_of e.first e.second x.source) p));
      }

  pub compare-end : (same : Bool) (i : ℕ) → Compared e at same i → length at / code_width ≤ i → not same ≡ edition_fault e at
  unfolding edition_fault
  compare-end same i l h = ap not (each-end (edition_same e at) (length at / code_width) i same l.ahead h l.passed)
