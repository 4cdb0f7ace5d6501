-- A loop that looks at each slice of a list of codes and keeps whether the first i passed.
use Prim.Native.Nat.{ℕ, ◌+◌, ◌/◌, ◌≤◌, ◌<◌}
use mathlib.Core.Bool.{Bool, true, ◌&&◌}
use mathlib.Core.Path.{◌≡◌, refl, ap, ◌∙◌}
use mathlib.Core.List.{List}
use native.Mathlib.Omega.{arith}
use lib.ListN.{length}
use Rattle.basis.specs.Each.{each_to}
use Rattle.basis.specs.EachLaws.{each_more, each-end}
use Rattle.slice.specs.declared.data.Codes.{Codes}
use Rattle.slice.specs.Slice.{code_width, codes_at}
use Rattle.slice.specs.Faults.{each_slice}
use Rattle.slice.specs.SliceLaws.{codes-there}

pub record Looked (q : Codes → Bool) (at : List ℕ) (ok : Bool) (i : ℕ) : Type 0 where
  pub ahead : i ≤ length at / code_width
  pub passed : ok ≡ each_to (λ j. q (codes_at at j)) i

module _ (q : Codes → Bool) (at : List ℕ) where
  pub look_none : Looked q at true 0
  unfolding each_to
  look_none = record { ahead = omega arith; passed = refl }

  pub look-more : (ok : Bool) (i : ℕ) (x : Codes) (b : Bool) → Looked q at ok i → i < length at / code_width → x ≡ codes_at at i → b ≡ q x → Looked q at (ok && b) (i + 1)
  look-more ok i x b l h e f = record { ahead = omega arith; passed = each_more (λ j. q (codes_at at j)) i ok b l.passed (f ∙ ap q e) }

  pub look-end : (ok : Bool) (i : ℕ) → Looked q at ok i → length at / code_width ≤ i → ok ≡ each_slice q at
  unfolding each_slice
  look-end ok i l h = each-end (λ j. q (codes_at at j)) (length at / code_width) i ok l.ahead h l.passed

pub ruleset looking = (look_none, look-end, codes-there)
