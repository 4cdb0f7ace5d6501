-- Laws by which the rows of the indexes are proved: the place that the source names, known by another name.
use Prim.Native.Nat.{ℕ, ◌+◌}
use mathlib.Core.Bool.{Bool}
use mathlib.Core.Path.{◌≡◌, ap, ◌∙◌}
use mathlib.Core.List.{List}
use Rattle.basis.specs.Each.{places_below}
use Rattle.cut.specs.Cuts.{which_of, Which}

module _ (w source k bound : ℕ) (l : List ℕ) (x : Bool) (is : Which source k) where
  pub start-row : x ≡ places_below w k bound l → x ≡ places_below w (which_of source) bound l
  start-row e = e ∙ ap (λ (n : ℕ). places_below w n bound l) is.is

  pub end_row : x ≡ places_below w (2 + k) bound l → x ≡ places_below w (2 + which_of source) bound l
  end_row e = e ∙ ap (λ (n : ℕ). places_below w (2 + n) bound l) is.is
