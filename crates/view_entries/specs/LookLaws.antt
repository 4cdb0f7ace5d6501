-- One row of a table, as the code looks at it: the number that it gives.
use Rattle.std.specs.Prelude.{Bool, true, false, cond, ◌≡◌, refl}
use Rattle.basis.specs.declared.refuse.Refusal.{Refusal}
use Rattle.basis.specs.Refusals.{number_of, when, found}

pub found-when : (b : Bool) (r : Refusal) → found (when b r) ≡ cond b (number_of r) 0
found-when true r = refl
found-when false r = refl
