-- A slice that was written, by other names.
use Prim.Native.Nat.{ℕ}
use mathlib.Core.Path.{◌≡◌}
use mathlib.Core.List.{[], ◌∷◌}
use Rattle.slice.specs.declared.data.Codes.{Codes}
use Rattle.slice.specs.declared.data.Shape.{Shape}
use Rattle.slice.specs.Slice.{slice_of}
use Rattle.slice.specs.Ready.{Rooms, Placed}

-- a slice that was written is known by other names
pub placed_as : (x y : Codes) (s t : Shape) (k : ℕ) (l l' : Rooms) (m r : ℕ) → x ≡ y → s ≡ t → Placed (slice_of x s k ∷ []) l m r l' → Placed (slice_of y t k ∷ []) l m r l'
placed_as x y s t k l l' m r e f p = rw (e, f) at p
