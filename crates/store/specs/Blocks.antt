-- A flat list of places, w elements to a place, for any element type.
use Rattle.std.specs.Prelude.{ℕ, ◌*◌, List, take, drop}

-- what stands at place t
unfoldable pub block : {A : Type 0} → ℕ → List A → ℕ → List A
block w l t = take w (drop (w * t) l)
