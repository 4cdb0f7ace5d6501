-- Closed examples, computed.
use Rattle.std.specs.Prelude.{false, ◌≡◌, refl, [], ◌∷◌, Float, pos, negsuc}
use Rattle.std.specs.Float.{fin}
use Rattle.std.specs.Float.Ieee.{neg, lt, of_bits}
use Rattle.basis.specs.Number.{+0, one, abs_f}
use Rattle.area.specs.Area.{is_kept, kept_to, kept_of}

abbrev half : Float
half = fin false 1 (negsuc 0)

abbrev two : Float
two = fin false 2 (pos 0)

-- an area equal to the limit stays, and so does its negative; one below the limit goes, and so does its negative; a hole's area is negative and large
pub areas-kept : kept_of (one ∷ neg one ∷ half ∷ neg half ∷ two ∷ neg two ∷ []) one ≡ 0 ∷ 1 ∷ 4 ∷ 5 ∷ []
unfolding kept_of kept_to is_kept abs_f neg lt of_bits
areas-kept = refl

-- a limit of 0 drops nothing, neither 0 nor −0
pub all-kept : kept_of (+0 ∷ neg +0 ∷ neg half ∷ []) +0 ≡ 0 ∷ 1 ∷ 2 ∷ []
unfolding kept_of kept_to is_kept abs_f neg lt of_bits
all-kept = refl

-- no loops
pub no-areas : kept_of [] one ≡ []
unfolding kept_of kept_to
no-areas = refl
