-- Closed examples of "Sizes" and "Equal points and boxes", computed: document 01's T10, and both sides of each bound.
use Rattle.std.specs.Prelude.{true, false, ◌≡◌, refl, Float, negsuc}
use Rattle.std.specs.Float.{nan, inf, fin, binary64}
use Rattle.std.specs.Float.Ieee.{of_bits, add, sub, lt, le}
use Rattle.basis.specs.Number.{+0, one, limit, abs_f, agree, in_span, within, alike, tolerable_on, tolerable}
use Rattle.outline.specs.declared.point.Point.{Point}
use Rattle.outline.specs.Points.{points_agree, in_box}

-- ---- T10: "with t = 0.5, x = 1 and x = 1.5 do not agree but are in each other's box"

abbrev half : Float
half = fin false 1 (negsuc 0)

abbrev one_half : Float
one_half = fin false 3 (negsuc 0)

-- As numbers: neither way do they agree, and each is in the other's span.
pub t10-apart : (agree half one one_half ≡ false) × (agree half one_half one ≡ false)
unfolding agree abs_f of_bits sub lt
t10-apart = (refl, refl)

pub t10-in-span : (in_span half one one_half ≡ true) × (in_span half one_half one ≡ true)
unfolding in_span of_bits sub add le
t10-in-span = (refl, refl)

-- As points with an equal y: the same.
abbrev a : Point
a = record { x = one; y = one }

abbrev b : Point
b = record { x = one_half; y = one }

pub t10-points-apart : (points_agree (alike half) a b ≡ false) × (points_agree (alike half) b a ≡ false)
unfolding points_agree agree abs_f of_bits sub lt
t10-points-apart = (refl, refl)

pub t10-in-box : (in_box (alike half) a b ≡ true) × (in_box (alike half) b a ≡ true)
unfolding in_box in_span of_bits sub add le
t10-in-box = (refl, refl)

-- ---- "magnitude of any coordinate or bulge: 0 to 2^30"

-- 2^30 is within, and so is -2^30.
pub limit-within : (within limit ≡ true) × (within (of_bits binary64 0xc1d0_0000_0000_0000) ≡ true)
unfolding within abs_f of_bits le
limit-within = (refl, refl)

-- The next double above 2^30 is not, nor is its negation.
pub beyond-limit : (within (of_bits binary64 0x41d0_0000_0000_0001) ≡ false) × (within (of_bits binary64 0xc1d0_0000_0000_0001) ≡ false)
unfolding within abs_f of_bits le
beyond-limit = (refl, refl)

-- Neither a NaN nor an infinity is.
pub only-finite : (within nan ≡ false) × (within (inf false) ≡ false) × (within (inf true) ≡ false)
unfolding within abs_f of_bits le
only-finite = (refl, refl, refl)

-- ---- "position tolerance: above 0 to 1"

-- The smallest double above 0 is a tolerance, and so is 1.
pub tolerances : (tolerable (alike (of_bits binary64 1)) ≡ true) × (tolerable (alike one) ≡ true)
unfolding tolerable tolerable_on of_bits lt le
tolerances = (refl, refl)

-- Neither 0, nor the next double above 1, nor a NaN is.
pub not-tolerances : (tolerable (alike +0) ≡ false) × (tolerable (alike (of_bits binary64 0x3ff0_0000_0000_0001)) ≡ false) × (tolerable (alike nan) ≡ false)
unfolding tolerable tolerable_on of_bits lt le
not-tolerances = (refl, refl, refl)
