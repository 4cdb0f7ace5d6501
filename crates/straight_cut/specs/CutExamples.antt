-- Worked examples, each computed.
use Rattle.std.specs.Prelude.{◌≡◌, true, false, [], ◌∷◌, pos, negsuc, refl, Float}
use Rattle.std.specs.Float.Ieee.{of_bits, le, lt, eq, of_int, to_signed, round}
use Rattle.std.specs.Float.{binary64, nan}
use Rattle.basis.specs.Number.{+0}
use Rattle.basis.specs.Each.{each_to}
use Rattle.basis.specs.Items.{first_items}
use Rattle.outline.specs.Outline.{vertex_at, point_at}
use Rattle.straight.specs.Plane.{spots, sums, around, side, left, right, spans, crossing, twice, winding}
use Rattle.straight_entries.specs.Range.{in_reach}
use Rattle.straight_cut.specs.Microdegrees.{reach, is_whole, value_of}
use Rattle.straight_cut.specs.Straight.{straight_vertex, straight_outline}
use Rattle.straight_cut.specs.Splits.{running_at, split_at, splits_of}
use Rattle.straight_cut.specs.Inside.{inside_code, inside_at}

-- -0, 1, 2 and 4
abbrev -0 : Float
-0 = of_bits binary64 0x8000_0000_0000_0000

abbrev f1 : Float
f1 = of_bits binary64 0x3ff0_0000_0000_0000

abbrev f2 : Float
f2 = of_bits binary64 0x4000_0000_0000_0000

abbrev f4 : Float
f4 = of_bits binary64 0x4010_0000_0000_0000

-- 400,000,000 is the most, and -400,000,000 the least; one further is past the range
most : is_whole (of_bits binary64 0x41b7_d784_0000_0000) ≡ true
unfolding is_whole reach in_reach of_bits le lt eq of_int to_signed round
most = refl

past : is_whole (of_bits binary64 0x41b7_d784_0100_0000) ≡ false
unfolding is_whole reach in_reach of_bits le lt eq of_int to_signed round
past = refl

least : value_of (of_bits binary64 0xc1b7_d784_0000_0000) ≡ negsuc 399999999
unfolding value_of is_whole reach in_reach of_bits le lt eq of_int to_signed round
least = refl

-- a half, a NaN and an infinity are not whole; -0 is 0
half : is_whole (of_bits binary64 0x3fe0_0000_0000_0000) ≡ false
unfolding is_whole reach in_reach of_bits le lt eq of_int to_signed round
half = refl

no_number_lem : is_whole nan ≡ false
unfolding is_whole reach in_reach of_bits le lt eq of_int to_signed round
no_number_lem = refl

minus-zero : value_of -0 ≡ pos 0
unfolding value_of is_whole reach in_reach of_bits le lt eq of_int to_signed round
minus-zero = refl

-- a triangle whose first bulge is -0 is straight; with a bulge of 1 it is not
straight : straight_outline (+0 ∷ +0 ∷ -0 ∷ f4 ∷ +0 ∷ +0 ∷ +0 ∷ f4 ∷ +0 ∷ []) ≡ true
unfolding straight_outline straight_vertex each_to vertex_at is_whole reach in_reach of_bits le lt eq of_int to_signed round
straight = refl

bent : straight_outline (+0 ∷ +0 ∷ f1 ∷ f4 ∷ +0 ∷ +0 ∷ +0 ∷ f4 ∷ +0 ∷ []) ≡ false
unfolding straight_outline straight_vertex each_to vertex_at is_whole reach in_reach of_bits le lt eq of_int to_signed round
bent = refl

-- two cuts on its first segment: the second split starts at the first cut, and no bulge is -0
two-splits : splits_of (+0 ∷ +0 ∷ -0 ∷ f4 ∷ +0 ∷ +0 ∷ +0 ∷ f4 ∷ +0 ∷ []) (0 ∷ 0 ∷ 1 ∷ 0 ∷ 0 ∷ 0 ∷ []) (f1 ∷ +0 ∷ f2 ∷ +0 ∷ []) 2
    ≡ +0 ∷ +0 ∷ +0 ∷ f1 ∷ +0 ∷ +0 ∷ f1 ∷ +0 ∷ +0 ∷ f1 ∷ +0 ∷ +0 ∷ f2 ∷ +0 ∷ +0 ∷ f2 ∷ +0 ∷ +0 ∷ []
unfolding splits_of split_at running_at first_items vertex_at point_at
two-splits = refl

-- between (1, 0) and (2, 4) lies (1.5, 2), doubled (3, 4): inside that triangle; between (4, 4) and (4, 4) is outside
inside-it : inside_at (pos 0 ∷ pos 0 ∷ pos 4 ∷ pos 0 ∷ pos 0 ∷ pos 4 ∷ []) (f1 ∷ +0 ∷ +0 ∷ f2 ∷ f4 ∷ +0 ∷ []) 0 ≡ 1
unfolding inside_at inside_code winding spots around sums crossing spans left right side twice vertex_at value_of is_whole reach in_reach of_bits le lt eq of_int to_signed round
inside-it = refl

outside-it : inside_at (pos 0 ∷ pos 0 ∷ pos 4 ∷ pos 0 ∷ pos 0 ∷ pos 4 ∷ []) (f4 ∷ f4 ∷ +0 ∷ f4 ∷ f4 ∷ +0 ∷ []) 0 ≡ 0
unfolding inside_at inside_code winding spots around sums crossing spans left right side twice vertex_at value_of is_whole reach in_reach of_bits le lt eq of_int to_signed round
outside-it = refl
