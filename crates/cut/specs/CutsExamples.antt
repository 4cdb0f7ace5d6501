-- Document 01's two squares, and one cut of each kind, worked out from the definitions.
use Rattle.std.specs.Prelude.{ℕ, ◌≡◌, refl, Float}
use mathlib.Core.List.{List, [], ◌∷◌, flat_map}
use Rattle.std.specs.Float.{binary64}
use Rattle.std.specs.Float.Ieee.{of_bits, lt, add, sub, mul}
use Rattle.basis.specs.Number.{+0, one, agree, abs_f, alike}
use Rattle.basis.specs.declared.number.Tolerance.{Tolerance}
use Rattle.outline.specs.Points.{points_agree, dist_squared}
use Rattle.outline.specs.Outline.{vertex_at, outline_at, wrap, point_at}
use Rattle.view.specs.Create.{near_vertex}
use Rattle.cut.specs.Cuts.{Given, given, case_of, which_of, hit_cut, moved, marked_end, lap_cut, cut_of}
use Rattle.cut.specs.Order.{distance, earlier, insert, ordered, order_of, cut_numbers, cut_points}
use Rattle.cut_runs.specs.Sooner.{sooner}

abbrev two : Float
two = of_bits binary64 0x4000_0000_0000_0000

abbrev three : Float
three = of_bits binary64 0x4008_0000_0000_0000

abbrev four : Float
four = of_bits binary64 0x4010_0000_0000_0000

abbrev six : Float
six = of_bits binary64 0x4018_0000_0000_0000

-- 1/1024
abbrev t : Tolerance
t = alike (of_bits binary64 0x3f50_0000_0000_0000)

abbrev square : Float → Float → List Float
square a b = a ∷ a ∷ +0 ∷ b ∷ a ∷ +0 ∷ b ∷ b ∷ +0 ∷ a ∷ b ∷ +0 ∷ []

-- "intersections (4,2) on segments 1 and 0, then (2,4) on 2 and 3"
abbrev sheet_at : List ℕ
sheet_at = 1 ∷ 0 ∷ 2 ∷ 3 ∷ []

abbrev sheet : List Float
sheet = four ∷ two ∷ two ∷ four ∷ []

-- square A is (0,0) (4,0) (4,4) (0,4), outline 1; square B is (2,2) (6,2) (6,6) (2,6), outline 2
abbrev of_a : Given
of_a = given (square +0 four) sheet_at sheet [] [] (case_of 4 1 2 0 t)

abbrev of_b : Given
of_b = given (square two six) sheet_at sheet [] [] (case_of 4 2 2 0 t)

-- three cuts on one segment of A: (3,0) and twice (1,0)
abbrev on_one : Given
on_one = given (square +0 four) (0 ∷ 0 ∷ 0 ∷ 0 ∷ 0 ∷ 0 ∷ []) (three ∷ +0 ∷ one ∷ +0 ∷ one ∷ +0 ∷ []) [] [] (case_of 4 1 3 0 t)

-- an opposing overlap of A's first segment, from (1,0) to (4,0), taken as outline 1 or 2. Its end is on the next vertex, so it moves to segment 1
abbrev lap_of : ℕ → Given
lap_of source = given (square +0 four) [] [] (0 ∷ 0 ∷ 0 ∷ 0 ∷ 1 ∷ 0 ∷ 0 ∷ []) (one ∷ +0 ∷ +0 ∷ +0 ∷ four ∷ +0 ∷ []) (case_of 4 source 0 1 t)

-- segment, mark and arrival number of each cut in order
pub record Examples : Type 0 where
  pub a_numbers : cut_numbers of_a ≡ 1 ∷ 0 ∷ 0 ∷ 2 ∷ 0 ∷ 1 ∷ []
  pub a_points : cut_points of_a ≡ sheet
  pub b_numbers : cut_numbers of_b ≡ 0 ∷ 0 ∷ 0 ∷ 3 ∷ 0 ∷ 1 ∷ []
  pub b_points : cut_points of_b ≡ sheet
  -- the nearer go first, and of equals the one that arrived first
  pub nearer_first : cut_numbers on_one ≡ 0 ∷ 0 ∷ 1 ∷ 0 ∷ 0 ∷ 2 ∷ 0 ∷ 0 ∷ 0 ∷ []
  -- on outline 1 the end carries the mark, on outline 2 the start
  pub opposing_first : cut_numbers (lap_of 1) ≡ 0 ∷ 0 ∷ 0 ∷ 1 ∷ 1 ∷ 1 ∷ []
  pub opposing_second : cut_numbers (lap_of 2) ≡ 0 ∷ 1 ∷ 0 ∷ 1 ∷ 0 ∷ 1 ∷ []

pub examples : Examples
unfolding cut_numbers cut_points flat_map order_of ordered insert earlier sooner cut_of which_of hit_cut lap_cut moved marked_end point_at distance dist_squared near_vertex points_agree agree abs_f vertex_at outline_at wrap of_bits lt add sub mul
examples =
    record { a_numbers = refl; a_points = refl; b_numbers = refl; b_points = refl; nearer_first = refl; opposing_first = refl; opposing_second = refl }
