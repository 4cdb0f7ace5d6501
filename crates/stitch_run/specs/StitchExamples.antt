-- Closed examples of the stitch, computed: document 01's T3, T4, T5 and T8, on its sheet of two squares.
use Rattle.std.specs.Prelude.{ℕ, false, ◌≡◌, refl, Float, pos, negsuc}
use mathlib.Core.List.{List, [], ◌∷◌, ◌++◌, flat_map}
use Rattle.std.specs.Float.{fin, binary64}
use Rattle.std.specs.Float.Ieee.{of_bits, neg, add, sub, lt, le}
use Rattle.basis.specs.Number.{+0, abs_f, agree, in_span, alike}
use Rattle.basis.specs.declared.number.Tolerance.{Tolerance}
use Rattle.outline.specs.Points.{points_agree, in_box}
use Rattle.outline.specs.Outline.{vertex_at, wrap, outline_at}
use Rattle.view.specs.View.{forward_at, turned_at, inverted_at, vertex_of}
use Rattle.select.specs.Select.{class_of, preference_of, suits_of, first_that, or_else, choose, choices_of, pick_of, select_of}
use Rattle.stitch_vertices.specs.Vertices.{add_vertex, add_first, add_view, drop_last}
use Rattle.stitch_run.specs.Run.{passing, free, candidate, candidates_of, taken, answered, asked, next_of, round_of, opened, onward, ended}
use Rattle.stitch_run.specs.Run.{walk, chain_from, added, begun, turn, turns, run, slices_of, rounds_of, order_of}
use Rattle.stitch_run.specs.Stitch.{Given, given, plan_of, slice_outline, slice_count, slice_vertex, start_point_of, add_slice}
use Rattle.slice.specs.Slice.{codes_at, shape_at, slice_view}
use Rattle.stitch_run.specs.Stitch.{offers_to, rules_of, run_of, loop_of, loops_of, how_of, totals, round_count, loop_count, chain_count, room_items}
use Rattle.stitch_run.specs.Stitch.{end_items, chain_items, chain_end_items, how_items, sum_below, weight_at, need_for, need_of}

-- ---- what an example opens, under one name each: `unfolding tells` opens all that its own line does

numbers : Unit {0}
unfolding of_bits neg add sub lt le abs_f agree in_span points_agree in_box
numbers = tt

views : Unit {0}
unfolding numbers vertex_at wrap outline_at forward_at turned_at inverted_at vertex_of add_vertex add_first add_view drop_last
views = tt

unfoldable pub slices : Unit {0}
unfolding views codes_at shape_at slice_view slice_outline slice_count slice_vertex start_point_of add_slice offers_to
slices = tt

selectors : Unit {0}
unfolding class_of preference_of suits_of first_that or_else choose choices_of pick_of select_of
selectors = tt

rounds : Unit {0}
unfolding passing free candidate candidates_of taken answered asked next_of round_of opened onward ended walk chain_from added begun turn turns run
rounds = tt

unfoldable pub runs : Unit {0}
unfolding slices selectors rounds rules_of run_of
runs = tt

tells : Unit {0}
unfolding runs flat_map slices_of rounds_of order_of loop_of loops_of how_of totals round_count loop_count chain_count room_items end_items chain_items chain_end_items how_items
tells = tt

unfoldable pub needs : Unit {0}
unfolding codes_at sum_below weight_at need_for need_of
needs = tt

-- ---- the sheet: A is (0,0) (4,0) (4,4) (0,4); B is (2,2) (6,2) (6,6) (2,6); bulges 0, t = 1/1024

abbrev pub n2 : Float
n2 = fin false 1 (pos 1)

abbrev pub n4 : Float
n4 = fin false 1 (pos 2)

abbrev n6 : Float
n6 = fin false 3 (pos 1)

abbrev pub t : Tolerance
t = alike (fin false 1 (negsuc 9))

abbrev -0 : Float
-0 = of_bits binary64 0x8000_0000_0000_0000

-- a vertex with bulge +0, and one of an inverted slice, with bulge −0
abbrev pub at : Float → Float → List Float
at px py = px ∷ py ∷ +0 ∷ []

abbrev turned : Float → Float → List Float
turned px py = px ∷ py ∷ -0 ∷ []

abbrev square_a : List Float
square_a = at +0 +0 ++ at n4 +0 ++ at n4 n4 ++ at +0 n4

abbrev square_b : List Float
square_b = at n2 n2 ++ at n6 n2 ++ at n6 n6 ++ at n2 n6

-- the numbers of a straight slice: its start, an end bulge of 0, its end
abbrev pub from : Float → Float → Float → Float → List Float
from sx sy ex ey = at sx sy ++ (+0 ∷ ex ∷ ey ∷ [])

-- a stitch on the sheet, with n slices, their starts a, b and c, and a selector
abbrev sheet : List ℕ → List Float → ℕ → ℕ → ℕ → ℕ → ℕ → Given
sheet slice_at slice n a b c selector =
    given square_a square_b slice_at slice (plan_of 4 4 n (record { pline2 = a; pline1_overlapping = b; pline2_overlapping = c }) selector t)

abbrev needed : Given → ℕ
needed g = need_of g.slice_at g.slices

-- what a stitch reports but for the loops' vertices: rounds, loops, chains; the ends of the loops; the slices, ends and endings of the chains
pub record Told (g : Given) (rounds loops chains : ℕ) (ends order chain_ends hows : List ℕ) : Type 0 where
  pub counted : (round_count g ≡ rounds) × (loop_count g ≡ loops) × (chain_count g ≡ chains)
  pub ended : end_items g ≡ ends
  pub listed : chain_items g ≡ order
  pub parted : chain_end_items g ≡ chain_ends
  pub how : how_items g ≡ hows

-- ---- T3, the union: A from (2,4) on segment 2, offset 3, to (4,2); B from (4,2) on segment 0, offset 3, to (2,4)

abbrev pub union : Given
union = sheet (1 ∷ 0 ∷ 2 ∷ 3 ∷ 2 ∷ 0 ∷ 0 ∷ 3 ∷ []) (from n2 n4 n4 n2 ++ from n4 n2 n2 n4) 2 1 2 2 0

-- "2 rounds; one loop"
pub t3-told : Told union 2 1 1 (8 ∷ []) (0 ∷ 1 ∷ []) (2 ∷ []) (0 ∷ [])
unfolding tells
t3-told = record { counted = (refl, refl, refl); ended = refl; listed = refl; parted = refl; how = refl }

-- "(2,4) (0,4) (0,0) (4,0) (4,2) (6,2) (6,6) (2,6)"
pub t3-loop : room_items union ≡ at n2 n4 ++ at +0 n4 ++ at +0 +0 ++ at n4 +0 ++ at n4 n2 ++ at n6 n2 ++ at n6 n6 ++ at n2 n6
unfolding tells
t3-loop = refl

-- "room 9"
pub t3-need : needed union ≡ 9
unfolding needs
t3-need = refl

-- ---- T4, the intersection: A from (4,2) on segment 1, offset 1, to (2,4); B from (2,4) on segment 3, offset 1, to (4,2)

abbrev pub intersection : Given
intersection = sheet (1 ∷ 0 ∷ 1 ∷ 1 ∷ 2 ∷ 0 ∷ 3 ∷ 1 ∷ []) (from n4 n2 n2 n4 ++ from n2 n4 n4 n2) 2 1 2 2 0

pub t4-told : Told intersection 2 1 1 (4 ∷ []) (0 ∷ 1 ∷ []) (2 ∷ []) (0 ∷ [])
unfolding tells
t4-told = record { counted = (refl, refl, refl); ended = refl; listed = refl; parted = refl; how = refl }

-- "loop (4,2) (4,4) (2,4) (2,2); room 5"
pub t4-loop : room_items intersection ≡ at n4 n2 ++ at n4 n4 ++ at n2 n4 ++ at n2 n2
unfolding tells
t4-loop = refl

pub t4-need : needed intersection ≡ 5
unfolding needs
t4-need = refl

-- ---- T5, FirstMinusSecond by NotXor: T3's slice of A, inverted; T4's slice of B

abbrev pub difference : Given
difference = sheet (1 ∷ 1 ∷ 2 ∷ 3 ∷ 2 ∷ 0 ∷ 3 ∷ 1 ∷ []) (from n2 n4 n4 n2 ++ from n2 n4 n4 n2) 2 1 2 2 1

pub t5-told : Told difference 2 1 1 (6 ∷ []) (0 ∷ 1 ∷ []) (2 ∷ []) (0 ∷ [])
unfolding tells
t5-told = record { counted = (refl, refl, refl); ended = refl; listed = refl; parted = refl; how = refl }

-- "6 vertices from (4,2), (4,0); room 7"; "Negating +0 gives −0, and it is kept."
pub t5-loop : room_items difference ≡ turned n4 n2 ++ turned n4 +0 ++ turned +0 +0 ++ turned +0 n4 ++ at n2 n4 ++ at n2 n2
unfolding tells
t5-loop = refl

pub t5-need : needed difference ≡ 7
unfolding needs
t5-need = refl

-- ---- T8: "No slices: 0 rounds, 0 loops, empty room accepted."

abbrev pub nothing : Given
nothing = sheet [] [] 0 0 0 0 0

pub t8-told : Told nothing 0 0 0 [] [] [] []
unfolding tells
t8-told = record { counted = (refl, refl, refl); ended = refl; listed = refl; parted = refl; how = refl }

pub t8-room : (room_items nothing ≡ []) × (needed nothing ≡ 0)
unfolding tells needs
t8-room = (refl, refl)

-- ---- the other endings

-- one slice alone: T3's slice of A finds no candidate where it ends
pub no-candidate-told : Told (sheet (1 ∷ 0 ∷ 2 ∷ 3 ∷ []) (from n2 n4 n4 n2) 1 1 1 1 0) 1 0 1 [] (0 ∷ []) (1 ∷ []) (2 ∷ [])
unfolding tells
no-candidate-told = record { counted = (refl, refl, refl); ended = refl; listed = refl; parted = refl; how = refl }

-- all of A, from (0,0) round to (0,0), as an overlap of 1: OrAnd takes any slice and so closes it, NotXor selects none
abbrev round : ℕ → Given
round selector = sheet (1 ∷ 0 ∷ 0 ∷ 3 ∷ []) (from +0 +0 +0 +0) 1 0 0 1 selector

pub closed-told : Told (round 0) 1 1 1 (4 ∷ []) (0 ∷ []) (1 ∷ []) (0 ∷ [])
unfolding tells
closed-told = record { counted = (refl, refl, refl); ended = refl; listed = refl; parted = refl; how = refl }

pub no-selection-told : Told (round 1) 1 0 1 [] (0 ∷ []) (1 ∷ []) (3 ∷ [])
unfolding tells
no-selection-told = record { counted = (refl, refl, refl); ended = refl; listed = refl; parted = refl; how = refl }

-- a slice that ends where it starts: its two vertices agree, so it closes with one
pub too-small-told : Told (sheet (1 ∷ 0 ∷ 0 ∷ 0 ∷ []) (from +0 +0 +0 +0) 1 1 1 1 0) 1 0 1 [] (0 ∷ []) (1 ∷ []) (1 ∷ [])
unfolding tells
too-small-told = record { counted = (refl, refl, refl); ended = refl; listed = refl; parted = refl; how = refl }

-- T3's slice of A twice, then that of B: the first chain takes A and B, and the second finds no candidate, for a visited slice is not offered again
abbrev twice : Given
twice = sheet (1 ∷ 0 ∷ 2 ∷ 3 ∷ 1 ∷ 0 ∷ 2 ∷ 3 ∷ 2 ∷ 0 ∷ 0 ∷ 3 ∷ []) (from n2 n4 n4 n2 ++ from n2 n4 n4 n2 ++ from n4 n2 n2 n4) 3 2 3 3 0

pub two-chains-told : Told twice 3 1 2 (8 ∷ []) (0 ∷ 2 ∷ 1 ∷ []) (2 ∷ 3 ∷ []) (0 ∷ 2 ∷ [])
unfolding tells
two-chains-told = record { counted = (refl, refl, refl); ended = refl; listed = refl; parted = refl; how = refl }
