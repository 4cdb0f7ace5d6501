-- No figure below 2^-24 holds: a stitch that document 01 lets through, computed. At its closing it is off by the axis tolerance plus 2^-24, on both axes. Its two tolerances differ.
use Rattle.std.specs.Prelude.{ℕ, ◌+◌, ◌≤◌, true, false, ◌≡◌, refl, nat_abs, ◌-ℤ◌, length, Float}
use Rattle.std.proofs.Common.{ap, subst, arith, lit≤}
use mathlib.Core.List.Memᴰ
use mathlib.Core.List.{List, [], ◌∷◌, ◌++◌, flat_map, Memᴰ}
use Rattle.std.proofs.Math.Arith.{add-le_cancel_left}
use Rattle.std.specs.Float.{binary64}
use Rattle.std.specs.Float.Ieee.{of_bits, neg, add, sub, lt, le}
use Rattle.std.specs.Float.Ieee.Bits.{of_bits-fits}
use Rattle.basis.specs.All.{All, all_of}
use Rattle.basis.specs.Number.{+0, limit, abs_f, in_span, within, tolerance_of, tolerable_on, tolerable}
use Rattle.outline.specs.declared.point.Vertex.{Vertex}
use Rattle.outline.specs.Points.{pos_of}
use Rattle.stitch_run.specs.Run.{Chain, closed, ends}
use Rattle.stitch_run.specs.Run.{slices_of}
use Rattle.stitch_run.specs.StitchExamples.{slices, runs, at, from}
use Rattle.stitch_run.specs.Stitch.{Given, given, plan_of, start_point_of}
use Rattle.stitch_run.specs.Stitch.{run_of, loop_of, loops_of}
use Rattle.stitch_run.specs.Demand3.{first_slice}
use Rattle.stitch_run.specs.Doubles.{Double, Doubles}
use Rattle.join.specs.Join.{scaled, whole, two_to_minus, Near, AtJoins, Joined, Behind}
use Rattle.join.specs.BoxLaws.{looked}
use Rattle.join.specs.AxisLaws.{tolerances-in}
use Rattle.join.specs.JoinTheorems.{Ranged}

-- ---- the numbers: the tolerance, the end and the start of each axis

-- x: 3 · 2^-24, 2^29, 2^29 + 2^-22. The end plus the tolerance is half way between two f64, and is rounded away from the end.
abbrev tx : Float
tx = of_bits binary64 0x3e88_0000_0000_0000

abbrev ex : Float
ex = of_bits binary64 0x41c0_0000_0000_0000

abbrev px : Float
px = of_bits binary64 0x41c0_0000_0000_0002

-- y: 7 · 2^-24, −2^29, −2^29 − 2^-21. The same of the end minus the tolerance.
abbrev ty : Float
ty = of_bits binary64 0x3e9c_0000_0000_0000

abbrev ey : Float
ey = of_bits binary64 0xc1c0_0000_0000_0000

abbrev py : Float
py = of_bits binary64 0xc1c0_0000_0000_0004

abbrev eight : Float
eight = of_bits binary64 0x4020_0000_0000_0000

-- ---- the stitch: one slice of outline 1, from (px, py) through (0, 8) and (8, 0) to (ex, ey)

abbrev pub tight : Given
tight =
    given (at ex ey ++ at +0 eight ++ at eight +0) (at +0 +0 ++ at eight eight)
    (1 ∷ 0 ∷ 0 ∷ 2 ∷ []) (from px py ex ey)
    (plan_of 3 2 1 (record { pline2 = 1; pline1_overlapping = 1; pline2_overlapping = 1 }) 0 (tolerance_of tx ty))

abbrev vertex : Float → Float → Vertex
vertex x y = record { x = x; y = y; bulge = +0 }

-- its vertices, newest first
abbrev built : List Vertex
built = vertex ex ey ∷ vertex eight +0 ∷ vertex +0 eight ∷ vertex px py ∷ []

-- its one chain: in its one round the slice was offered to itself, and closed the chain
abbrev chain : Chain (List Vertex)
chain = record { rounds = record { slice = 0; built = built; offered = 0 ∷ []; next = ends closed } ∷ []; ending = closed; built = built }

pub tight-run : run_of tight ≡ chain ∷ []
unfolding runs
tight-run = refl

-- ---- how far it is off

-- the axis tolerance plus 2^-24, on each axis
pub tight-apart : (nat_abs (whole px -ℤ whole ex) ≡ nat_abs (whole tx) + two_to_minus 24) × (nat_abs (whole py -ℤ whole ey) ≡ nat_abs (whole ty) + two_to_minus 24)
unfolding scaled of_bits
tight-apart = (refl, refl)

pub tight-start : pos_of (vertex px py) ≡ start_point_of tight 0
unfolding slices
tight-start = refl

-- The closing of the chain.
closing : (excess : ℕ) → AtJoins (Joined tight excess) (first_slice chain) chain.rounds → Near (tolerance_of tx ty) excess (pos_of (vertex px py)) (pos_of (vertex ex ey))
unfolding slices_of
closing excess h = rw tight-start h

-- Whatever figure holds of a loop of this stitch is 2^-24 at least,
pub tight-least : (excess : ℕ) (loop : List Vertex) → Behind tight excess loop → two_to_minus 24 ≤ excess
tight-least excess loop b =
    let c : b.chain ≡ chain = Memᴰ.eq_of_singleton (subst (λ (l : List (Chain (List Vertex))). Memᴰ b.chain l) tight-run b.ran) in
    let w = closing excess (subst (λ (d : Chain (List Vertex)). AtJoins (Joined tight excess) (first_slice d) d.rounds) c b.joined) in
    add-le_cancel_left (nat_abs (whole tx)) (subst (λ (n : ℕ). n ≤ nat_abs (whole tx) + excess) tight-apart.0 w.x)

-- and it has one.
pub tight-loops : length (loops_of (run_of tight)) ≡ 1
unfolding loops_of loop_of flat_map
tight-loops = ap (λ (l : List (Chain (List Vertex))). length (loops_of l)) tight-run

pub first-least : (excess : ℕ) (loops : List (List Vertex)) → length loops ≡ 1 → All (Behind tight excess) loops → two_to_minus 24 ≤ excess
first-least excess [] e h = absurd (omega arith)
first-least excess (loop ∷ loops) e h = tight-least excess loop h.0

-- ---- document 01 lets it through

pub tight-doubles : Doubles tight
tight-doubles =
    record {
      tolerance_x = of_bits-fits binary64 0x3e88_0000_0000_0000;
      tolerance_y = of_bits-fits binary64 0x3e9c_0000_0000_0000;
      first = (at-ex, (at-ey, (at-0, (at-0, (at_8, (at-0, (at_8, (at-0, (at-0, tt)))))))));
      second = (at-0, (at-0, (at-0, (at_8, (at_8, (at-0, tt))))));
      numbers = (at-px, (at-py, (at-0, (at-0, (at-ex, (at-ey, tt))))));
    }
  where
    at-0 : Double +0
    at-0 = of_bits-fits binary64 0

    at_8 : Double eight
    at_8 = of_bits-fits binary64 0x4020_0000_0000_0000

    at-ex : Double ex
    at-ex = of_bits-fits binary64 0x41c0_0000_0000_0000

    at-ey : Double ey
    at-ey = of_bits-fits binary64 0xc1c0_0000_0000_0000

    at-px : Double px
    at-px = of_bits-fits binary64 0x41c0_0000_0000_0002

    at-py : Double py
    at-py = of_bits-fits binary64 0xc1c0_0000_0000_0004

tight-in : Ranged 30 tight
unfolding all_of within tolerable tolerable_on abs_f lt le of_bits
tight-in =
    let d = tight-doubles in
    record {
      numbers =
          record {
            first = record { size = record { triples = refl; least = lit≤ tt; most = lit≤ tt }; numbers = looked tight.outline1 d.first refl };
            second = record { size = record { triples = refl; least = lit≤ tt; most = lit≤ tt }; numbers = looked tight.outline2 d.second refl };
            sixes = refl;
            numbers = looked tight.slice d.numbers refl;
          };
      tolerances = tolerances-in tight d refl;
    }

-- So no figure below 2^-24 holds of every stitch.
pub no_less : (excess : ℕ) → ((g : Given) → Ranged 30 g → All (Behind g excess) (loops_of (run_of g))) → two_to_minus 24 ≤ excess
no_less excess h = first-least excess (loops_of (run_of tight)) tight-loops (h tight tight-in)

-- ---- where 2^-23 would come from: the box around 2^30 takes a number beyond it

-- 3 · 2^-23 and 2^30 + 2^-21
abbrev wide : Float
wide = of_bits binary64 0x3e98_0000_0000_0000

abbrev beyond : Float
beyond = of_bits binary64 0x41d0_0000_0000_0002

pub beyond-taken : in_span wide limit beyond ≡ true
unfolding in_span add sub neg lt le of_bits
beyond-taken = refl

-- off by the tolerance plus 2^-23,
pub beyond-apart : nat_abs (whole beyond -ℤ whole limit) ≡ nat_abs (whole wide) + two_to_minus 23
unfolding scaled of_bits
beyond-apart = refl

-- but number 5 refuses it.
pub beyond-refused : within beyond ≡ false
unfolding within abs_f le of_bits
beyond-refused = refl
