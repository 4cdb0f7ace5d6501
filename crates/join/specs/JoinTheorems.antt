-- Request K13, of every stitch whose numbers document 01 lets through: at every join of every loop returned, and at its closing, on each axis.
use Rattle.std.specs.Prelude.{ℕ, ◌+◌, ◌-◌, ◌*◌, ◌^◌, ◌≤◌, Bool, ◌≡◌, ℤ, nat_abs}
use Rattle.std.proofs.Math.Bool.{false}
use Rattle.std.proofs.Math.Path.{refl, ap}
use mathlib.Core.List.{List, [], ◌∷◌, flat_map, Memᴰ}
use Rattle.std.proofs.Common.{arith, lit≤}
use Rattle.std.specs.Float.{fin, binary64}
use Rattle.std.specs.Float.Ieee.{up, down}
use Rattle.basis.specs.Choice.{clash}
use Rattle.basis.specs.All.{All, all-imp, all_both}
use Rattle.outline.specs.declared.point.Vertex.{Vertex}
use Rattle.outline.specs.Points.{pos_of}
use Rattle.stitch_vertices.specs.Vertices.{drop_last}
use Rattle.stitch_run.specs.Run.{Chain, Ending, closed, too_small, no_candidate, no_selection}
use Rattle.stitch_run.specs.Stitch.{Given, slice_vertex, start_point_of, offers_to, rules_of, run_of, loop_of, loops_of}
use Rattle.stitch_run.specs.Demand3.{first_slice}
use Rattle.stitch_run.specs.Doubles.{Double}
use Rattle.stitch_run.specs.StitchLaws.{among}
use Rattle.join.specs.Join.{whole, two_to_minus, AllSmall, Joined, Behind}
use Rattle.join.specs.WholeLaws.{scaled_exact}
use Rattle.join.specs.BoxLaws.{InRange, smaller, box-near}
use Rattle.join.specs.AxisLaws.{box-axes, Tolerances}
use Rattle.join.specs.OfferLaws.{Taken, ClosedJoins, joins-imp, run-joins}
use Rattle.join.specs.RangeLaws.{VertexIn, StitchIn, slice_in, drop-in, add-slice-in}

-- ---- the scale

-- Every finite f64, m · 2 ^ e with m · up e / down e for its size, is a whole number of 2^-1074: the division in `scaled` has no remainder.
pub whole-exact : (s : Bool) (m : ℕ) (e : ℤ) → Double (fin s m e) → nat_abs (whole (fin s m e)) * down e ≡ m * up e * 2 ^ 1074
whole-exact s m e d = scaled_exact binary64 m e s d

-- ---- one join

-- What holds of a stitch that numbers 1, 2, 4 and 5 let through; document 01's n is 30.
pub record Ranged (n : ℕ) (g : Given) : Type 0 where
  pub numbers : StitchIn (InRange n) g
  pub tolerances : Tolerances g.tolerance

module _ (n : ℕ) (few : n ≤ 30) (g : Given) (a : Ranged n g) where
  abbrev AllIn : List Vertex → Type 0
  AllIn = All (VertexIn (InRange n))

  abbrev Took : List Vertex → ℕ → Type 0
  Took = Taken (rules_of g) AllIn

  -- a slice that was offered to vertices in range
  offered-near : (vs : List Vertex) (j : ℕ) → Took vs j → Joined g (two_to_minus (54 - n)) vs j
  unfolding rules_of offers_to start_point_of
  offered-near [] j t = clash false t.offer refl
  offered-near (last ∷ vs) j t =
      let p = slice_in (InRange n) g a.numbers j 0 t.slice in
      let e = t.kept.0 in
      let b = box-axes g.tolerance (pos_of last) (pos_of (slice_vertex g j 0)) t.offer in
      record { x = box-near n _ _ _ few a.tolerances.x e.x p.x b.0; y = box-near n _ _ _ few a.tolerances.y e.y p.y b.1 }

  -- ---- every closed chain

  run-taken : All (ClosedJoins Took) (run_of g)
  unfolding run_of rules_of
  run-taken =
      run-joins (rules_of g) (among g) AllIn (λ i h. add-slice-in (InRange n) g a.numbers i [] h tt)
      (λ vs j h p. add-slice-in (InRange n) g a.numbers j (drop_last vs) h (drop-in (InRange n) vs p))

  chains-near : All (ClosedJoins (Joined g (two_to_minus (54 - n)))) (run_of g)
  chains-near = all-imp _ _ (λ c h e. joins-imp Took (Joined g (two_to_minus (54 - n))) offered-near (first_slice c) c.rounds (h e)) (run_of g) run-taken

-- ---- every loop returned

module _ (g : Given) (excess : ℕ) where
  -- the loop of a chain of the run, where it is closed
  loop-behind : (c : Chain (List Vertex)) (e : Ending) → c.ending ≡ e → Memᴰ c (run_of g) → ClosedJoins (Joined g excess) c → All (Behind g excess) (loop_of e c.built)
  unfolding loop_of
  loop-behind c closed q m h = (record { chain = c; ran = m; gives = ap (λ (e : Ending). loop_of e c.built) q; joined = h q }, tt)
  loop-behind c too_small q m h = tt
  loop-behind c no_candidate q m h = tt
  loop-behind c no_selection q m h = tt

  loops-behind : (l : List (Chain (List Vertex))) → ((c : Chain (List Vertex)) → Memᴰ c l → Memᴰ c (run_of g)) → All (ClosedJoins (Joined g excess)) l
      → All (Behind g excess) (loops_of l)
  unfolding loops_of flat_map
  loops-behind [] m h = tt
  loops-behind (c ∷ l) m h =
      all_both (Behind g excess) (loop_of c.ending c.built) (loops_of l) (loop-behind c c.ending refl (m c (Memᴰ.head refl)) h.0)
      (loops-behind l (λ d k. m d (Memᴰ.tail k)) h.1)

-- a larger figure holds as well
more : (a t c d : ℕ) → c ≤ d → a ≤ t + c → a ≤ t + d
more a t c d h k = omega arith

looser : (g : Given) (c d : ℕ) → c ≤ d → (vs : List Vertex) (j : ℕ) → Joined g c vs j → Joined g d vs j
looser g c d h [] j n = n
looser g c d h (last ∷ vs) j n = record { x = more _ _ c d h n.x; y = more _ _ c d h n.y }

behind-looser : (g : Given) (c d : ℕ) → c ≤ d → (loop : List Vertex) → Behind g c loop → Behind g d loop
behind-looser g c d h loop b =
    record { chain = b.chain; ran = b.ran; gives = b.gives; joined = joins-imp (Joined g c) (Joined g d) (looser g c d h) (first_slice b.chain) b.chain.rounds b.joined }

-- Where no number is above 2^n in magnitude: the axis tolerance plus 2^(n - 54).
pub loops-sized : (n : ℕ) → n ≤ 30 → (g : Given) → Ranged n g → All (Behind g (two_to_minus (54 - n))) (loops_of (run_of g))
loops-sized n few g a = loops-behind g (two_to_minus (54 - n)) (run_of g) (λ c m. m) (chains-near n few g a)

pub ranged-small : (n : ℕ) (g : Given) → Ranged 30 g → AllSmall n g → Ranged n g
ranged-small n g a h =
    let b = a.numbers in
    record {
      numbers =
          record {
            first = record { size = b.first.size; numbers = smaller n g.outline1 b.first.numbers h.first };
            second = record { size = b.second.size; numbers = smaller n g.outline2 b.second.numbers h.second };
            sixes = b.sixes;
            numbers = smaller n g.slice b.numbers h.numbers;
          };
      tolerances = a.tolerances;
    }

-- The sharper figure: the axis tolerance plus 2^-24, since the start of a slice and the last vertex of a chain are both in range.
pub loops-near : (g : Given) → Ranged 30 g → All (Behind g (two_to_minus 24)) (loops_of (run_of g))
loops-near g a = loops-sized 30 (lit≤ tt) g a

-- "by at most the axis tolerance plus 2^-23, on each axis"
pub loops-within : (g : Given) → Ranged 30 g → All (Behind g (two_to_minus 23)) (loops_of (run_of g))
loops-within g a = all-imp _ _ (behind-looser g (two_to_minus 24) (two_to_minus 23) (lit≤ tt)) (loops_of (run_of g)) (loops-near g a)
