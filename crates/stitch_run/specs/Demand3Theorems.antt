-- Demand 3, of every stitch: each theorem holds for every input, whatever its lists hold.
use Rattle.std.specs.Prelude.{ℕ, ◌+◌, ◌*◌, ◌≤◌, ◌<◌, ◌≡◌, List, [], map}
use Rattle.std.proofs.Math.Path.{ap}
use Rattle.std.proofs.Common.{◌∙◌, arith}
use Rattle.std.proofs.Math.ListN.{length, length-map}
use Rattle.basis.specs.All.{All}
use Rattle.outline.specs.declared.point.Vertex.{Vertex}
use Rattle.stitch_vertices.specs.Vertices.{add_first, drop_last}
use Rattle.stitch_run.specs.Run.{onto, slices_of, order_of}
use Rattle.stitch_run.specs.Stitch.{Given, slice_vertex, rules_of, run_of, loops_of, how_of, round_count, loop_count, chain_count}
use Rattle.slice.specs.Slice.{slice_offset}
use Rattle.stitch_run.specs.Stitch.{room_items, end_items, chain_items, chain_end_items, how_items, weight_at, need_for, need_of}
use Rattle.stitch_run.specs.Demand3.{sum_over, times, LowestFirst, first_slice, Demand3, reach, Enough}
use Rattle.select.specs.SelectTheorems.{Ascending}
use Rattle.stitch_run.specs.RunLaws.{demand3, same_length, no-slices}
use Rattle.stitch_run.specs.NeedLaws.{enough, enough-end}
use Rattle.stitch_run.specs.StitchLaws.{first-most, drop-length, weight, among, grows}
use Rattle.stitch_run.specs.ReportLaws.{totals-length, totals-most, sum-map, flat-length, flat-loops, loops-size, loops-few, chains-few, hows-known}

module _ (g : Given) where
  pub stitch-demand3 : Demand3 (rules_of g)
  stitch-demand3 = demand3 (rules_of g) (among g)

  -- ---- rounds and chains

  -- "exactly n rounds, and n is the count you report"
  pub exactly-n-rounds : round_count g ≡ g.slices
  unfolding round_count run_of rules_of
  exactly-n-rounds = stitch-demand3.rounds

  -- Each slice is in exactly one chain, once,
  pub each-slice-once : (k : ℕ) → k < g.slices → times k (chain_items g) ≡ 1
  unfolding chain_items run_of rules_of
  each-slice-once k h = stitch-demand3.once k h

  -- and no other number is listed.
  pub no-other-slice : (k : ℕ) → g.slices ≤ k → times k (chain_items g) ≡ 0
  unfolding chain_items run_of rules_of
  no-other-slice k h = stitch-demand3.only k h

  -- Each chain begins with its lowest number.
  pub lowest-begins : All (λ c. LowestFirst (slices_of c)) (run_of g)
  unfolding run_of
  lowest-begins = stitch-demand3.lowest

  -- Chains ascend by first number.
  pub chains-ascend : Ascending (map first_slice (run_of g))
  unfolding run_of
  chains-ascend = stitch-demand3.ascending

  -- ---- the room

  abbrev need : ℕ
  need = need_of g.slice_at g.slices

  -- Room for one vertex more than the sum of (offset + 1) is enough at every moment: the vertices of the finished loops and of the chain under way,
  -- before each join and while it is made, never exceed it.
  pub need-is-enough : Enough length (weight g) need 0 (run_of g)
  unfolding run_of need_of rules_of
  need-is-enough = enough (rules_of g) (among g) length (weight g) (grows g)

  -- What `Enough` bounds is indeed every moment. Behind m vertices, after any k of the offset + 2 vertices (`slice-vertices`) of the slice that begins a chain,
  pub while-beginning : (room m i k : ℕ) → m + (weight g i + 1) ≤ room → k ≤ slice_offset g.slice_at i + 2
      → m + length (add_first g.tolerance (slice_vertex g i) k []) ≤ room
  unfolding weight_at
  while-beginning room m i k h d = omega (arith, first-most g.tolerance (slice_vertex g i) k [])

  -- and of a slice that is joined to vs.
  pub while-joining : (room m j k : ℕ) (vs : List Vertex) → 1 ≤ length vs → m + reach (weight g) (onto j) (length vs) ≤ room → k ≤ slice_offset g.slice_at j + 2
      → m + length (add_first g.tolerance (slice_vertex g j) k (drop_last vs)) ≤ room
  unfolding weight_at
  while-joining room m j k vs s h d = omega (arith, first-most g.tolerance (slice_vertex g j) k (drop_last vs), drop-length vs)

  -- the loops' vertices
  pub loops-fit : sum_over length (loops_of (run_of g)) ≤ need
  loops-fit = omega (arith, loops-size (run_of g), enough-end length (weight g) need 0 (run_of g) need-is-enough)

  -- ---- the lists that are reported

  -- three numbers for each vertex, within three times the need
  pub room-items : length (room_items g) ≤ 3 * need
  unfolding room_items
  room-items = omega (arith, flat-loops (loops_of (run_of g)), loops-fit)

  -- an end for each loop, and none of them beyond the need
  pub end-items : length (end_items g) ≡ loop_count g
  unfolding end_items loop_count
  end-items = totals-length 0 (map length (loops_of (run_of g))) ∙ length-map (loops_of (run_of g)) length

  pub ends-fit : All (λ n. n ≤ need) (end_items g)
  unfolding end_items
  ends-fit = totals-most 0 need (map length (loops_of (run_of g))) (omega (arith, sum-map length (loops_of (run_of g)), loops-fit))

  -- n slices
  pub chain-items : length (chain_items g) ≡ g.slices
  unfolding chain_items round_count
  chain-items = same_length (rules_of g) (among g) (run_of g) ∙ exactly-n-rounds

  -- for each chain its end and how it ended
  pub chain-end-items : length (chain_end_items g) ≡ chain_count g
  unfolding chain_end_items chain_count
  chain-end-items = totals-length 0 (map (λ c. length (slices_of c)) (run_of g)) ∙ length-map (run_of g) (λ c. length (slices_of c))

  pub chain-ends-fit : All (λ n. n ≤ g.slices) (chain_end_items g)
  unfolding chain_end_items chain_items order_of
  chain-ends-fit =
      totals-most 0 g.slices (map (λ c. length (slices_of c)) (run_of g))
      (omega (arith, sum-map (λ c. length (slices_of c)) (run_of g), flat-length slices_of (run_of g), chain-items))

  pub how-items : length (how_items g) ≡ chain_count g
  unfolding how_items chain_count
  how-items = length-map (run_of g) (λ c. how_of c.ending)

  -- each ended in one of the four ways
  pub how-is-known : All (λ n. n < 4) (how_items g)
  unfolding how_items
  how-is-known = hows-known (run_of g)

  -- no more chains than slices, no more loops than chains
  pub chains-at-most : chain_count g ≤ g.slices
  unfolding chain_count chain_items
  chains-at-most = omega (arith, chains-few (run_of g) lowest-begins, chain-items)

  pub loops-at-most : loop_count g ≤ chain_count g
  unfolding loop_count chain_count
  loops-at-most = loops-few (run_of g)

  -- ---- with n = 0: no chains, so no rounds, nothing listed, and no room

  pub none-run : g.slices ≡ 0 → run_of g ≡ []
  unfolding run_of rules_of
  none-run e = no-slices (rules_of g) (among g) e

  pub none-rounds : g.slices ≡ 0 → round_count g ≡ 0
  none-rounds e = exactly-n-rounds ∙ e

  pub none_needed : g.slices ≡ 0 → need ≡ 0
  unfolding need_of need_for
  none_needed e = ap (λ (n : ℕ). need_for (weight g) n) e
