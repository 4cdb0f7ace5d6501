-- What the shared rows tell where none of their faults is there.
use Rattle.std.specs.Prelude.{ℕ, zero, suc, ◌+◌, ◌*◌, ◌≤◌, ◌<◌, Bool, true, false, not, ◌&&◌, ◌≡◌, length, get_or, eqb}
use Rattle.std.proofs.Common.{subst, arith, ltb-false, eq-eqb}
use Rattle.std.proofs.lemmas.Bool.{not-false}
use Rattle.basis.specs.Sizes.{most_hits, most_laps}
use Rattle.basis.specs.Number.{all_within, tolerable}
use Rattle.basis.specs.Each.{places_below, places_at_most, choices_known}
use Rattle.basis.specs.EachLaws.{below_at}
use Rattle.basis.specs.Refuse.{first_from, size_fault}
use Rattle.basis.specs.RefuseLaws.{Clear, clear-from, length-ok, size_ok}
use Rattle.cut.specs.Cuts.{Given, cut_count, which_of}
use Rattle.cut.specs.Order.{Accepted}
use Rattle.cut_entries.specs.CutRows.{list_rows, value_rows, view_start_fault, view_offset_fault, index_rows, FewCuts}

-- the rows without a fault, one by one
pub record CutsPass (g : Given) : Type 0 where
  pub outline_length : length g.outline ≡ 3 * g.vc
  pub hit_at_length : length g.hit_at ≡ 2 * g.hits
  pub hit_length : length g.hit ≡ 2 * g.hits
  pub lap_at_length : length g.lap_at ≡ 7 * g.laps
  pub lap_length : length g.lap ≡ 6 * g.laps
  pub few_hits : g.hits ≤ most_hits
  pub few_laps : g.laps ≤ most_laps
  pub sized : size_fault g.vc ≡ false
  pub opposing : choices_known 7 4 g.lap_at ≡ true
  pub tolerance : tolerable g.tolerance ≡ true
  pub outline_within : all_within g.outline ≡ true
  pub hit_within : all_within g.hit ≡ true
  pub lap_within : all_within g.lap ≡ true
  pub hits_below : places_below 2 (which_of g.source) g.vc g.hit_at ≡ true
  pub starts_below : places_below 7 (which_of g.source) g.vc g.lap_at ≡ true
  pub ends_below : places_below 7 (2 + which_of g.source) g.vc g.lap_at ≡ true
  pub view_starts : g.source ≡ 2 → places_below 7 5 g.vc g.lap_at ≡ true
  pub view_offsets : g.source ≡ 2 → places_at_most 7 6 g.vc g.lap_at ≡ true

-- a fault that is looked at with source 2 only
of-second : (source : ℕ) (b : Bool) → (eqb source 2 && not b) ≡ false → source ≡ 2 → b ≡ true
of-second source b e h = not-false b (rw (eq-eqb source 2 h) at e)

pub cuts-pass : (g : Given) → Clear (list_rows g) → Clear (value_rows g) → Clear (index_rows g) → CutsPass g
unfolding list_rows value_rows index_rows view_start_fault view_offset_fault
cuts-pass g (a1, (a2, (a3, (a4, (a5, (a6, (a7, a8))))))) (b1, (b2, (b3, (b4, (b5, (b6, (b7, b8))))))) (c1, (c2, (c3, (c4, (c5, c6))))) =
    record {
      outline_length = length-ok 3 (length g.outline) g.vc a1;
      hit_at_length = length-ok 2 (length g.hit_at) g.hits a2;
      hit_length = length-ok 2 (length g.hit) g.hits a3;
      lap_at_length = length-ok 7 (length g.lap_at) g.laps a4;
      lap_length = length-ok 6 (length g.lap) g.laps a5;
      few_hits = ltb-false most_hits g.hits a6;
      few_laps = ltb-false most_laps g.laps a7;
      sized = b1;
      opposing = not-false _ b3;
      tolerance = not-false _ b4;
      outline_within = not-false _ b5;
      hit_within = not-false _ b6;
      lap_within = not-false _ b7;
      hits_below = not-false _ c1;
      starts_below = not-false _ c2;
      ends_below = not-false _ c3;
      view_starts = of-second g.source _ c4;
      view_offsets = of-second g.source _ c5;
    }

-- the counts alone: the cuts can be counted
pub few-listed : (g : Given) (p : ℕ) → p ≡ first_from 0 (list_rows g) → p ≡ 0 → FewCuts (cut_count g)
unfolding list_rows
few-listed g p e z = go (clear-from (list_rows g) p tt e z)
  where
    go : Clear (list_rows g) → FewCuts (cut_count g)
    go (a1, (a2, (a3, (a4, (a5, (a6, (a7, a8))))))) = record { few = omega (arith, ltb-false most_hits g.hits a6, ltb-false most_laps g.laps a7) }

pub few-passed : (g : Given) → CutsPass g → FewCuts (cut_count g)
few-passed g p = record { few = omega (arith, p.few_hits, p.few_laps) }

-- the lists are ready for the cuts, and every number is in range
pub cuts-accepted : (g : Given) → CutsPass g → Accepted g
cuts-accepted g p =
    let size = size_ok g.vc p.sized in
    let w = which_of g.source in
    record {
      ready =
          record {
            whole = record { triples = p.outline_length; least = size.0; most = size.1 };
            hit_pairs = p.hit_at_length;
            hit_points = p.hit_length;
            few_hits = p.few_hits;
            lap_sevens = p.lap_at_length;
            lap_sixes = p.lap_length;
            few_laps = p.few_laps;
            hits_inside = below_at 2 w g.hit_at g.hits g.vc (omega arith) p.hit_at_length p.hits_below;
            laps_inside = ends;
          };
      outline_within = p.outline_within;
      hit_within = p.hit_within;
      lap_within = p.lap_within;
    }
  where
    -- what stands at a place of every overlap
    below : (place : ℕ) → places_below 7 place g.vc g.lap_at ≡ true → (n j : ℕ) → j < g.laps → 7 * j + place ≡ n → get_or g.lap_at n 0 < g.vc
    below place e n j h q = subst (λ (m : ℕ). get_or g.lap_at m 0 < g.vc) q (below_at 7 place g.lap_at g.laps g.vc (omega arith) p.lap_at_length e j h)

    ends : (j end : ℕ) → j < g.laps → end < 2 → get_or g.lap_at (7 * j + 2 * end + which_of g.source) 0 < g.vc
    ends j zero h k = below (which_of g.source) p.starts_below (7 * j + 2 * 0 + which_of g.source) j h (omega arith)
    ends j (suc zero) h k = below (2 + which_of g.source) p.ends_below (7 * j + 2 * 1 + which_of g.source) j h (omega arith)
    ends j (suc (suc end)) h k = absurd (omega arith)
