-- Laws of all turns, and of the need.
use Prim.Native.Nat.{ℕ, zero, suc, ◌+◌, ◌*◌, ◌≤◌, ◌<◌}
use mathlib.Core.Bool.{Bool}
use mathlib.Core.Path.{◌≡◌, refl, ◌∙◌}
use mathlib.Core.List.{List, flat_map}
use native.Mathlib.Numerals.{add-one}
use native.Mathlib.Omega.{arith}
use lib.ListN.{length, get_or}
use lib.Ieee.{Float}
use Rattle.basis.specs.Sizes.{most_vertices}
use Rattle.stitch_tally.specs.declared.tally.Tally.{Tally}
use Rattle.stitch_run.specs.Run.{run, turns, order_of}
use Rattle.stitch_run.specs.Stitch.{Given, rules_of, run_of, loops_of, totals, sum_below, weight_at, need_for, need_of}
use Rattle.slice.specs.Slice.{code_width, codes_at}
use Rattle.stitch_layout.specs.declared.layout.Layout.{Layout}
use Rattle.stitch_links.specs.Hung.{Between}
use Rattle.stitch_slices.specs.Ready.{Sound, Points}
use Rattle.stitch_chain.specs.Ready.{Begun, chains_to}
use Rattle.stitch.specs.Lent.{Lists, Long, Holds, TurnFit, Turned, TurnsFit, AllTurned, NeedFit}
use Rattle.stitch_chain.specs.ChainLaws.{begun-none, begun-then}

-- ---- all turns

-- as a call finds the lists
begun-here : {A : Type 0} (k : ℕ) (items entry : List A) (need : ℕ) (l : List A) → Begun k items entry need l → Begun k items l need l
begun-here k items entry need l b = record { front = b.front; counted = b.counted; beyond = refl; size = refl }

pub record Turning (g : Given) (points : List Float) (by : Layout) (link₀ : List ℕ) (e : Lists) (w : Tally) (visited : List Bool) (link : List ℕ) (x : Lists) (i : ℕ) : Type 0 where
  pub sound : Sound g
  pub table : Points g points
  pub upto : i ≤ g.slices
  pub marks : visited ≡ (turns (rules_of g) i).visited
  pub marked : length visited ≡ g.slices
  pub hung : Between points visited by link g.slices g.starts
  pub links : length link ≡ length link₀
  pub long : Long g x
  pub holds : Holds g (chains_to g i) e w x

long-then : (g : Given) (x x' : Lists) → Long g x → length x'.room ≡ length x.room → length x'.ends ≡ length x.ends → length x'.chain ≡ length x.chain
    → length x'.chain_ends ≡ length x.chain_ends → length x'.chain_how ≡ length x.chain_how → Long g x'
long-then g x x' l a b c d e = record { room = rw a l.room; ends = rw b l.ends; chain = rw c l.chain; chain_ends = rw d l.chain_ends; chain_how = rw e l.chain_how }

module _ (g : Given) (points : List Float) (by : Layout) (e : Lists) where
  pub turns-none : (visited : List Bool) (link : List ℕ) → TurnsFit g points by visited link e → Turning g points by link e (record { done = 0; loops = 0; chains = 0; rounds = 0 }) visited link e 0
  unfolding turns rules_of loops_of totals order_of flat_map
  turns-none visited link t =
      record {
        sound = t.sound;
        table = t.table;
        upto = omega arith;
        marks = t.marks;
        marked = t.marked;
        hung = t.hung;
        links = refl;
        long = t.long;
        holds = record { done = refl; room = begun-none _ _; ends = begun-none _ _; chain = begun-none _ _; chain_ends = begun-none _ _; chain_how = begun-none _ _ };
      }

  module _ (link₀ : List ℕ) (w : Tally) (visited : List Bool) (link : List ℕ) (x : Lists) (i : ℕ) (t : Turning g points by link₀ e w visited link x i) where
    pub turns-turn : i < g.slices → TurnFit g i points by visited link w x
    turns-turn h =
        let y = t.holds in
        record {
          sound = t.sound;
          table = t.table;
          here = h;
          long = t.long;
          marks = t.marks;
          marked = t.marked;
          hung = t.hung;
          holds =
              record {
                done = y.done;
                room = begun-here _ _ _ _ _ y.room;
                ends = begun-here _ _ _ _ _ y.ends;
                chain = begun-here _ _ _ _ _ y.chain;
                chain_ends = begun-here _ _ _ _ _ y.chain_ends;
                chain_how = begun-here _ _ _ _ _ y.chain_how;
              };
        }

    pub turns_more : (w' : Tally) (visited' : List Bool) (link' : List ℕ) (x' : Lists) → i < g.slices → Turned g i points by x w' visited' link' x' → length link' ≡ length link
        → Turning g points by link₀ e w' visited' link' x' (i + 1)
    turns_more w' visited' link' x' h d same =
        let y = t.holds in
        let z = d.holds in
        record {
          sound = t.sound;
          table = t.table;
          upto = omega arith;
          marks = d.marks;
          marked = d.marked;
          hung = d.hung;
          links = same ∙ t.links;
          long = long-then g x x' t.long z.room.size z.ends.size z.chain.size z.chain_ends.size z.chain_how.size;
          holds =
              record {
                done = z.done;
                room = begun-then _ _ _ _ _ _ _ _ y.room z.room;
                ends = begun-then _ _ _ _ _ _ _ _ y.ends z.ends;
                chain = begun-then _ _ _ _ _ _ _ _ y.chain z.chain;
                chain_ends = begun-then _ _ _ _ _ _ _ _ y.chain_ends z.chain_ends;
                chain_how = begun-then _ _ _ _ _ _ _ _ y.chain_how z.chain_how;
              };
        }

    pub turns-end : g.slices ≤ i → AllTurned g e w x
    unfolding run_of run rules_of
    turns-end h = let q : i ≡ g.slices = omega (arith, t.upto) in record { holds = rw q at t.holds }

pub ruleset turning = (turns-none, turns-turn, turns_more, turns-end)

-- ---- the need

pub record Summing (at : List ℕ) (n sum i : ℕ) : Type 0 where
  pub upto : i ≤ n
  pub is : sum ≡ 1 + sum_below (weight_at at) i
  pub most : sum ≤ 1 + (most_vertices + 1) * i

pub sum-offset : (at : List ℕ) (n i : ℕ) → NeedFit at n → i < n → get_or at (code_width * i + 3) 0 ≤ most_vertices
unfolding codes_at
sum-offset at n i f h = f.offsets i h

module _ (at : List ℕ) (n : ℕ) where
  pub sum-none : Summing at n 1 0
  unfolding sum_below
  sum-none = record { upto = omega arith; is = refl; most = omega arith }

  pub sum_more : (sum i : ℕ) → NeedFit at n → Summing at n sum i → i < n → Summing at n (sum + (get_or at (code_width * i + 3) 0 + 1)) (i + 1)
  unfolding sum_below weight_at codes_at
  sum_more sum i f s h =
      record {
        upto = omega arith;
        is = rw (add-one i) (omega (arith, s.is));
        most = omega (arith, s.most, f.offsets i h);
      }

  pub sum-end : (sum i : ℕ) → (n ≡ 0 → ⊥) → Summing at n sum i → n ≤ i → sum ≡ need_of at n
  unfolding need_of
  sum-end sum i z s h = let e : i ≡ n = omega (arith, s.upto) in rw e at s.is ∙ some n z
    where
      some : (m : ℕ) → (m ≡ 0 → ⊥) → 1 + sum_below (weight_at at) m ≡ need_for (weight_at at) m
      some zero z = absurd (z refl)
      some (suc m) z = unfold need_for in refl

  pub sum-nothing : n ≡ 0 → 0 ≡ need_of at n
  unfolding need_of need_for
  sum-nothing e = rw e

pub ruleset summing = (sum-none, sum_more, sum-end, sum-nothing)
