-- What a caller has shown, and what the functions of a chain leave: one record for each contract.
use Rattle.std.specs.Prelude.{ℕ, ◌+◌, ◌*◌, ◌≤◌, ◌<◌, Bool, true, false, ◌≡◌, List, ◌++◌, length, get_or, set, take, drop, Float}
use Rattle.outline.specs.declared.point.Vertex.{Vertex}
use Rattle.stitch_vertices.specs.Held.{chain_of}
use Rattle.stitch_tally.specs.declared.tally.ChainEnd.{ChainEnd}
use Rattle.stitch_chain.specs.declared.table.Table.{Table}
use Rattle.stitch_slices.specs.Ready.{Sound, Points, SliceMore, SliceAdded}
use Rattle.stitch_layout.specs.declared.layout.Layout.{Layout}
use Rattle.stitch_links.specs.Hung.{Between}
use Rattle.stitch_run.specs.Run.{Chain, Finished, chain_from, turns, slices_of, order_of}
use Rattle.stitch_run.specs.Stitch.{Given, rules_of, how_of, sum_below, weight_at}
use Rattle.stitch_run.specs.Demand3.{finished}

-- ---- a lent list whose first k elements are the items; nothing from the need on was written

pub record Begun {A : Type 0} (k : ℕ) (items entry : List A) (need : ℕ) (l : List A) : Type 0 where
  pub front : take k l ≡ items
  pub counted : k ≡ length items
  pub beyond : drop need l ≡ drop need entry
  pub size : length l ≡ length entry

-- ---- a table is still over the same lists, which are as long as they were

pub record SameTable (t t' : Table) : Type 0 where
  pub points : t'.points ≡ t.points
  pub layout : t'.layout ≡ t.layout
  pub visited : t'.visited.ghost_name ≡ t.visited.ghost_name
  pub link : t'.link.ghost_name ≡ t.link.ghost_name
  pub marks : length t'.visited.now ≡ length t.visited.now
  pub links : length t'.link.now ≡ length t.link.now

-- ---- a chain

pub record Placing (g : Given) (j : ℕ) (visited : List Bool) (room : List Float) (n : ℕ) : Type 0 where
  pub more : SliceMore g j room n
  pub mark : j < length visited

pub record Placed (g : Given) (j n : ℕ) (visited : List Bool) (room : List Float) (r : ℕ) (visited' : List Bool) (room' : List Float) : Type 0 where
  pub marks : visited' ≡ set visited j true
  pub added : SliceAdded g j n room r room'

-- the chains before slice i's turn, their slices, and how many vertices their loops have
abbrev pub chains_to : Given → ℕ → List (Chain (List Vertex))
chains_to g i = (turns (rules_of g) i).chains

abbrev pub order_to : Given → ℕ → List ℕ
order_to g i = order_of (chains_to g i)

abbrev pub done_to : Given → ℕ → ℕ
done_to g i = finished length (chains_to g i)

-- the vertices for which there is room where there is a slice
abbrev pub most_of : Given → ℕ
most_of g = 1 + sum_below (weight_at g.slice_at) g.slices

-- slice i begins a chain, in the rest of the room behind the loops before it
pub record Opening (g : Given) (i : ℕ) (points : List Float) (visited : List Bool) (link : List ℕ) (w : Layout) (room : List Float) (chain : List ℕ) (before : ℕ) : Type 0 where
  pub sound : Sound g
  pub table : Points g points
  pub here : i < g.slices
  pub marks : visited ≡ (turns (rules_of g) i).visited
  pub marked : length visited ≡ g.slices
  pub unvisited : get_or visited i false ≡ false
  pub hung : Between points visited w link g.slices g.starts
  pub roomy : 3 * most_of g ≤ 3 * done_to g i + length room
  pub listed : Begun before (order_to g i) chain g.slices chain
  pub long : g.slices ≤ length chain

-- the chain of the definition
abbrev pub chain_at : Given → ℕ → Finished (List Vertex)
chain_at g i = chain_from (rules_of g) (turns (rules_of g) i).visited i

pub record Walked (g : Given) (i : ℕ) (points : List Float) (w : Layout) (room : List Float) (chain : List ℕ) (r : ChainEnd) (visited' : List Bool) (link' : List ℕ) (room' : List Float) (chain' : List ℕ) : Type 0 where
  pub marks : visited' ≡ (chain_at g i).visited
  pub marked : length visited' ≡ g.slices
  pub hung : Between points visited' w link' g.slices g.starts
  pub built : chain_of room' r.verts ≡ (chain_at g i).chain.built
  pub some : 0 < r.verts
  pub fits : done_to g i + r.verts ≤ most_of g
  pub how : r.how ≡ how_of (chain_at g i).chain.ending
  pub listed : Begun r.rounds (order_to g i ++ slices_of (chain_at g i).chain) chain g.slices chain'
  pub few : r.rounds ≤ g.slices
  pub beyond : (v : ℕ) → 3 * most_of g ≤ 3 * done_to g i + v → drop v room' ≡ drop v room
  pub size : length room' ≡ length room
