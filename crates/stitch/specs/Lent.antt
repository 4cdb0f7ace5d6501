-- Between two chains: what the lent lists hold, and what the functions require and leave of them.
use Rattle.std.specs.Prelude.{ℕ, ◌+◌, ◌*◌, ◌≤◌, ◌<◌, Bool, false, ◌≡◌, length, get_or, replicate, Float}
use mathlib.Core.List.{List, map, flat_map}
use Rattle.basis.specs.Number.{+0}
use Rattle.basis.specs.Sizes.{most_vertices, most_slices}
use Rattle.basis.specs.Room.{room_of, cleared, Stretch}
use Rattle.outline.specs.declared.point.Vertex.{Vertex}
use Rattle.outline.specs.Points.{vertex_numbers}
use Rattle.stitch_tally.specs.declared.tally.Tally.{Tally}
use Rattle.stitch.specs.declared.lent.Lent.{Lent}
use Rattle.stitch.specs.declared.write.Stitched.{Stitched}
use Rattle.stitch_run.specs.Run.{Chain, turns, slices_of, order_of}
use Rattle.stitch_run.specs.Stitch.{Given, rules_of, run_of, loops_of, how_of, totals, need_of, round_count, loop_count, chain_count, room_items, end_items, chain_items, chain_end_items, how_items}
use Rattle.slice.specs.Slice.{code_width, slice_offset}
use Rattle.stitch_run.specs.Demand3.{finished}
use Rattle.stitch_layout.specs.declared.layout.Layout.{Layout}
use Rattle.stitch_links.specs.Hung.{Between}
use Rattle.stitch_slices.specs.Ready.{Sound, Points}
use Rattle.stitch_chain.specs.Ready.{Begun, chains_to}

-- what the chains l leave in each list
abbrev pub numbers_of : List (Chain (List Vertex)) → List Float
numbers_of l = flat_map (λ vs. flat_map vertex_numbers vs) (loops_of l)

abbrev pub ends_of : List (Chain (List Vertex)) → List ℕ
ends_of l = totals 0 (map length (loops_of l))

abbrev pub chain_ends_of : List (Chain (List Vertex)) → List ℕ
chain_ends_of l = totals 0 (map (λ c. length (slices_of c)) l)

abbrev pub hows_of : List (Chain (List Vertex)) → List ℕ
hows_of l = map (λ c. how_of c.ending) l

-- the lent lists
pub record Lists : Type 0 where
  pub room : List Float
  pub ends : List ℕ
  pub chain : List ℕ
  pub chain_ends : List ℕ
  pub chain_how : List ℕ

abbrev pub lists : List Float → List ℕ → List ℕ → List ℕ → List ℕ → Lists
lists room ends chain chain_ends chain_how = record { room = room; ends = ends; chain = chain; chain_ends = chain_ends; chain_how = chain_how }

-- the same of the struct in which the code hands them on
abbrev pub lists_of : Lent → Lists
lists_of x = lists x.room.now x.ends.now x.chain.now x.chain_ends.now x.chain_how.now

-- its references are still those that were handed in
pub record SameMemory (x x' : Lent) : Type 0 where
  pub room : x'.room.ghost_name ≡ x.room.ghost_name
  pub ends : x'.ends.ghost_name ≡ x.ends.ghost_name
  pub chain : x'.chain.ghost_name ≡ x.chain.ghost_name
  pub chain_ends : x'.chain_ends.ghost_name ≡ x.chain_ends.ghost_name
  pub chain_how : x'.chain_how.ghost_name ≡ x.chain_how.ghost_name

-- "the ends and the chain lists each need one entry per slice"
pub record Long (g : Given) (x : Lists) : Type 0 where
  pub room : 3 * need_of g.slice_at g.slices ≤ length x.room
  pub ends : g.slices ≤ length x.ends
  pub chain : g.slices ≤ length x.chain
  pub chain_ends : g.slices ≤ length x.chain_ends
  pub chain_how : g.slices ≤ length x.chain_how

-- the lists, which were e at the start, hold in front what the chains l leave, and w counts it
pub record Holds (g : Given) (l : List (Chain (List Vertex))) (e : Lists) (w : Tally) (x : Lists) : Type 0 where
  pub done : w.done ≡ finished length l
  pub room : Begun (3 * w.done) (numbers_of l) e.room (3 * need_of g.slice_at g.slices) x.room
  pub ends : Begun w.loops (ends_of l) e.ends g.slices x.ends
  pub chain : Begun w.rounds (order_of l) e.chain g.slices x.chain
  pub chain_ends : Begun w.chains (chain_ends_of l) e.chain_ends g.slices x.chain_ends
  pub chain_how : Begun w.chains (hows_of l) e.chain_how g.slices x.chain_how

-- slice i's turn
pub record TurnFit (g : Given) (i : ℕ) (points : List Float) (by : Layout) (visited : List Bool) (link : List ℕ) (w : Tally) (x : Lists) : Type 0 where
  pub sound : Sound g
  pub table : Points g points
  pub here : i < g.slices
  pub long : Long g x
  pub marks : visited ≡ (turns (rules_of g) i).visited
  pub marked : length visited ≡ g.slices
  pub hung : Between points visited by link g.slices g.starts
  pub holds : Holds g (chains_to g i) x w x

pub record Turned (g : Given) (i : ℕ) (points : List Float) (by : Layout) (x : Lists) (w' : Tally) (visited' : List Bool) (link' : List ℕ) (x' : Lists) : Type 0 where
  pub marks : visited' ≡ (turns (rules_of g) (i + 1)).visited
  pub marked : length visited' ≡ g.slices
  pub hung : Between points visited' by link' g.slices g.starts
  pub holds : Holds g (chains_to g (i + 1)) x w' x'

-- every slice's turn: nothing has been visited, and nothing is left yet
pub record TurnsFit (g : Given) (points : List Float) (by : Layout) (visited : List Bool) (link : List ℕ) (x : Lists) : Type 0 where
  pub sound : Sound g
  pub table : Points g points
  pub long : Long g x
  pub marks : visited ≡ replicate g.slices false
  pub marked : length visited ≡ g.slices
  pub hung : Between points visited by link g.slices g.starts

pub record AllTurned (g : Given) (x : Lists) (w : Tally) (x' : Lists) : Type 0 where
  pub holds : Holds g (run_of g) x w x'

-- ---- the room behind what was written

pub record NeedFit (at : List ℕ) (n : ℕ) : Type 0 where
  pub long : code_width * n ≤ length at
  pub few : n ≤ most_slices
  pub offsets : (i : ℕ) → i < n → slice_offset at i ≤ most_vertices

pub record RestFit (x : Lists) (w : Tally) (need n : ℕ) : Type 0 where
  pub room : Stretch x.room (3 * w.done) (3 * need)
  pub ends : Stretch x.ends w.loops n
  pub chain : Stretch x.chain w.rounds n
  pub chain_ends : Stretch x.chain_ends w.chains n
  pub chain_how : Stretch x.chain_how w.chains n

pub record RestCleared (x : Lists) (w : Tally) (need n : ℕ) (x' : Lists) : Type 0 where
  pub room : x'.room ≡ cleared +0 (3 * w.done) (3 * need) x.room
  pub ends : x'.ends ≡ cleared 0 w.loops n x.ends
  pub chain : x'.chain ≡ cleared 0 w.rounds n x.chain
  pub chain_ends : x'.chain_ends ≡ cleared 0 w.chains n x.chain_ends
  pub chain_how : x'.chain_how ≡ cleared 0 w.chains n x.chain_how

-- ---- the whole

pub record StitchFit (g : Given) (x : Lists) : Type 0 where
  pub sound : Sound g
  pub long : Long g x

-- no more slices than `most`
pub record Few (most : ℕ) (g : Given) (x : Lists) : Type 0 where
  pub fit : StitchFit g x
  pub few : g.slices ≤ most

-- working lists for at most `most` slices: so many numbers for their start points, so many lists of cells, so many links
pub record Sized (most numbers held links : ℕ) : Type 0 where
  pub few : most ≤ most_slices
  pub points : numbers ≡ 2 * most
  pub small : held ≤ 4096
  pub long : 0 < held → held + most + most ≤ links
  pub short : links ≤ 8192

-- a table for the slices' start points, and their marks: nothing has been visited. Links for so many lists, which hold no slice
pub record Tabled (g : Given) (points : List Float) (visited : List Bool) (link : List ℕ) (held : ℕ) (x : Lists) : Type 0 where
  pub fit : StitchFit g x
  pub size : 2 * g.slices ≤ length points
  pub marks : visited ≡ replicate g.slices false
  pub small : held ≤ 4096
  pub long : 0 < held → held + g.slices + g.slices ≤ length link
  pub none : (h : ℕ) → h < held → held + g.slices ≤ get_or link h 0

-- the answer, and each list by the room rule: the items, zero up to the need, what it held before
pub record Written (g : Given) (x : Lists) (r : Stitched) (x' : Lists) : Type 0 where
  pub rounds : r.rounds ≡ round_count g
  pub loops : r.loops ≡ loop_count g
  pub chains : r.chains ≡ chain_count g
  pub room : x'.room ≡ room_of +0 3 (need_of g.slice_at g.slices) (room_items g) x.room
  pub ends : x'.ends ≡ room_of 0 1 g.slices (end_items g) x.ends
  pub chain : x'.chain ≡ room_of 0 1 g.slices (chain_items g) x.chain
  pub chain_ends : x'.chain_ends ≡ room_of 0 1 g.slices (chain_end_items g) x.chain_ends
  pub chain_how : x'.chain_how ≡ room_of 0 1 g.slices (how_items g) x.chain_how
