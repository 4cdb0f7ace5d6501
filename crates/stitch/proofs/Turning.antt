-- Laws of a slice's turn: what its chain leaves stands behind what was left before.
use Prim.Native.Nat.{ℕ, zero, suc, ◌+◌, ◌-◌, ◌*◌, ◌≤◌, ◌<◌}
use mathlib.Core.Bool.{Bool, true, false}
use mathlib.Core.Path.{◌≡◌, refl, sym, ap, subst, ◌∙◌}
use mathlib.Core.List.{List, [], ◌∷◌, ◌++◌, append-nil, map, map-append, flat_map, reverse}
use native.Mathlib.Numerals.{add-one}
use native.Mathlib.Omega.{arith}
use lib.Dec.{eqb}
use lib.ListN.{length, get_or, set, take, drop, length-append, length-drop, length-map, length-reverse}
use lib.Seq.{take-add, drop-drop, length-take-le}
use lib.Ieee.{Float}
use Rattle.basis.specs.Sizes.{most_vertices}
use Rattle.outline.specs.declared.point.Vertex.{Vertex}
use Rattle.outline.specs.Points.{vertex_numbers}
use Rattle.stitch_vertices.specs.Vertices.{drop_last}
use Rattle.stitch_vertices.specs.Held.{chain_of}
use Rattle.stitch_vertices.specs.RestLaws.{chain_length, chain-less, chain-numbers, rest-lent, rest-front, rest_back}
use Rattle.stitch_tally.specs.declared.tally.ChainEnd.{ChainEnd}
use Rattle.stitch_tally.specs.declared.tally.Tally.{Tally}
use Rattle.stitch_run.specs.Run.{Ending, closed, too_small, no_candidate, no_selection, Chain, Stitched, opened, added, begun, turn, turns, slices_of, order_of}
use Rattle.stitch_run.specs.Stitch.{Given, rules_of, loop_of, loops_of, how_of, totals, sum_below, weight_at, need_for, need_of}
use Rattle.slice.specs.Slice.{slice_view}
use Rattle.stitch_run.specs.Demand3.{sum_over, leaves, finished}
use Rattle.stitch_run.specs.SumLaws.{sum-append}
use Rattle.basis.specs.FlatLaws.{flat-snoc}
use Rattle.stitch_run.specs.TallyLaws.{tally-most}
use Rattle.stitch_run.specs.RunLaws.{going-opened, kept-turns}
use Rattle.stitch_run.specs.StitchLaws.{among}
use Rattle.stitch_run.specs.ReportLaws.{order-snoc, loops-snoc, totals-snoc, totals-length, sum-map, flat-length, loops-size, loops-few, chains-few}
use Rattle.stitch_layout.specs.declared.layout.Layout.{Layout}
use Rattle.stitch_slices.specs.Ready.{Sound}
use Rattle.stitch_chain.specs.Ready.{Begun, chains_to, order_to, most_of, Opening, chain_at, Walked}
use Rattle.stitch.specs.Lent.{numbers_of, ends_of, chain_ends_of, hows_of, Lists, lists, Holds, TurnFit, Turned}
use Rattle.stitch_tally.specs.Tallied.{EndFit, EndListed, loop_end, tally_after, ends_after, LoopFit, LoopListed}
use Rattle.stitch_chain.specs.ChainLaws.{begins-fit, begun-put}

-- ---- the need

pub need-some : (at : List ℕ) (n i : ℕ) → i < n → need_of at n ≡ 1 + sum_below (weight_at at) n
unfolding need_of need_for
need-some at zero i h = absurd (omega arith)
need-some at (suc n) i h = refl

-- each weight is at most that of the greatest offset
pub sum-most : (g : Given) → Sound g → (n : ℕ) → n ≤ g.slices → sum_below (weight_at g.slice_at) n ≤ (most_vertices + 1) * n
unfolding sum_below weight_at slice_view
sum-most g s zero h = omega arith
sum-most g s (suc n) h = let v = s.views n (omega arith) in omega (arith, sum-most g s n (omega arith), v.reaches, v.whole.most)

-- ---- one chain more

-- a chain that is closed leaves a loop, and no other does
data Left (e : Ending) : Type 0 where
  looped : eqb (how_of e) 0 ≡ true → ((vs : List Vertex) → loop_of e vs ≡ reverse (drop_last vs) ∷ []) → ((m : ℕ) → leaves e m ≡ m - 1) → Left e
  nothing : eqb (how_of e) 0 ≡ false → ((vs : List Vertex) → loop_of e vs ≡ []) → ((m : ℕ) → leaves e m ≡ 0) → Left e

left-of : (e : Ending) → Left e
unfolding how_of loop_of
left-of closed = looped refl (λ vs. refl) (λ m. refl)
left-of too_small = nothing refl (λ vs. refl) (λ m. refl)
left-of no_candidate = nothing refl (λ vs. refl) (λ m. refl)
left-of no_selection = nothing refl (λ vs. refl) (λ m. refl)

module _ (l : List (Chain (List Vertex))) (c : Chain (List Vertex)) where
  -- nothing more is left
  none-numbers : loop_of c.ending c.built ≡ [] → numbers_of (l ++ (c ∷ [])) ≡ numbers_of l
  none-numbers e = ap (λ (z : List (List Vertex)). flat_map (λ vs. flat_map vertex_numbers vs) z) (loops-snoc l c ∙ ap (λ (z : List (List Vertex)). loops_of l ++ z) e ∙ append-nil (loops_of l))

  none-ends : loop_of c.ending c.built ≡ [] → ends_of (l ++ (c ∷ [])) ≡ ends_of l
  none-ends e = ap (λ (z : List (List Vertex)). totals 0 (map length z)) (loops-snoc l c ∙ ap (λ (z : List (List Vertex)). loops_of l ++ z) e ∙ append-nil (loops_of l))

  -- a loop more
  loop-numbers : (vs : List Vertex) → loop_of c.ending c.built ≡ vs ∷ [] → numbers_of (l ++ (c ∷ [])) ≡ numbers_of l ++ flat_map vertex_numbers vs
  loop-numbers vs e =
      ap (λ (z : List (List Vertex)). flat_map (λ vs. flat_map vertex_numbers vs) z) (loops-snoc l c ∙ ap (λ (z : List (List Vertex)). loops_of l ++ z) e)
      ∙ flat-snoc (λ vs. flat_map vertex_numbers vs) (loops_of l) vs

  loop-ends : (vs : List Vertex) → loop_of c.ending c.built ≡ vs ∷ [] → ends_of (l ++ (c ∷ [])) ≡ ends_of l ++ ((finished length l + length vs) ∷ [])
  loop-ends vs e =
      ap (λ (z : List (List Vertex)). totals 0 (map length z)) (loops-snoc l c ∙ ap (λ (z : List (List Vertex)). loops_of l ++ z) e)
      ∙ ap (totals 0) (map-append length (loops_of l) (vs ∷ []))
      ∙ totals-snoc 0 (map length (loops_of l)) (length vs)
      ∙ ap (λ (n : ℕ). ends_of l ++ (n ∷ [])) (let s = sum-map length (loops_of l) in let t = loops-size l in let q : 0 + sum_over (λ i. i) (map length (loops_of l)) + length vs ≡ finished length l + length vs = omega arith in q)

  more-ends : chain_ends_of (l ++ (c ∷ [])) ≡ chain_ends_of l ++ ((length (order_of l) + length (slices_of c)) ∷ [])
  unfolding order_of
  more-ends =
      ap (totals 0) (map-append (λ c. length (slices_of c)) l (c ∷ []))
      ∙ totals-snoc 0 (map (λ c. length (slices_of c)) l) (length (slices_of c))
      ∙ ap (λ (n : ℕ). chain_ends_of l ++ (n ∷ []))
      (let s = sum-map (λ d. length (slices_of d)) l in let t = flat-length slices_of l in
      let q : 0 + sum_over (λ i. i) (map (λ c. length (slices_of c)) l) + length (slices_of c) ≡ length (flat_map slices_of l) + length (slices_of c) = omega arith in q)

  more-hows : hows_of (l ++ (c ∷ [])) ≡ hows_of l ++ (how_of c.ending ∷ [])
  more-hows = map-append (λ c. how_of c.ending) l (c ∷ [])

  more-done : finished length (l ++ (c ∷ [])) ≡ finished length l + leaves c.ending (length c.built)
  more-done = omega (arith, sum-append (λ d. leaves d.ending (length d.built)) l (c ∷ []))

-- the same items by another name
begun-as : {A : Type 0} (k k' : ℕ) (items items' entry : List A) (need : ℕ) (l l' : List A) → k ≡ k' → items ≡ items' → l ≡ l' → Begun k items entry need l → Begun k' items' entry need l'
begun-as k k' items items' entry need l l' p q r b =
    record {
      front = ap (λ (n : ℕ). take n l') (sym p) ∙ ap (take k) (sym r) ∙ b.front ∙ q;
      counted = sym p ∙ b.counted ∙ ap length q;
      beyond = ap (drop need) (sym r) ∙ b.beyond;
      size = ap length (sym r) ∙ b.size;
    }

-- ---- the vertex room: its rest, from vertex d on, was lent, and came back as `part`
module _ (room part : List Float) (d need : ℕ) (items : List Float) (h : 3 * d ≤ length room) (b : Begun (3 * d) items room (3 * need) room) where
  abbrev back : List Float
  back = take (3 * d) room ++ (part ++ drop (length room - 3 * d) (drop (3 * d) room))

  module _ (size : length part ≡ length (drop (3 * d) room)) (few : d ≤ need) (beyond : drop (3 * (need - d)) part ≡ drop (3 * (need - d)) (drop (3 * d) room)) where
    back-length : length back ≡ length room
    back-length =
        let p = ap length (rest_back (3 * d) room h part) in
        let q = ap length (rest-front (3 * d) room h part) in
        omega (arith, p, q, size, length-drop (3 * d) back, length-drop (3 * d) room, length-append (take (3 * d) room) (part ++ drop (length room - 3 * d) (drop (3 * d) room)), length-take-le (3 * d) room h, length-append part (drop (length room - 3 * d) (drop (3 * d) room)))

    back-beyond : drop (3 * need) back ≡ drop (3 * need) room
    back-beyond =
        let e : 3 * d + 3 * (need - d) ≡ 3 * need = omega arith in
        subst (λ (n : ℕ). drop n back ≡ drop n room) e
        (sym (drop-drop (3 * (need - d)) (3 * d) back) ∙ ap (drop (3 * (need - d))) (rest_back (3 * d) room h part) ∙ beyond ∙ drop-drop (3 * (need - d)) (3 * d) room)

    -- a discarded chain leaves nothing
    pub back_none : Begun (3 * d) items room (3 * need) back
    back_none = record { front = rest-front (3 * d) room h part ∙ b.front; counted = b.counted; beyond = back-beyond; size = back-length }

    -- a closed chain leaves its first k vertices
    pub back-loop : (k : ℕ) → 3 * k ≤ length part → Begun (3 * (d + k)) (items ++ flat_map vertex_numbers (reverse (chain_of part k))) room (3 * need) back
    back-loop k f =
        let e : 3 * (d + k) ≡ 3 * d + 3 * k = omega arith in
        let t : take (3 * (d + k)) back ≡ items ++ flat_map vertex_numbers (reverse (chain_of part k)) =
        ap (λ (n : ℕ). take n back) e ∙ take-add (3 * d) (3 * k) back
        ∙ ap (λ (z : List Float). z ++ take (3 * k) (drop (3 * d) back)) (rest-front (3 * d) room h part ∙ b.front)
        ∙ ap (λ (z : List Float). items ++ z) (ap (take (3 * k)) (rest_back (3 * d) room h part) ∙ chain-numbers part k f) in
        record {
          front = t;
          counted = sym (length-take-le (3 * (d + k)) back (omega (arith, back-length, size, length-drop (3 * d) room))) ∙ ap length t;
          beyond = back-beyond;
          size = back-length;
        }

-- ---- a turn

module _ {g : Given} {i : ℕ} {points : List Float} {by : Layout} {visited : List Bool} {link : List ℕ} {w : Tally} {x : Lists} (t : TurnFit g i points by visited link w x) where
  abbrev room : List Float
  room = x.room

  -- a slice that has been visited begins no chain
  pub turn-skip : get_or visited i false ≡ true → Turned g i points by x w visited link x
  unfolding turns turn begun
  turn-skip e =
      let h : get_or (turns (rules_of g) i).visited i false ≡ true = rw t.marks at e in
      let q : turns (rules_of g) (i + 1) ≡ turns (rules_of g) i = rw add-one (ap (λ (b : Bool). begun (rules_of g) b i (turns (rules_of g) i)) h) in
      record {
        marks = t.marks ∙ ap (λ (s : Stitched (List Vertex)). s.visited) (sym q);
        marked = t.marked;
        hung = t.hung;
        holds = subst (λ (s : Stitched (List Vertex)). Holds g s.chains x w x) (sym q) t.holds;
      }

  module _ (e : get_or visited i false ≡ false) where
    fresh : get_or (turns (rules_of g) i).visited i false ≡ false
    fresh = rw t.marks at e

    need-is : need_of g.slice_at g.slices ≡ most_of g
    need-is = need-some g.slice_at g.slices i t.here

    pub turn-behind : 3 * w.done ≤ length room
    turn-behind = omega (arith, t.holds.done, begins-fit g i t.here fresh, need-is, t.long.room)

    pub turn-open : {part : List Float} → part ≡ take (length room - 3 * w.done) (drop (3 * w.done) room) → Opening g i points visited link by part x.chain w.rounds
    turn-open {part} q =
        record {
          sound = t.sound;
          table = t.table;
          here = t.here;
          marks = t.marks;
          marked = t.marked;
          unvisited = e;
          hung = t.hung;
          roomy = omega (arith, ap length (q ∙ rest-lent (3 * w.done) room turn-behind), length-drop (3 * w.done) room, t.holds.done, need-is, t.long.room, turn-behind);
          listed = t.holds.chain;
          long = t.long.chain;
        }

    -- fewer chains than slices, and no more loops than chains
    chains-low : w.chains < g.slices
    unfolding rules_of opened
    chains-low =
        let R = rules_of g in
        let k = kept-turns R (among g) i (omega (arith, t.here)) in
        let u = going-opened R (among g) i (turns R i) t.here fresh k in
        omega (
          arith,
          tally-most g.slices _ _ u.tally,
          length-append (order_to g i) (i ∷ []),
          chains-few (chains_to g i) k.lowest,
          t.holds.chain_how.counted,
          length-map (chains_to g i) (λ c. how_of c.ending),
        )

    loops-low : w.loops ≤ w.chains
    loops-low =
        omega (
          arith,
          t.holds.ends.counted,
          totals-length 0 (map length (loops_of (chains_to g i))),
          length-map (loops_of (chains_to g i)) length,
          loops-few (chains_to g i),
          t.holds.chain_how.counted,
          length-map (chains_to g i) (λ c. how_of c.ending),
        )

    pub turn-listed : EndFit x.chain_ends x.chain_how w.chains
    turn-listed = record { first = omega (arith, chains-low, t.long.chain_ends); second = omega (arith, chains-low, t.long.chain_how) }

    pub turn-looped : {part : List Float} {r : ChainEnd} {visited' : List Bool} {link' : List ℕ} {part' : List Float} {chain' : List ℕ} → Walked g i points by part x.chain r visited' link' part' chain' → LoopFit x.ends w r
    turn-looped k =
        record {
          inside = omega (arith, loops-low, chains-low, t.long.ends);
          some = k.some;
          few = omega (arith, k.fits, t.holds.done, sum-most g t.sound g.slices (omega arith), t.sound.few);
          chains = omega (arith, chains-low, t.sound.few);
        }

    -- the chain was walked in the rest of the room, and what it leaves was listed
    module _ {part : List Float} {r : ChainEnd} {visited' : List Bool} {link' : List ℕ} {part' : List Float} {chain' chain_ends' chain_how' : List ℕ} {w' : Tally} {ends' : List ℕ}
        (q : part ≡ take (length room - 3 * w.done) (drop (3 * w.done) room))
        (k : Walked g i points by part x.chain r visited' link' part' chain')
        (m : EndListed w.chains r x.chain_ends x.chain_how chain_ends' chain_how')
        (n : LoopListed w r x.ends w' ends') where
      abbrev l : List (Chain (List Vertex))
      l = chains_to g i

      abbrev c : Chain (List Vertex)
      c = (chain_at g i).chain

      abbrev need : ℕ
      need = need_of g.slice_at g.slices

      abbrev room' : List Float
      room' = take (3 * w.done) room ++ (part' ++ drop (length room - 3 * w.done) (drop (3 * w.done) room))

      abbrev x' : Lists
      x' = lists room' ends' chain' chain_ends' chain_how'

      turns-is : turns (rules_of g) (i + 1) ≡ added (rules_of g) (turns (rules_of g) i) (chain_at g i)
      unfolding turns turn begun
      turns-is = rw add-one (ap (λ (b : Bool). begun (rules_of g) b i (turns (rules_of g) i)) fresh)

      part-is : part ≡ drop (3 * w.done) room
      part-is = q ∙ rest-lent (3 * w.done) room turn-behind

      few-is : w.done ≤ need
      few-is = omega (arith, t.holds.done, begins-fit g i t.here fresh, need-is)

      beyond-is : drop (3 * (need - w.done)) part' ≡ drop (3 * (need - w.done)) (drop (3 * w.done) room)
      beyond-is = k.beyond (3 * (need - w.done)) (omega (arith, few-is, need-is, t.holds.done)) ∙ ap (drop (3 * (need - w.done))) part-is

      size_is : length part' ≡ length (drop (3 * w.done) room)
      size_is = k.size ∙ ap length part-is

      verts-is : length c.built ≡ r.verts
      verts-is = sym (ap length k.built) ∙ chain_length part' r.verts

      how-is : r.how ≡ how_of c.ending
      how-is = k.how

      chain-now : Begun r.rounds (order_of (l ++ (c ∷ []))) x.chain g.slices chain'
      chain-now = begun-as r.rounds r.rounds _ _ x.chain g.slices chain' chain' refl (sym (order-snoc l c)) refl k.listed

      ends_now : Begun (w.chains + 1) (chain_ends_of (l ++ (c ∷ []))) x.chain_ends g.slices chain_ends'
      ends_now =
          let a : r.rounds ≡ length (order_of l) + length (slices_of c) = k.listed.counted ∙ length-append (order_of l) (slices_of c) in
          begun-as (w.chains + 1) (w.chains + 1) _ _ x.chain_ends g.slices _ chain_ends' refl (ap (λ (z : ℕ). chain_ends_of l ++ (z ∷ [])) a ∙ sym (more-ends l c)) (sym m.first)
          (begun-put w.chains (chain_ends_of l) x.chain_ends g.slices x.chain_ends r.rounds t.holds.chain_ends chains-low t.long.chain_ends)

      hows-now : Begun (w.chains + 1) (hows_of (l ++ (c ∷ []))) x.chain_how g.slices chain_how'
      hows-now =
          begun-as (w.chains + 1) (w.chains + 1) _ _ x.chain_how g.slices _ chain_how' refl (ap (λ (z : ℕ). hows_of l ++ (z ∷ [])) how-is ∙ sym (more-hows l c)) (sym m.second)
          (begun-put w.chains (hows_of l) x.chain_how g.slices x.chain_how r.how t.holds.chain_how chains-low t.long.chain_how)

      holds_by : Left c.ending → Holds g (l ++ (c ∷ [])) x w' x'
      unfolding tally_after ends_after how_of
      holds_by (nothing h none gone) =
          let y : eqb r.how 0 ≡ false = ap (λ (z : ℕ). eqb z 0) how-is ∙ h in
          let v : w' ≡ record { done = w.done; loops = w.loops; chains = w.chains + 1; rounds = r.rounds } = n.tally ∙ rw y in
          let u : ends' ≡ x.ends = n.listed ∙ rw y in
          subst (λ (z : Tally). Holds g (l ++ (c ∷ [])) x z x') (sym v)
          (record {
            done = omega (arith, t.holds.done, more-done l c, gone (length c.built));
            room =
                begun-as (3 * w.done) (3 * w.done) _ _ room (3 * need) room' room' refl (sym (none-numbers l c (none c.built))) refl
                (back_none room part' w.done need (numbers_of l) turn-behind t.holds.room size_is few-is beyond-is);
            ends = begun-as w.loops w.loops _ _ x.ends g.slices x.ends ends' refl (sym (none-ends l c (none c.built))) (sym u) t.holds.ends;
            chain = chain-now;
            chain_ends = ends_now;
            chain_how = hows-now;
          })
      holds_by (looped h loop gone) =
          let y : eqb r.how 0 ≡ true = ap (λ (z : ℕ). eqb z 0) how-is ∙ h in
          let v : w' ≡ record { done = loop_end w r; loops = w.loops + 1; chains = w.chains + 1; rounds = r.rounds } = n.tally ∙ rw y in
          let u : ends' ≡ set x.ends w.loops (loop_end w r) = n.listed ∙ rw y in
          let b : drop_last c.built ≡ chain_of part' (r.verts - 1) = ap drop_last (sym k.built) ∙ sym (chain-less part' r.verts k.some) in
          let f : loop_of c.ending c.built ≡ reverse (chain_of part' (r.verts - 1)) ∷ [] = loop c.built ∙ ap (λ (z : List Vertex). reverse z ∷ []) b in
          let e : finished length l + length (reverse (chain_of part' (r.verts - 1))) ≡ loop_end w r =
          omega (arith, t.holds.done, length-reverse (chain_of part' (r.verts - 1)), chain_length part' (r.verts - 1)) in
          subst (λ (z : Tally). Holds g (l ++ (c ∷ [])) x z x') (sym v)
          (record {
            done = omega (arith, t.holds.done, more-done l c, gone (length c.built), verts-is);
            room =
                begun-as (3 * loop_end w r) (3 * loop_end w r) _ _ room (3 * need) room' room' refl (sym (loop-numbers l c _ f)) refl
                (back-loop room part' w.done need (numbers_of l) turn-behind t.holds.room size_is few-is beyond-is (r.verts - 1)
                (omega (arith, size_is, length-drop (3 * w.done) room, k.fits, t.holds.done, need-is, t.long.room, turn-behind)));
            ends =
                begun-as (w.loops + 1) (w.loops + 1) _ _ x.ends g.slices _ ends' refl (ap (λ (z : ℕ). ends_of l ++ (z ∷ [])) (sym e) ∙ sym (loop-ends l c _ f)) (sym u)
                (begun-put w.loops (ends_of l) x.ends g.slices x.ends (loop_end w r) t.holds.ends (omega (arith, loops-low, chains-low)) t.long.ends);
            chain = chain-now;
            chain_ends = ends_now;
            chain_how = hows-now;
          })

      pub turn-taken : Turned g i points by x w' visited' link' x'
      unfolding added
      turn-taken =
          record {
            marks = k.marks ∙ ap (λ (s : Stitched (List Vertex)). s.visited) (sym turns-is);
            marked = k.marked;
            hung = k.hung;
            holds = subst (λ (s : Stitched (List Vertex)). Holds g s.chains x w' x') (sym turns-is) (holds_by (left-of c.ending));
          }
