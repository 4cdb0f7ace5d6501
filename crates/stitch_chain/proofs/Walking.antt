-- Laws of a chain's rounds.
use Prim.Native.Nat.{ℕ, zero, suc, ◌+◌, ◌-◌, ◌*◌, ◌≤◌, ◌<◌}
use mathlib.Core.Bool.{Bool, true, false}
use mathlib.Core.Path.{◌≡◌, refl, sym, ap, subst, ◌∙◌}
use mathlib.Core.List.{List, [], ◌∷◌, ◌++◌, append_assoc, append-nil, map, map-append}
use native.Mathlib.Omega.{arith}
use lib.ListN.{length, get_or, set, drop, length-append, length-set}
use lib.Ieee.{Float}
use Rattle.outline.specs.declared.point.Vertex.{Vertex}
use Rattle.stitch_vertices.specs.Vertices.{drop_last}
use Rattle.stitch_vertices.specs.Held.{chain_of}
use Rattle.stitch_vertices.specs.RestLaws.{chain_length, chain-less}
use Rattle.stitch_run.specs.declared.plan.Plan.{Plan}
use Rattle.stitch_tally.specs.declared.tally.ChainEnd.{ChainEnd}
use Rattle.stitch_layout.specs.declared.layout.Layout.{Layout}
use Rattle.stitch_links.specs.Hung.{Hung, hung-visit, hung-begin}
use Rattle.stitch_round.specs.declared.step.Step.{Step}
use Rattle.stitch_round.specs.declared.step.Step.TheVariants.{Onto, Ends}
use Rattle.stitch_run.specs.Run.{Rules, Ending, Next, onto, ends, Underway, Finished, next_of, round_of, opened, onward, ended, walk, chain_from, turns, slices_of}
use Rattle.stitch_run.specs.Stitch.{given, Given, rules_of, add_slice, how_of, weight_at}
use Rattle.slice.specs.Slice.{slice_offset}
use Rattle.stitch_run.specs.TallyLaws.{tally-weight, tally-most}
use Rattle.stitch_run.specs.RunLaws.{placed, placed-longer, onto-facts, Going, going-onward, going-opened, ended-slices, kept-turns}
use Rattle.stitch_run.specs.NeedLaws.{Roomy, round-fits, roomy-onward, roomy-opened, held-turns}
use Rattle.stitch_run.specs.StitchLaws.{among, grows}
use Rattle.stitch_round.specs.Ready.{told_of, RoundFit, standing, Rounded}
use Rattle.stitch_slices.specs.Ready.{Sound, Points}
use Rattle.stitch_chain.specs.Ready.{Begun, Placing, Placed, order_to, done_to, most_of, Opening, chain_at, Walked}
use Rattle.stitch_chain.specs.ChainLaws.{begun-put, begins-fit}

-- ---- the loop of rounds. w is the chain under way, as the definition has it; `left` slices may still be joined

pub record Walking (g : Given) (i : ℕ) (points : List Float) (by : Layout) (link₀ : List ℕ) (room₀ : List Float) (chain₀ : List ℕ) (visited : List Bool) (link : List ℕ) (room : List Float) (chain : List ℕ) (n current rounds : ℕ) : Type 0 where
  w : Underway (List Vertex)
  left : ℕ
  going : Going (rules_of g) (among g) (order_to g i) w
  roomy : Roomy (rules_of g) (among g) length (weight_at g.slice_at) (grows g) (done_to g i) (order_to g i) w
  first-is : w.first ≡ i
  current-is : w.current ≡ current
  built-is : w.built ≡ chain_of room n
  marks-is : w.visited ≡ visited
  whole : walk (rules_of g) left (next_of (rules_of g) w) w ≡ chain_at g i
  enough : g.slices ≤ left + length (order_to g i ++ placed w)
  listed : Begun rounds (order_to g i ++ map (λ r. r.slice) w.past) chain₀ g.slices chain
  beyond : (v : ℕ) → 3 * most_of g ≤ 3 * done_to g i + v → drop v room ≡ drop v room₀
  pub hung : Hung points visited i by link g.slices g.starts
  pub links : length link ≡ length link₀
  pub sound : Sound g
  pub table : Points g points
  pub size : length room ≡ length room₀
  pub some : 0 < n
  pub fits : done_to g i + n ≤ most_of g
  pub long : 3 * most_of g ≤ 3 * done_to g i + length room₀
  pub low : rounds < g.slices
  pub marked : length visited ≡ g.slices
  pub lines : g.slices ≤ length chain
  pub kept : length chain ≡ length chain₀

-- the outcome of a round, from what the code was told
onto-of : (x : Next) (j : ℕ) → Onto j ≡ told_of x → x ≡ onto j
onto-of (onto k) j e = cc
onto-of (ends x) j e = absurd (let z : ◌≡◌ {A = ℕ} 0 1 = cc in omega arith)

ends_of_lem : (x : Next) (how : ℕ) → Ends how ≡ told_of x → (e : Ending) × (x ≡ ends e) × (how ≡ how_of e)
ends_of_lem (onto k) how q = absurd (let z : ◌≡◌ {A = ℕ} 0 1 = cc in omega arith)
ends_of_lem (ends e) how q = (e, refl, cc)

-- one round of `walk`
module _ {C : Type 0} (R : Rules C) where
  walk-onto : (f j : ℕ) (w : Underway C) → next_of R w ≡ onto j → walk R (suc f) (next_of R w) w ≡ walk R f (next_of R (onward R w j)) (onward R w j)
  unfolding walk
  walk-onto f j w e = ap (λ (x : Next). walk R (suc f) x w) e

  walk_ends : (f : ℕ) (y : Ending) (w : Underway C) → next_of R w ≡ ends y → walk R f (next_of R w) w ≡ ended R w y
  unfolding walk
  walk_ends zero y w e = ap (λ (x : Next). walk R zero x w) e
  walk_ends (suc f) y w e = ap (λ (x : Next). walk R (suc f) x w) e

-- ---- what the definition's laws say of a chain under way

module _ (g : Given) (i : ℕ) (w : Underway (List Vertex)) (u : Going (rules_of g) (among g) (order_to g i) w) where
  -- before the round is listed there are fewer rounds than slices
  low_of : suc (length (order_to g i ++ map (λ r. r.slice) w.past)) ≤ g.slices
  unfolding rules_of
  low_of =
      omega (
        arith,
        tally-most g.slices _ _ u.tally,
        length-append (order_to g i) (placed w),
        length-append (map (λ r. r.slice) w.past) (w.current ∷ []),
        length-append (order_to g i) (map (λ r. r.slice) w.past),
      )

  marked-of : length w.visited ≡ g.slices
  unfolding rules_of
  marked-of = u.tally.size

  fits-of : Roomy (rules_of g) (among g) length (weight_at g.slice_at) (grows g) (done_to g i) (order_to g i) w → done_to g i + length w.built ≤ most_of g
  unfolding rules_of
  fits-of y = omega (arith, y.few, tally-weight g.slices _ _ (weight_at g.slice_at) u.tally)

next-same : (R : Rules (List Vertex)) (w : Underway (List Vertex)) (first current : ℕ) (vs : List Vertex) (visited : List Bool)
    → w.first ≡ first → w.current ≡ current → w.built ≡ vs → w.visited ≡ visited → next_of R (standing first current vs visited) ≡ next_of R w
unfolding next_of
next-same R w first current vs visited a b c d = rw (a, b, c, d)

module _ (o1 o2 : List Float) (at : List ℕ) (numbers : List Float) (p : Plan) (i : ℕ) (points : List Float) (by : Layout) where
  abbrev g : Given
  g = given o1 o2 at numbers p

  abbrev R : Rules (List Vertex)
  R = rules_of g

  open-roomy : {visited : List Bool} {link : List ℕ} {room : List Float} {chain : List ℕ} {before : ℕ} → Opening g i points visited link by room chain before
      → done_to g i + (slice_offset at i + 2) ≤ most_of g
  open-roomy o = begins-fit g i o.here (rw o.marks at o.unvisited)

  pub open-place : {visited : List Bool} {link : List ℕ} {room : List Float} {chain : List ℕ} {before : ℕ} → Opening g i points visited link by room chain before → Placing g i visited room 0
  open-place o =
      let y = open-roomy o in
      record {
        more = record { slice = record { sound = o.sound; here = o.here }; fits = omega (arith, o.roomy) };
        mark = omega (arith, o.marked, o.here);
      }

  pub walk_start : {visited : List Bool} {link : List ℕ} {room : List Float} {chain : List ℕ} {before n : ℕ} {visited' : List Bool} {room' : List Float}
      → Opening g i points visited link by room chain before → Placed g i 0 visited room n visited' room'
      → Walking g i points by link room' chain visited' link room' chain n i before
  unfolding rules_of chain_of opened weight_at
  walk_start {visited} {link} {room} {chain} {before} {n} {visited'} {room'} o q =
      let h : i ≤ p.slices = omega (arith, o.here) in
      let k = kept-turns R (among g) i h in
      let e : get_or (turns R i).visited i false ≡ false = rw o.marks at o.unvisited in
      let v = opened R (turns R i).visited i in
      let u = going-opened R (among g) i (turns R i) o.here e k in
      let y = roomy-opened R (among g) length (weight_at at) (grows g) i (turns R i) o.here e k (held-turns R (among g) length (weight_at at) (grows g) i h) in
      let b : v.built ≡ chain_of room' n = sym q.added.grown.chain in
      let m : v.visited ≡ visited' = sym (q.marks ∙ ap (λ (z : List Bool). set z i true) o.marks) in
      let z : length v.built ≡ n = ap length b ∙ chain_length room' n in
      record {
        w = v;
        left = p.slices;
        going = u;
        roomy = y;
        first-is = refl;
        current-is = refl;
        built-is = b;
        marks-is = m;
        whole = unfold chain_from in refl;
        enough = omega arith;
        listed = rw append-nil o.listed;
        beyond = λ x d. refl;
        hung = rw q.marks (hung-begin points visited o.hung.before by link p.slices p.starts i o.unvisited o.hung.hung);
        links = refl;
        sound = o.sound;
        table = o.table;
        size = refl;
        some = q.added.some;
        fits = omega (arith, fits-of g i v u y, z);
        long = omega (arith, o.roomy, q.added.grown.size);
        low = omega (arith, low_of g i v u, ap length (append-nil (order_to g i)), o.listed.counted);
        marked = ap length (sym m) ∙ marked-of g i v u;
        lines = o.long;
        kept = refl;
      }

  -- the rounds began in a room that the first slice was placed in
  pub walk-whole : {visited : List Bool} {link : List ℕ} {room : List Float} {chain : List ℕ} {before n : ℕ} {visited' : List Bool} {room' : List Float} {r : ChainEnd}
      {visited'' : List Bool} {link'' : List ℕ} {room'' : List Float} {chain'' : List ℕ}
      → Opening g i points visited link by room chain before → Placed g i 0 visited room n visited' room' → Walked g i points by room' chain r visited'' link'' room'' chain''
      → Walked g i points by room chain r visited'' link'' room'' chain''
  unfolding rules_of opened weight_at
  walk-whole o q x =
      let y = open-roomy o in
      record {
        marks = x.marks;
        marked = x.marked;
        hung = x.hung;
        built = x.built;
        some = x.some;
        fits = x.fits;
        how = x.how;
        listed = x.listed;
        few = x.few;
        beyond = λ v h. x.beyond v h ∙ q.added.grown.beyond v (omega (arith, y));
        size = x.size ∙ q.added.grown.size;
      }

  module _ {link₀ : List ℕ} {room₀ : List Float} {chain₀ : List ℕ} {visited : List Bool} {link : List ℕ} {room : List Float} {chain : List ℕ} {n current rounds : ℕ}
      (t : Walking g i points by link₀ room₀ chain₀ visited link room chain n current rounds) where
    pub walk-look : RoundFit points visited link by room n i p
    walk-look =
        record {
          scan = record { size = t.table.size; marks = t.marked; few = t.sound.few };
          hung = t.hung;
          some = t.some;
          fits = omega (arith, t.fits, t.long, t.size);
          selectors = t.sound.selectors;
        }

    long-is : length t.w.built ≡ n
    long-is = ap length t.built-is ∙ chain_length room n

    module _ {link' : List ℕ} {r : Step} (k : Rounded points visited link' by room n i current p r) where
      told : r ≡ told_of (next_of R t.w)
      told = k.is o1 o2 at numbers t.table ∙ ap told_of (next-same R t.w i current (chain_of room n) visited t.first-is t.current-is t.built-is t.marks-is)

      module _ {j : ℕ} (q : r ≡ Onto j) where
        onto-is : next_of R t.w ≡ onto j
        onto-is = onto-of (next_of R t.w) j (sym q ∙ told)

        joins : done_to g i + (n + (slice_offset at j + 1)) ≤ most_of g
        unfolding weight_at rules_of
        joins = omega (arith, round-fits R (among g) length (weight_at at) (grows g) (done_to g i) (order_to g i) t.w (onto j) onto-is t.going t.roomy, long-is)

        here : (j < p.slices) × (get_or t.w.visited j false ≡ false)
        unfolding rules_of
        here = onto-facts R (among g) t.w j onto-is

        pub walk-place : Placing g j visited room (n - 1)
        walk-place =
            record {
              more = record { slice = record { sound = t.sound; here = here.0 }; fits = omega (arith, joins, t.some, t.long, t.size) };
              mark = omega (arith, here.0, t.marked);
            }

        pub walk_more : {n' : ℕ} {visited' : List Bool} {room' : List Float} → length link' ≡ length link → Placed g j (n - 1) visited room n' visited' room'
            → Walking g i points by link₀ room₀ chain₀ visited' link' room' (set chain rounds current) n' j (rounds + 1)
        unfolding rules_of onward round_of
        walk_more {n'} {visited'} {room'} same x =
            let v = onward R t.w j in
            let u = going-onward R (among g) (order_to g i) t.w j onto-is t.going in
            let y = roomy-onward R (among g) length (weight_at at) (grows g) (done_to g i) (order_to g i) t.w j t.going t.roomy in
            let f = t.left - 1 in
            let s : t.left ≡ suc f = omega (arith, t.enough, placed-longer R (among g) (order_to g i) t.w j, tally-most p.slices _ _ u.tally) in
            let b : v.built ≡ chain_of room' n' =
            ap (λ (z : List Vertex). add_slice g j (drop_last z)) t.built-is ∙ ap (add_slice g j) (sym (chain-less room n t.some)) ∙ sym x.added.grown.chain in
            let m : v.visited ≡ visited' = ap (λ (z : List Bool). set z j true) t.marks-is ∙ sym x.marks in
            let c : (order_to g i ++ map (λ r. r.slice) t.w.past) ++ (current ∷ []) ≡ order_to g i ++ map (λ r. r.slice) v.past =
            append_assoc (order_to g i) (map (λ r. r.slice) t.w.past) (current ∷ [])
            ∙ ap (λ (z : List ℕ). order_to g i ++ z) (sym (map-append (λ r. r.slice) t.w.past (round_of R t.w ∷ []) ∙ ap (λ (z : ℕ). map (λ r. r.slice) t.w.past ++ (z ∷ [])) t.current-is)) in
            let l = begun-put rounds _ chain₀ p.slices chain current t.listed t.low t.lines in
            let d : Begun (rounds + 1) (order_to g i ++ map (λ r. r.slice) v.past) chain₀ p.slices (set chain rounds current) =
            subst (λ (z : List ℕ). Begun (rounds + 1) z chain₀ p.slices (set chain rounds current)) c l in
            record {
              w = v;
              left = f;
              going = u;
              roomy = y;
              first-is = t.first-is;
              current-is = refl;
              built-is = b;
              marks-is = m;
              whole = sym (walk-onto R f j t.w onto-is) ∙ subst (λ (z : ℕ). walk R z (next_of R t.w) t.w ≡ chain_at g i) s t.whole;
              enough = omega (arith, t.enough, placed-longer R (among g) (order_to g i) t.w j);
              listed = d;
              beyond = λ z h. x.added.grown.beyond z (omega (arith, joins, t.some)) ∙ t.beyond z h;
              hung = rw x.marks (hung-visit points visited i by link' p.slices p.starts j k.hung);
              links = same ∙ t.links;
              sound = t.sound;
              table = t.table;
              size = x.added.grown.size ∙ t.size;
              some = x.added.some;
              fits = omega (arith, fits-of g i v u y, ap length b ∙ chain_length room' n');
              long = t.long;
              low = omega (arith, low_of g i v u, d.counted);
              marked = ap length (sym m) ∙ marked-of g i v u;
              lines = rw (length-set chain rounds current) t.lines;
              kept = length-set chain rounds current ∙ t.kept;
            }

      pub walk_end : {how : ℕ} → r ≡ Ends how → Walked g i points by room₀ chain₀ (record { verts = n; rounds = rounds + 1; how = how }) visited link' room (set chain rounds current)
      unfolding ended
      walk_end {how} q =
          let x = ends_of_lem (next_of R t.w) how (sym q ∙ told) in
          let e : chain_at g i ≡ ended R t.w x.0 =
          sym t.whole ∙ walk_ends R t.left x.0 t.w x.1 in
          let c : (order_to g i ++ map (λ r. r.slice) t.w.past) ++ (current ∷ []) ≡ order_to g i ++ slices_of (chain_at g i).chain =
          append_assoc (order_to g i) (map (λ r. r.slice) t.w.past) (current ∷ [])
          ∙ ap (λ (z : List ℕ). order_to g i ++ z) (ap (λ (z : ℕ). map (λ r. r.slice) t.w.past ++ (z ∷ [])) (sym t.current-is) ∙ sym (ap (λ (z : Finished (List Vertex)). slices_of z.chain) e ∙ ended-slices R (among g) t.w x.0)) in
          let l = begun-put rounds _ chain₀ p.slices chain current t.listed t.low t.lines in
          record {
            marks = sym (ap (λ (z : Finished (List Vertex)). z.visited) e ∙ t.marks-is);
            marked = t.marked;
            hung = record { before = i; hung = k.hung };
            built = sym (ap (λ (z : Finished (List Vertex)). z.chain.built) e ∙ t.built-is);
            some = t.some;
            fits = t.fits;
            how = x.2 ∙ sym (ap (λ (z : Finished (List Vertex)). how_of z.chain.ending) e);
            listed = subst (λ (z : List ℕ). Begun (rounds + 1) z chain₀ p.slices (set chain rounds current)) c l;
            few = omega (arith, t.low);
            beyond = t.beyond;
            size = t.size;
          }

pub ruleset walking = (open-place, walk_start, walk_more)
