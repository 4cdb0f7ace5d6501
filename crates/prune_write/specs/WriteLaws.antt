-- Laws of the two loops that write slices, and of the whole call.
use Prim.Native.Nat.{ℕ, zero, suc, ◌+◌, ◌*◌, ◌≤◌, ◌<◌, zero-le}
use Rattle.std.specs.Prelude.{Bool, cond, ◌≡◌, eqb, get_or, drop}
use Rattle.std.proofs.Math.Bool.{true, false}
use Rattle.std.proofs.Math.Path.{refl, sym, ap}
use Rattle.std.proofs.Common.{◌∙◌, add-one, arith, eq-eqb, ne_eqb}
use mathlib.Core.List.{List, [], ◌∷◌, ◌++◌, append-nil, append_assoc}
use Rattle.std.proofs.Math.ListN.{length, length-append}
use Rattle.std.proofs.lemmas.List.{length-map}
use Rattle.std.proofs.lemmas.List.Edits.{sets}
use Rattle.basis.specs.Number.{+0}
use Rattle.basis.specs.StoreLaws.{sets-front}
use Rattle.basis.specs.RoomLaws.{room-left}
use Rattle.slice.specs.Slice.{code_width, shape_width, Slice}
use Rattle.slice.specs.Ready.{Rooms, Roomy, Placed}
use Rattle.slice.specs.PutLaws.{codes-length, shapes-length, placed-none, placed-then, placed_at, placed-shape, placed-edition}
use Rattle.prune.specs.declared.call.Call.{Call}
use Rattle.prune.specs.declared.mode.Part.{Part}
use Rattle.prune.specs.declared.mode.Parts.{Parts}
use Rattle.prune.specs.declared.counts.Ends.{Ends}
use Rattle.prune.specs.declared.counts.Pruned.{Pruned}
use Rattle.prune.specs.Prune.{Cands, Overlaps, Given, given, cand_slice, lap_slice, kept_to, laps_to, parts_for, kept_first, kept_second, laps_for, slices_of, need_of, pruned_at, pruned_of, slice_codes, slice_shapes, slice_editions}
use Rattle.prune_write.specs.Ready.{Ready, BothFit, BothWritten, TwiceWritten, KeepFit, LapsFit, FinishFit, Finished, WrittenTo, Written}
use Rattle.prune_put.specs.Ready.{ItemFit, Wrote, Cleared}

-- ---- how many

one-few : {A : Type 0} (b : Bool) (x : A) → length (cond b (x ∷ []) []) ≤ 1
one-few true x = omega arith
one-few false x = zero-le

pub kept-few : (c : Cands) (p : Part) (k : ℕ) → length (kept_to c p k) ≤ k
unfolding kept_to
kept-few c p zero = zero-le
kept-few c p (suc k) =
    let h = kept-few c p k in
    let e = length-append (kept_to c p k) (cond (eqb (get_or c.inside k 0) p.keep) (cand_slice c p k ∷ []) []) in
    let f = one-few (eqb (get_or c.inside k 0) p.keep) (cand_slice c p k) in
    omega arith

pub laps-all : (o : Overlaps) (first : Bool) (j : ℕ) → length (laps_to o first j) ≡ j
unfolding laps_to
laps-all o first zero = refl
laps-all o first (suc j) = length-append (laps_to o first j) (lap_slice o first j ∷ []) ∙ rw (laps-all o first j) (omega arith)

-- ---- the kept of one outline: the first i candidates were looked at, and the slices end at n
pub record Keeping (c : Cands) (count : ℕ) (p : Part) (l : Rooms) (m : ℕ) (l' : Rooms) (n i : ℕ) : Type 0 where
  pub ahead : i ≤ count
  pub few : n ≤ m + i
  pub placed : Placed (kept_to c p i) l m n l'
  pub size-at : length l'.at ≡ length l.at
  pub size-shape : length l'.shape ≡ length l.shape
  pub size-edition : length l'.edition ≡ length l.edition

module _ (c : Cands) (count : ℕ) (p : Part) (l : Rooms) (m : ℕ) where
  pub keep-none : Keeping c count p l m l m 0
  unfolding kept_to
  keep-none = record { ahead = zero-le; few = omega arith; placed = placed-none l m; size-at = refl; size-shape = refl; size-edition = refl }

  pub keep-fit : (l' : Rooms) (n i : ℕ) → Keeping c count p l m l' n i → i < count → KeepFit c count l m → ItemFit 2 c.at c.shape c.edition i l' n
  keep-fit l' n i k h f =
      record {
        codes = omega (arith, f.cands.at);
        shape-there = record { inside = omega (arith, f.cands.shape) };
        edition-there = omega (arith, f.cands.edition);
        put =
            record {
              low = omega (arith, f.low, f.cands.few);
              roomy = record { at = omega (arith, f.roomy.at, k.size-at); shape = omega (arith, f.roomy.shape, k.size-shape); edition = omega (arith, f.roomy.edition, k.size-edition, k.few) };
            };
      }

  kept-no : (i : ℕ) → (get_or c.inside i 0 ≡ p.keep → ⊥) → kept_to c p (i + 1) ≡ kept_to c p i
  kept-no i e = rw (add-one i) (unfold kept_to in rw (ne_eqb (get_or c.inside i 0) p.keep e, append-nil))

  kept-yes : (i : ℕ) → get_or c.inside i 0 ≡ p.keep → kept_to c p (i + 1) ≡ kept_to c p i ++ (cand_slice c p i ∷ [])
  kept-yes i e = rw (add-one i) (unfold kept_to in rw (eq-eqb (get_or c.inside i 0) p.keep e))

  -- a candidate that does not stay
  pub keep-no : (l' : Rooms) (n i : ℕ) → Keeping c count p l m l' n i → i < count → (get_or c.inside i 0 ≡ p.keep → ⊥) → Keeping c count p l m l' n (i + 1)
  keep-no l' n i k h e =
      record { ahead = omega arith; few = omega (arith, k.few); placed = rw (kept-no i e) k.placed; size-at = k.size-at; size-shape = k.size-shape; size-edition = k.size-edition }

  -- one that stays, and was written
  pub keep-yes : (l' l'' : Rooms) (n i : ℕ) → Keeping c count p l m l' n i → i < count → get_or c.inside i 0 ≡ p.keep
      → Placed (cand_slice c p i ∷ []) l' n (n + 1) l'' → Keeping c count p l m l'' (n + 1) (i + 1)
  keep-yes l' l'' n i k b e w =
      record {
        ahead = omega arith;
        few = omega (arith, k.few);
        placed = rw (kept-yes i e) (placed-then (kept_to c p i) (cand_slice c p i ∷ []) l l' l'' m n (n + 1) k.placed w);
        size-at = placed_at (cand_slice c p i ∷ []) l' l'' n (n + 1) w ∙ k.size-at;
        size-shape = placed-shape (cand_slice c p i ∷ []) l' l'' n (n + 1) w ∙ k.size-shape;
        size-edition = placed-edition (cand_slice c p i ∷ []) l' l'' n (n + 1) w ∙ k.size-edition;
      }

  pub keep-end : (l' : Rooms) (n i : ℕ) → Keeping c count p l m l' n i → count ≤ i → Wrote (kept_to c p (count)) (count) l m n l'
  keep-end l' n i k h =
      let e : i ≡ count = omega arith in
      record { placed = rw e at k.placed; few = omega (arith, k.few); size-at = k.size-at; size-shape = k.size-shape; size-edition = k.size-edition }

pub ruleset keeping = (keep-none, keep-fit, keep-no, keep-yes, keep-end)

-- ---- the overlaps: the first j were written
pub record Lapping (o : Overlaps) (count : ℕ) (first : Bool) (l : Rooms) (m : ℕ) (l' : Rooms) (n j : ℕ) : Type 0 where
  pub ahead : j ≤ count
  pub few : n ≤ m + j
  pub placed : Placed (laps_to o first j) l m n l'
  pub size-at : length l'.at ≡ length l.at
  pub size-shape : length l'.shape ≡ length l.shape
  pub size-edition : length l'.edition ≡ length l.edition

module _ (o : Overlaps) (count : ℕ) (first : Bool) (l : Rooms) (m : ℕ) where
  pub lap-none : Lapping o count first l m l m 0
  unfolding laps_to
  lap-none = record { ahead = zero-le; few = omega arith; placed = placed-none l m; size-at = refl; size-shape = refl; size-edition = refl }

  pub lap-fit : (l' : Rooms) (n j : ℕ) → Lapping o count first l m l' n j → j < count → LapsFit o count l m → ItemFit 7 o.at o.shape o.edition j l' n
  lap-fit l' n j k h f =
      record {
        codes = omega (arith, f.laps.at);
        shape-there = record { inside = omega (arith, f.laps.shape) };
        edition-there = omega (arith, f.laps.edition);
        put =
            record {
              low = omega (arith, f.low, f.laps.few, k.few);
              roomy = record { at = omega (arith, f.roomy.at, k.size-at, k.few); shape = omega (arith, f.roomy.shape, k.size-shape, k.few); edition = omega (arith, f.roomy.edition, k.size-edition, k.few) };
            };
      }

  lap-next : (j : ℕ) → laps_to o first (j + 1) ≡ laps_to o first j ++ (lap_slice o first j ∷ [])
  lap-next j = rw (add-one j) (unfold laps_to in refl)

  pub lap-more : (l' l'' : Rooms) (n j : ℕ) → Lapping o count first l m l' n j → j < count → Placed (lap_slice o first j ∷ []) l' n (n + 1) l'' → Lapping o count first l m l'' (n + 1) (j + 1)
  lap-more l' l'' n j k b w =
      record {
        ahead = omega arith;
        few = omega (arith, k.few);
        placed = rw (lap-next j) (placed-then (laps_to o first j) (lap_slice o first j ∷ []) l l' l'' m n (n + 1) k.placed w);
        size-at = placed_at (lap_slice o first j ∷ []) l' l'' n (n + 1) w ∙ k.size-at;
        size-shape = placed-shape (lap_slice o first j ∷ []) l' l'' n (n + 1) w ∙ k.size-shape;
        size-edition = placed-edition (lap_slice o first j ∷ []) l' l'' n (n + 1) w ∙ k.size-edition;
      }

  pub lap-end : (l' : Rooms) (n j : ℕ) → Lapping o count first l m l' n j → count ≤ j → Wrote (laps_to o first (count)) (count) l m n l'
  lap-end l' n j k h =
      let e : j ≡ count = omega arith in
      record { placed = rw e at k.placed; few = omega (arith, k.few); size-at = k.size-at; size-shape = k.size-shape; size-edition = k.size-edition }

pub ruleset lapping = (lap-none, lap-fit, lap-more, lap-end)

-- ---- two parts, one behind the other
wrote_then : (xs ys : List Slice) (a b : ℕ) (l l' l'' : Rooms) (m k r : ℕ) → Wrote xs a l m k l' → Wrote ys b l' k r l'' → Wrote (xs ++ ys) (a + b) l m r l''
wrote_then xs ys a b l l' l'' m k r x y =
    record {
      placed = placed-then xs ys l l' l'' m k r x.placed y.placed;
      few = omega (arith, x.few, y.few);
      size-at = y.size-at ∙ x.size-at;
      size-shape = y.size-shape ∙ x.size-shape;
      size-edition = y.size-edition ∙ x.size-edition;
    }

module _ (call : Call) (c d : Cands) (l l₁ : Rooms) (a : ℕ) where
  pub both_of : (p : Parts) (l₂ : Rooms) (b : ℕ) → p ≡ parts_for call → Wrote (kept_to c p.first call.count1) call.count1 l 0 a l₁
      → Wrote (kept_to d p.second call.count2) call.count2 l₁ a b l₂ → BothWritten call c d l (record { first = a; second = b }) l₂
  both_of p l₂ b e x₀ y₀ =
      let x : Wrote (kept_to c (parts_for call).first call.count1) call.count1 l 0 a l₁ = rw e at x₀ in
      let y : Wrote (kept_to d (parts_for call).second call.count2) call.count2 l₁ a b l₂ = rw e at y₀ in
      record {
        first = omega (arith, x.placed.counted);
        wrote =
            wrote_then (kept_to c (parts_for call).first call.count1) (kept_to d (parts_for call).second call.count2) call.count1 call.count2 l l₁ l₂ 0 a b x y;
      }

  -- the second outline's candidates behind the first's
  pub both-next : (s : List Slice) → BothFit call c d l → Wrote s call.count1 l 0 a l₁ → KeepFit d call.count2 l₁ a
  both-next s f w =
      record {
        cands = f.second;
        low = omega (arith, w.few, f.first.few);
        roomy = record { at = omega (arith, w.few, w.size-at, f.roomy.at); shape = omega (arith, w.few, w.size-shape, f.roomy.shape); edition = omega (arith, w.few, w.size-edition, f.roomy.edition) };
      }

pub ruleset both = (both_of, both-next)

module _ (o : Overlaps) (n : ℕ) (l l₁ : Rooms) (m a : ℕ) where
  pub twice_of : (l₂ : Rooms) (b : ℕ) → Wrote (laps_to o true n) n l m a l₁ → Wrote (laps_to o false n) n l₁ a b l₂
      → TwiceWritten o n l m (record { first = a; second = b }) l₂
  twice_of l₂ b x y =
      let e : n + n ≡ 2 * n = omega arith in
      record {
        first = x.placed.counted;
        wrote = rw e at (wrote_then (laps_to o true n) (laps_to o false n) n n l l₁ l₂ m a b x y);
      }

-- then the rest is cleared
pub finished-of : (call : Call) (kept twice : Ends) (o : Overlaps) (l l₁ l₂ : Rooms) (need : ℕ) (r : Pruned) → FinishFit call kept o l → TwiceWritten o call.laps l kept.second twice l₁
    → need ≡ need_of call → Cleared l₁ twice.second need l₂ → r ≡ pruned_at kept twice → Finished call kept o l r l₂
finished-of call kept twice o l l₁ l₂ need r f w e c q =
    record { roomy = f.roomy; twice = twice; between = l₁; wrote = w; rest = rw e at c; answer = q }

-- ---- all four parts
record AllWritten (g : Given) (l : Rooms) (r : Pruned) (l' : Rooms) : Type 0 where
  answer : r ≡ pruned_of g
  wrote : Wrote (slices_of g) (need_of g.call) l 0 r.slices l'

pub fit-both : (call : Call) (c d : Cands) (laps : Overlaps) (l : Rooms) → Ready (given call c d laps) l → BothFit call c d l
fit-both call c d laps l f =
    record {
      first = f.first;
      second = f.second;
      roomy = record { at = omega (arith, f.roomy.at); shape = omega (arith, f.roomy.shape); edition = omega (arith, f.roomy.edition) };
    }

module _ (call : Call) (c d : Cands) (laps : Overlaps) (l l₁ : Rooms) (kept : Ends) where
  abbrev g : Given
  g = given call c d laps

  pub fit-finish : Ready g l → BothWritten call c d l kept l₁ → FinishFit call kept laps l₁
  fit-finish f w =
      record {
        few = f.few;
        laps = f.laps;
        within = omega (arith, w.wrote.few);
        roomy = record { at = omega (arith, w.wrote.size-at, f.roomy.at); shape = omega (arith, w.wrote.size-shape, f.roomy.shape); edition = omega (arith, w.wrote.size-edition, f.roomy.edition) };
      }

  all_of : (s : Ends) (l₂ : Rooms) → BothWritten call c d l kept l₁ → TwiceWritten laps call.laps l₁ kept.second s l₂ → AllWritten g l (pruned_at kept s) l₂
  unfolding slices_of pruned_of pruned_at
  all_of s l₂ x y =
      let a : List Slice = kept_first g in
      let b : List Slice = kept_second g in
      let n : kept.second ≡ length a + length b = omega (arith, x.wrote.placed.counted, length-append a b) in
      let k : s.second ≡ kept.second + (length (laps_for true g) + length (laps_for false g)) =
      y.wrote.placed.counted ∙ ap (λ (z : ℕ). kept.second + z) (length-append (laps_for true g) (laps_for false g)) in
      let u : s.second ≡ length a + length b + length (laps_for true g) + length (laps_for false g) = omega (arith, n, k) in
      let all : Wrote ((a ++ b) ++ (laps_for true g ++ laps_for false g)) (need_of call) l 0 s.second l₂ =
      wrote_then (a ++ b) (laps_for true g ++ laps_for false g) (call.count1 + call.count2) (2 * call.laps) l l₁ l₂ 0 kept.second s.second x.wrote y.wrote in
      record {
        answer = rw (u, x.first, y.first, n);
        wrote = rw append_assoc at all;
      }

  -- written from the front, a run is its items and then what was there
  front : {A : Type 0} (l l' vs : List A) (k : ℕ) → l' ≡ sets l 0 vs → k ≡ length vs → k ≤ length l → l' ≡ vs ++ drop k l
  front l l' vs k e n h = e ∙ sets-front l vs (omega arith) ∙ ap (λ (j : ℕ). vs ++ drop j l) (sym n)

  -- the four parts, and the rest cleared up to a need that is no less than the call's
  pub written-to : (need : ℕ) (s : Ends) (l₂ l₃ : Rooms) (r : Pruned) → need_of call ≤ need → Roomy need l₁ → BothWritten call c d l kept l₁ → TwiceWritten laps call.laps l₁ kept.second s l₂
      → Cleared l₂ s.second need l₃ → r ≡ pruned_at kept s → WrittenTo g need l r l₃
  unfolding pruned_at
  written-to need s m l₃ r more roomy x y rest answer =
      let n : ℕ = s.second in
      let all : AllWritten g l (pruned_at kept s) m = all_of s m x y in
      let few : n ≤ need = omega (arith, all.wrote.few) in
      let k : n ≡ length (slices_of g) = omega (arith, all.wrote.placed.counted) in
      let p : code_width * n ≡ length (slice_codes g) = rw k (sym (codes-length (slices_of g))) in
      let q : shape_width * n ≡ length (slice_shapes g) = rw k (sym (shapes-length (slices_of g))) in
      let e : n ≡ length (slice_editions g) = k ∙ sym (length-map (slices_of g) (λ x. x.edition)) in
      record {
        answer = answer ∙ all.answer;
        at =
            room-left 0 code_width need (slice_codes g) l.at m.at l₃.at (code_width * n) (code_width * need) rest.at
            (front l.at m.at (slice_codes g) (code_width * n) all.wrote.placed.at p (omega (arith, roomy.at, x.wrote.size-at))) p refl (omega arith);
        shape =
            room-left +0 shape_width need (slice_shapes g) l.shape m.shape l₃.shape (shape_width * n) (shape_width * need) rest.shape
            (front l.shape m.shape (slice_shapes g) (shape_width * n) all.wrote.placed.shape q (omega (arith, roomy.shape, x.wrote.size-shape))) q refl (omega arith);
        edition =
            room-left 0 1 need (slice_editions g) l.edition m.edition l₃.edition n need rest.edition
            (front l.edition m.edition (slice_editions g) n all.wrote.placed.edition e (omega (arith, roomy.edition, x.wrote.size-edition))) e (omega arith) few;
      }

  -- the call's own
  pub written_of : (l₂ : Rooms) (r : Pruned) → BothWritten call c d l kept l₁ → Finished call kept laps l₁ r l₂ → Written g l r l₂
  written_of l₂ r x f = written-to (need_of call) f.twice f.between l₂ r (omega arith) f.roomy x f.wrote f.rest f.answer
