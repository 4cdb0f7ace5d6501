-- Laws of the loop along the cuts.
use Rattle.std.specs.Prelude.{Option, Some, None}
use Prim.Native.Nat.{ℕ, ◌+◌, ◌≤◌, ◌<◌, zero-le}
use mathlib.Core.Bool.{Bool, true, false, cond}
use mathlib.Core.Path.{◌≡◌, refl, sym, ap, subst, ◌∙◌}
use mathlib.Core.List.{List, [], ◌∷◌, ◌++◌}
use native.Mathlib.Numerals.{add-one}
use native.Mathlib.Omega.{arith}
use lib.Dec.{eqb}
use lib.ListN.{length}
use lib.IntN.{ℤ}
use borrow.Author.Tests.{eq-eqb, ne_eqb}
use Rattle.slice.specs.declared.data.Codes.{Codes}
use Rattle.slice.specs.declared.data.Shape.{Shape}
use Rattle.slice.specs.Slice as slice
use Rattle.slice.specs.Slice.{slice_of}
use Rattle.slice.specs.Ready.{Rooms, PutFit, Placed}
use Rattle.slice.specs.PutLaws.{placed-none, placed-then, placed_at, placed-shape, placed-edition}
use Rattle.candidate.specs.declared.at_cut.Candidate.{Candidate}
use Rattle.candidate.specs.Candidates.{Given, candidate_at}
use Rattle.prune.specs.declared.mode.Part.{Part}
use Rattle.prune_put.specs.Ready.{Wrote}
use Rattle.straight_cut.specs.Inside.{inside_of, InsideFit, KnownProbe}
use Rattle.straight_along.specs.Stays.{view_codes, view_shape, stays_of, stays_to}
use Rattle.straight_along.specs.Ready.{StayFit, PlacesRoom}

module _ (other : List ℤ) (edition : ℕ) (part : Part) where
  -- ---- one candidate
  module _ (c : Option Candidate) (l : Rooms) (n : ℕ) where
    pub stay-nothing : c ≡ None → Placed (stays_of other edition part c) l n n l
    unfolding stays_of
    stay-nothing e = rw e (placed-none l n)

    module _ (d : Candidate) (is : c ≡ Some d) (k : ℕ) (told : k ≡ inside_of other d.from d.to) where
      pub stay-not : (k ≡ part.keep → ⊥) → Placed (stays_of other edition part c) l n n l
      unfolding stays_of
      stay-not h = rw (is, ← told, ne_eqb k part.keep h) (placed-none l n)

      pub stay-put : k ≡ part.keep → (x : Codes) (s : Shape) (l' : Rooms) → x ≡ view_codes part d.view → s ≡ view_shape d.view → Placed (slice_of x s edition ∷ []) l n (n + 1) l'
          → Placed (stays_of other edition part c) l n (n + 1) l'
      unfolding stays_of
      stay-put h x s l' e f p =
          let q : Placed (slice_of (view_codes part d.view) (view_shape d.view) edition ∷ []) l n (n + 1) l' = subst (λ (y : slice.Slice). Placed (y ∷ []) l n (n + 1) l') (λ i. slice_of (e i) (f i) edition) p in
          rw (is, ← told, eq-eqb k part.keep h) q

  -- ---- at most one at each place
  one-few : {A : Type 0} (b : Bool) (x : A) → length (cond b (x ∷ []) []) ≤ 1
  one-few true x = omega arith
  one-few false x = zero-le

  stays-few : (c : Option Candidate) → length (stays_of other edition part c) ≤ 1
  unfolding stays_of
  stays-few None = zero-le
  stays-few (Some c) = one-few (eqb (inside_of other c.from c.to) part.keep) _

-- ---- the first p places were looked at, and the slices end at n
pub record Walking (g : Given) (other : List ℤ) (vc edition : ℕ) (part : Part) (l : Rooms) (m : ℕ) (l' : Rooms) (n p : ℕ) : Type 0 where
  pub ready : PlacesRoom g other vc l m
  pub ahead : p ≤ g.count
  pub few : n ≤ m + p
  pub placed : Placed (stays_to other edition part g p) l m n l'
  pub size-at : length l'.at ≡ length l.at
  pub size-shape : length l'.shape ≡ length l.shape
  pub size-edition : length l'.edition ≡ length l.edition

module _ (g : Given) (other : List ℤ) (vc edition : ℕ) (part : Part) (l : Rooms) (m : ℕ) where
  pub walk_none : PlacesRoom g other vc l m → Walking g other vc edition part l m l m 0
  unfolding stays_to
  walk_none r = record { ready = r; ahead = zero-le; few = omega arith; placed = placed-none l m; size-at = refl; size-shape = refl; size-edition = refl }

  module _ (l' : Rooms) (n p : ℕ) (w : Walking g other vc edition part l m l' n p) where
    pub walk-fit : (c : Option Candidate) → p < g.count → c ≡ candidate_at g p → StayFit c other vc l' n
    walk-fit c h e =
        let r = w.ready in
        record {
          known = subst KnownProbe (sym e) (r.known p h);
          outline = r.outline;
          low = omega (arith, r.low, r.sound.few, w.few);
          roomy = record { at = omega (arith, r.roomy.at, w.size-at, w.few); shape = omega (arith, r.roomy.shape, w.size-shape, w.few); edition = omega (arith, r.roomy.edition, w.size-edition, w.few) };
        }

    pub walk_more : (c : Option Candidate) (l'' : Rooms) (n' : ℕ) → p < g.count → c ≡ candidate_at g p → Placed (stays_of other edition part c) l' n n' l'' → Walking g other vc edition part l m l'' n' (p + 1)
    walk_more c l'' n' h e q =
        let s = stays_of other edition part c in
        let next : stays_to other edition part g (p + 1) ≡ stays_to other edition part g p ++ s = rw (add-one p) (unfold stays_to in ap (λ (d : Option Candidate). stays_to other edition part g p ++ stays_of other edition part d) (sym e)) in
        record {
          ready = w.ready;
          ahead = omega arith;
          few = omega (arith, w.few, q.counted, stays-few other edition part c);
          placed = rw next (placed-then (stays_to other edition part g p) s l l' l'' m n n' w.placed q);
          size-at = placed_at s l' l'' n n' q ∙ w.size-at;
          size-shape = placed-shape s l' l'' n n' q ∙ w.size-shape;
          size-edition = placed-edition s l' l'' n n' q ∙ w.size-edition;
        }

    pub walk_end : g.count ≤ p → Wrote (stays_to other edition part g g.count) g.count l m n l'
    walk_end h =
        let e : p ≡ g.count = omega (arith, w.ahead) in
        record { placed = rw e at w.placed; few = omega (arith, w.few); size-at = w.size-at; size-shape = w.size-shape; size-edition = w.size-edition }

module _ (c : Option Candidate) (other : List ℤ) (vc : ℕ) (room : Rooms) (n : ℕ) (f : StayFit c other vc room n) where
  pub stay-ask : (d : Candidate) → c ≡ Some d → InsideFit other vc d.from d.to
  stay-ask d e = let k : KnownProbe (Some d) = subst KnownProbe e f.known in record { outline = f.outline; xs = k.0; ys = k.1 }

  pub stay-fit : PutFit room n
  stay-fit = record { low = f.low; roomy = f.roomy }

pub ruleset stays = (stay-nothing, stay-not, stay-put, stay-ask, stay-fit)

pub ruleset walking = (walk_none, walk-fit, walk_more, walk_end)
