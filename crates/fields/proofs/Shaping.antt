-- The loops over a shape's fields: what is left to do, over what is done, is the whole. A pass takes one field off what is left.
use Prim.Native.Nat.{ℕ, suc, ◌+◌, ◌≤◌, ◌<◌}
use mathlib.Core.Path.{◌≡◌, refl, ap, ◌∙◌}
use mathlib.Core.List.{List, [], ◌∷◌}
use native.Mathlib.Omega.{arith}
use native.Mathlib.Numerals.{add-one}
use lib.ListN.{length, get_or, set, drop, length-set, drop_of_length-le}
use lib.Seq.{drop-cons, drop-drop, sets, length-sets}
use Rattle.fields.specs.Fields.{size, bytes_of, pack, unpack}
use Rattle.fields.specs.Ready.{Narrow, narrow_one, Fitted, fit_none, fit-one, FieldAt, Value, ShapeAt, ShapeRead, ShapeFrom}
use Rattle.fields.specs.FieldLaws.{length-bytes}
use Rattle.basis.specs.StoreLaws.{sets_then}

-- field i is the first of what is left
next : (s : List ℕ) (i : ℕ) → i < length s → drop i s ≡ get_or s i 0 ∷ drop (i + 1) s
next s i h = rw add-one (drop-cons s i 0 h)

narrow-first : {w : ℕ} {ws : List ℕ} → Narrow (w ∷ ws) → w ≤ 8
narrow-first (narrow_one h r) = h

narrow_rest : {w : ℕ} {ws : List ℕ} → Narrow (w ∷ ws) → Narrow ws
narrow_rest (narrow_one h r) = r

-- ---- reading
pub record Reading (b : List ℕ) (at : ℕ) (ws vs : List ℕ) (to : ℕ) (vs' : List ℕ) (p i : ℕ) : Type 0 where
  pub narrow : Narrow (drop i ws)
  pub within : i ≤ length ws
  pub inside : p + size (drop i ws) ≤ length b
  pub target : to + length ws ≤ length vs
  pub long : length vs' ≡ length vs
  pub state : sets vs' (to + i) (unpack (drop i ws) (drop p b)) ≡ sets vs to (unpack ws (drop at b))
  pub fits : Fitted (drop i ws) (unpack (drop i ws) (drop p b)) → Fitted ws (unpack ws (drop at b))

pub reading-none : (b : List ℕ) (at : ℕ) (ws vs : List ℕ) (to : ℕ) → ShapeAt (length b) at ws (length vs) to → Reading b at ws vs to vs at 0
reading-none b at ws vs to h =
    let e : to + 0 ≡ to = omega arith in
    record {
      narrow = h.narrow;
      within = omega arith;
      inside = h.inside;
      target = h.target;
      long = refl;
      state = rw e;
      fits = λ f. f;
    }

module _ {b : List ℕ} {at : ℕ} {ws vs : List ℕ} {to : ℕ} {vs' : List ℕ} {p i : ℕ} (g : Reading b at ws vs to vs' p i) (h : i < length ws) where
  pub reading-field : FieldAt b p (get_or ws i 0)
  unfolding size
  reading-field =
      record {
        thin = narrow-first (rw (next ws i h) at g.narrow);
        inside = omega (arith, rw (next ws i h) at g.inside);
      }

  pub reading-more : (v : ℕ) → Value b p (get_or ws i 0) v → Reading b at ws vs to (set vs' (to + i) v) (p + get_or ws i 0) (i + 1)
  unfolding unpack size
  reading-more v a =
      let w = get_or ws i 0 in
      let d : drop w (drop p b) ≡ drop (p + w) b = drop-drop w p b in
      let t : to + (i + 1) ≡ suc (to + i) = omega arith in
      record {
        narrow = narrow_rest (rw (next ws i h) at g.narrow);
        within = omega arith;
        inside = omega (arith, rw (next ws i h) at g.inside);
        target = g.target;
        long = length-set vs' (to + i) v ∙ g.long;
        state = rw (t, a.value, ← d) (rw (next ws i h) at g.state);
        fits = λ f. (rw (next ws i h) at g.fits) (fit-one (rw a.value at a.below) (rw d f));
      }

pub reading-end : {b : List ℕ} {at : ℕ} {ws vs : List ℕ} {to : ℕ} {vs' : List ℕ} {p i : ℕ}
    → Reading b at ws vs to vs' p i → length ws ≤ i → ShapeRead b at ws vs vs' to
unfolding unpack
reading-end {b} {at} {ws} {vs} {to} {vs'} {p} {i} g h =
    let e : drop i ws ≡ [] = drop_of_length-le ws h in
    record { values = rw e at g.state; fitted = (rw e at g.fits) fit_none }

-- ---- writing
pub record Writing (vs : List ℕ) (from : ℕ) (ws l : List ℕ) (at : ℕ) (l' : List ℕ) (p i : ℕ) : Type 0 where
  pub source : from + length ws ≤ length vs
  pub within : i ≤ length ws
  pub inside : p + size (drop i ws) ≤ length l
  pub long : length l' ≡ length l
  pub state : sets l' p (pack (drop i ws) (drop (from + i) vs)) ≡ sets l at (pack ws (drop from vs))

pub writing-none : (vs : List ℕ) (from : ℕ) (ws l : List ℕ) (at : ℕ) → ShapeFrom (length vs) from ws (length l) at → Writing vs from ws l at l at 0
writing-none vs from ws l at h =
    let e : from + 0 ≡ from = omega arith in
    record { source = h.source; within = omega arith; inside = h.inside; long = refl; state = rw e }

module _ {vs : List ℕ} {from : ℕ} {ws l : List ℕ} {at : ℕ} {l' : List ℕ} {p i : ℕ} (g : Writing vs from ws l at l' p i) (h : i < length ws) where
  pub writing-inside : p + get_or ws i 0 ≤ length l'
  unfolding size
  writing-inside = omega (arith, g.long, rw (next ws i h) at g.inside)

  pub writing_more : {l'' : List ℕ} → l'' ≡ sets l' p (bytes_of (get_or ws i 0) (get_or vs (from + i) 0)) → Writing vs from ws l at l'' (p + get_or ws i 0) (i + 1)
  unfolding pack size
  writing_more {l''} e =
      let w = get_or ws i 0 in
      let v = get_or vs (from + i) 0 in
      let k : from + i < length vs = omega (arith, g.source) in
      let t : from + (i + 1) ≡ from + i + 1 = omega arith in
      record {
        source = g.source;
        within = omega arith;
        inside = omega (arith, rw (next ws i h) at g.inside);
        long = ap length e ∙ length-sets l' p (bytes_of w v) ∙ g.long;
        state =
            rw (e, t)
            (sets_then l' p w (bytes_of w v) (pack (drop (i + 1) ws) (drop (from + i + 1) vs)) (length-bytes w v)
            ∙ rw (next ws i h, next vs (from + i) k) at g.state);
      }

pub writing-end : {vs : List ℕ} {from : ℕ} {ws l : List ℕ} {at : ℕ} {l' : List ℕ} {p i : ℕ}
    → Writing vs from ws l at l' p i → length ws ≤ i → l' ≡ sets l at (pack ws (drop from vs))
unfolding pack
writing-end {ws = ws} {i = i} g h = rw (drop_of_length-le ws h) at g.state
