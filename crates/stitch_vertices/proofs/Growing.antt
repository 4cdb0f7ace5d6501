-- Laws by which a chain grows in its room.
use Prim.Native.Nat.{ℕ, zero, suc, ◌+◌, ◌-◌, ◌*◌, ◌≤◌, ◌<◌}
use mathlib.Core.Bool.{Bool, true, false, false≢true}
use mathlib.Core.Path.{◌≡◌, refl, ◌∙◌, subst, sym}
use mathlib.Core.List.{List, [], ◌∷◌}
use native.Mathlib.Numerals.{add-one}
use native.Mathlib.Omega.{arith}
use lib.ListN.{length, get_or, set, length-set}
use lib.Seq.{sets, get_or-set_same, get_or-set_other, drop-set-lt}
use lib.Ieee.{Float, nan}
use Rattle.basis.specs.declared.number.Tolerance.{Tolerance}
use Rattle.outline.specs.declared.point.Vertex.{Vertex}
use Rattle.outline.specs.declared.point.Point.{Point}
use Rattle.outline.specs.Points.{pos_of, points_agree, vertex_numbers}
use Rattle.outline.specs.Outline.{vertex_at}
use Rattle.view.specs.declared.data.ViewData.{ViewData}
use Rattle.view.specs.View.{vertex_of, vertex_count}
use Rattle.stitch_vertices.specs.Vertices.{add_vertex, add_first, add_view}
use Rattle.stitch_vertices.specs.Held.{chain_of, repeats, OneMore, Grown, Added, ViewMore, Extended}

-- ---- is it a repeat?

module _ (t : Tolerance) (room : List Float) (v : Vertex) where
  pub repeat-none : (n : ℕ) → n ≡ 0 → false ≡ repeats t (chain_of room n) v
  unfolding chain_of repeats
  repeat-none n e = rw e

  pub repeat-last : (n : ℕ) (last : Vertex) (p q : Point) (r : Bool) → (n ≡ 0 → ⊥) → last ≡ vertex_at room (n - 1) → p ≡ pos_of last → q ≡ pos_of v
      → r ≡ points_agree t p q → r ≡ repeats t (chain_of room n) v
  unfolding chain_of repeats
  repeat-last zero last p q r h e f g k = absurd (h refl)
  repeat-last (suc n) last p q r h e f g k = let m : suc n - 1 ≡ n = omega arith in k ∙ rw (f, g, e, m)

  -- a chain whose last vertex is repeated has a vertex
  pub repeat-some : (n : ℕ) → repeats t (chain_of room n) v ≡ true → 0 < n
  unfolding chain_of repeats
  repeat-some zero e = absurd (false≢true e)
  repeat-some (suc n) e = omega arith

pub ruleset repeating = (repeat-none, repeat-last)

-- ---- stores

-- a store at or past the chain's end leaves the chain
pub chain-set : (room : List Float) (n i : ℕ) (a : Float) → 3 * n ≤ i → chain_of (set room i a) n ≡ chain_of room n
unfolding chain_of vertex_at
chain-set room zero i a h = refl
chain-set room (suc n) i a h =
    simp (
      get_or-set_other room i (3 * n) a nan (λ e. omega arith),
      get_or-set_other room i (3 * n + 1) a nan (λ e. omega arith),
      get_or-set_other room i (3 * n + 2) a nan (λ e. omega arith),
      chain-set room n i a (omega arith),
    )

-- the three numbers of a vertex, read back
module _ (l : List Float) (a : ℕ) (x y z : Float) (h : a + 3 ≤ length l) where
  first-of : get_or (sets l a (x ∷ y ∷ z ∷ [])) a nan ≡ x
  first-of =
      get_or-set_other (set (set l a x) (suc a) y) (suc (suc a)) a z nan (λ e. omega arith) ∙ get_or-set_other (set l a x) (suc a) a y nan (λ e. omega arith) ∙ get_or-set_same l a x nan (omega arith)

  second-of : get_or (sets l a (x ∷ y ∷ z ∷ [])) (suc a) nan ≡ y
  second-of = get_or-set_other (set (set l a x) (suc a) y) (suc (suc a)) (suc a) z nan (λ e. omega arith) ∙ get_or-set_same (set l a x) (suc a) y nan (simp length-set (omega arith))

  third_of : get_or (sets l a (x ∷ y ∷ z ∷ [])) (suc (suc a)) nan ≡ z
  third_of = get_or-set_same (set (set l a x) (suc a) y) (suc (suc a)) z nan (simp length-set (omega arith))

chain-put : (room : List Float) (n : ℕ) (v : Vertex) → 3 * n + 3 ≤ length room → chain_of (sets room (3 * n) (vertex_numbers v)) (suc n) ≡ v ∷ chain_of room n
unfolding chain_of vertex_at
chain-put room n v h =
    let p : 3 * n + 1 ≡ suc (3 * n) = omega arith in
    let q : 3 * n + 2 ≡ suc (suc (3 * n)) = omega arith in
    let k : 3 * n ≤ 3 * n = omega arith in
    let k1 : 3 * n ≤ suc (3 * n) = omega arith in
    let k2 : 3 * n ≤ suc (suc (3 * n)) = omega arith in
    simp (
      p,
      q,
      first-of room (3 * n) v.x v.y v.bulge h,
      second-of room (3 * n) v.x v.y v.bulge h,
      third_of room (3 * n) v.x v.y v.bulge h,
      chain-set (set (set room (3 * n) v.x) (suc (3 * n)) v.y) n (suc (suc (3 * n))) v.bulge k2,
      chain-set (set room (3 * n) v.x) n (suc (3 * n)) v.y k1,
      chain-set room n (3 * n) v.x k,
    )

-- ---- the two ways of adding

chain-bulge : (t : Tolerance) (room : List Float) (n : ℕ) (v : Vertex) → 3 * n ≤ length room → repeats t (chain_of room n) v ≡ true
    → chain_of (set room (3 * n - 1) v.bulge) n ≡ add_vertex t (chain_of room n) v
unfolding chain_of repeats add_vertex vertex_at
chain-bulge t room zero v h e = absurd (false≢true e)
chain-bulge t room (suc n) v h e =
    let p : 3 * suc n - 1 ≡ 3 * n + 2 = omega arith in
    let P : ℕ → Type 0 = λ m. chain_of (set room m v.bulge) (suc n) ≡ add_vertex t (chain_of room (suc n)) v in
    subst P (sym p)
    (rw e
    (simp (
      get_or-set_same room (3 * n + 2) v.bulge nan (omega arith),
      get_or-set_other room (3 * n + 2) (3 * n) v.bulge nan (λ q. omega arith),
      get_or-set_other room (3 * n + 2) (3 * n + 1) v.bulge nan (λ q. omega arith),
      chain-set room n (3 * n + 2) v.bulge (omega arith),
    )))

chain-new : (t : Tolerance) (vs : List Vertex) (v : Vertex) → repeats t vs v ≡ false → v ∷ vs ≡ add_vertex t vs v
unfolding repeats add_vertex
chain-new t [] v e = refl
chain-new t (last ∷ vs) v e = rw e

module _ (t : Tolerance) (v : Vertex) (n : ℕ) (room : List Float) (x : Bool) where
  -- where the last one's bulge stands
  pub bulge-place : x ≡ repeats t (chain_of room n) v → x ≡ true → 1 ≤ 3 * n
  bulge-place e h = let s : repeats t (chain_of room n) v ≡ true = cc in omega (arith, repeat-some t room v n s)

  pub added-bulge : OneMore room n → x ≡ repeats t (chain_of room n) v → x ≡ true → Added t v n room n (set room (3 * n - 1) v.bulge)
  added-bulge f e h =
      let s : repeats t (chain_of room n) v ≡ true = cc in
      let p : 0 < n = repeat-some t room v n s in
      record {
        grown =
            record {
              chain = chain-bulge t room n v (omega arith) s;
              beyond = λ w k. drop-set-lt w room (3 * n - 1) v.bulge (omega arith);
              size = length-set room (3 * n - 1) v.bulge;
              low = omega arith;
              high = omega arith;
            };
        some = p;
      }

  pub added_new : (room' : List Float) → OneMore room n → x ≡ repeats t (chain_of room n) v → x ≡ false → room' ≡ sets room (3 * n) (vertex_numbers v) → Added t v n room (n + 1) room'
  added_new room' f e h q =
      let s : repeats t (chain_of room n) v ≡ false = cc in
      rw q
      (record {
        grown =
            record {
              chain = rw add-one (chain-put room n v f.fits ∙ chain-new t (chain_of room n) v s);
              beyond =
                  λ w k.
                  let k0 : 3 * n < w = omega arith in
                  let k1 : suc (3 * n) < w = omega arith in
                  let k2 : suc (suc (3 * n)) < w = omega arith in
                  simp drop-set-lt;
              size = simp length-set;
              low = omega arith;
              high = omega arith;
            };
        some = omega arith;
      })

pub ruleset adding = (bulge-place, added-bulge, added_new)

-- ---- the loop over a view's vertices: k of them have been added

pub record Adding (t : Tolerance) (f : ℕ → Vertex) (most n : ℕ) (room : List Float) (r : ℕ) (room' : List Float) (k : ℕ) : Type 0 where
  pub grown : Grown (add_first t f k (chain_of room n)) k n room r room'
  pub some : 0 < k → 0 < r
  pub upto : k ≤ most

module _ (t : Tolerance) (f : ℕ → Vertex) (most n : ℕ) (room : List Float) where
  pub adding-none : Adding t f most n room n room 0
  unfolding add_first
  adding-none =
      record {
        grown = record { chain = refl; beyond = λ w h. refl; size = refl; low = omega arith; high = omega arith };
        some = λ h. absurd (omega arith);
        upto = omega arith;
      }

  pub adding-more : (r : ℕ) (room' : List Float) (k : ℕ) (v : Vertex) (r' : ℕ) (room'' : List Float) → Adding t f most n room r room' k → k < most → v ≡ f k
      → Added t v r room' r' room'' → Adding t f most n room r' room'' (k + 1)
  unfolding add_first
  adding-more r room' k v r' room'' a h e b =
      let p = a.grown in
      let q = b.grown in
      let u : r ≤ n + k = p.high in
      record {
        grown =
            record {
              chain = rw add-one (q.chain ∙ rw (e, p.chain));
              beyond = λ w z. q.beyond w (omega arith) ∙ p.beyond w (omega arith);
              size = q.size ∙ p.size;
              low = omega (arith, p.low, q.low);
              high = omega (arith, p.high, q.high);
            };
        some = λ z. b.some;
        upto = omega arith;
      }

-- all vertices of the view have been added
pub adding-end : (t : Tolerance) (o : List Float) (vc : ℕ) (v : ViewData) (n : ℕ) (room : List Float) (r : ℕ) (room' : List Float) (k : ℕ)
    → Adding t (vertex_of o vc v) (vertex_count v) n room r room' k → vertex_count v ≤ k → Extended t o vc v n room r room'
unfolding add_view
adding-end t o vc v n room r room' k a h =
    let e : k ≡ vertex_count v = omega (arith, a.upto) in
    record { grown = rw e at a.grown; some = a.some (omega arith) }

-- there is room for one vertex more
pub adding-fits : (t : Tolerance) (f : ℕ → Vertex) (n : ℕ) (room : List Float) (r : ℕ) (room' : List Float) (k : ℕ) (o : List Float) (vc : ℕ) (v : ViewData)
    → ViewMore room n o vc v → Adding t f (vertex_count v) n room r room' k → k < vertex_count v → OneMore room' r
adding-fits t f n room r room' k o vc v m a h = record { fits = omega (arith, m.fits, a.grown.high, a.grown.size) }

pub ruleset extending = (adding-none, adding-more, adding-end, adding-fits)
